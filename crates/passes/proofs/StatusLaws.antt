-- What the status of a clause says of its literals, place by place.
use Prim.Native.Nat.{ℕ, ◌≤◌}
use mathlib.Core.Path.{◌≡◌, refl, sym, ◌∙◌, subst}
use mathlib.Core.Logic.{inl}
use mathlib.Core.Bool.{Bool, true, false, ◌||◌}
use mathlib.Core.Option.{Option, none, some}
use mathlib.Core.List.{List, [], ◌∷◌}
use Rattle.meaning.specs.Clauses.{Literal, Clause, variable, any}
use Rattle.meaning.specs.Search.{Setting, value, says_true, has_true, only_false, keep_unset, unset_places, only_place, forced_by, first_place, open_in}
use Rattle.meaning.specs.Demands.{In}
use Rattle.laws.specs.Within.{UpTo, ClauseWithin}
use Rattle.laws.specs.Range.{literal_at}
use Rattle.laws.specs.Moves.{UnsetIn, forced_unset, no_place}
use Rattle.passes.specs.Sweep.{Status, met, failed, one, more, seen, by_value, status_from, status}

-- what the tests of a clause come to, after what was seen
abbrev summed : Bool → List Literal → Status → Status
summed true ls s = met
summed false [] s = s
summed false (l ∷ ls) s = summed false ls (seen s l)

summed_more : (b : Bool) (l : Literal) (ls : List Literal) (s : Status) → summed b (l ∷ ls) s ≡ summed b ls (seen s l)
summed_more true l ls s = refl
summed_more false l ls s = refl

status_summed : (v : Setting) (c : Clause) (s : Status) → status_from v s c ≡ summed (has_true v c) (unset_places v c) s
unfolding status_from by_value has_true any says_true unset_places keep_unset
status_summed v [] s = refl
status_summed v (l ∷ c) s = go (value v l) (status_summed v c)
  where
    go : (o : Option Bool) → ((t : Status) → status_from v t c ≡ summed (has_true v c) (unset_places v c) t)
        → by_value o l s (λ t. status_from v t c)
        ≡ summed (says_true o || has_true v c) (keep_unset o l (unset_places v c)) s
    go (some true) rest = refl
    go (some false) rest = rest s
    go none rest = rest (seen s l) ∙ sym (summed_more (has_true v c) l (unset_places v c) s)

-- what each status says
abbrev pub Means : Setting → Clause → Status → Type 0
Means v c met = has_true v c ≡ true
Means v c failed = only_false v c ≡ true
Means v c (one l) = forced_by v c ≡ some l
Means v c (more l) = (has_true v c ≡ false) × (forced_by v c ≡ none) × (open_in v c ≡ some l)

pub status_means : (v : Setting) (c : Clause) → Means v c (status v c)
unfolding status seen forced_by only_place open_in first_place
status_means v c =
    subst (Means v c) (sym (status_summed v c failed)) (go (has_true v c) (unset_places v c) refl refl)
  where
    -- two places or more
    first : (l : Literal) (ls : List Literal) → summed false ls (more l) ≡ more l
    first l [] = refl
    first l (k ∷ ls) = first l ls

    go : (b : Bool) (ls : List Literal) → has_true v c ≡ b → unset_places v c ≡ ls → Means v c (summed b ls failed)
    go true ls e p = e
    go false [] e p = no_place v c e p
    go false (l ∷ []) e p = cc
    go false (l ∷ k ∷ ls) e p = subst (Means v c) (sym (first l ls)) (e, cc, cc)

-- the range of the literal that a clause forces
pub one_range : (most : ℕ) (v : Setting) (c : Clause) (l : Literal) → ClauseWithin most c → status v c ≡ one l → variable l ≤ most
one_range most v c l h e = in_clause (forced_unset (c ∷ []) v l (c, inl refl, subst (Means v c) e (status_means v c)))
  where
    in_clause : UnsetIn (c ∷ []) v l → variable l ≤ most
    in_clause (d, mathlib.Core.Logic.inr x4, i, u) = elim x4 [ ]
    in_clause (d, inl same, i, u) = (literal_at (UpTo most) l c h (subst (λ (x : Clause). In l x) same i)).1

-- the first of the literals that are left, by its value

pub status_true : (v : Setting) (s : Status) (l : Literal) (c : Clause) → value v l ≡ some true → status_from v s (l ∷ c) ≡ met
unfolding status_from by_value
status_true v s l c e = rw e

pub status_false : (v : Setting) (s : Status) (l : Literal) (c : Clause) → value v l ≡ some false
    → status_from v s (l ∷ c) ≡ status_from v s c
unfolding status_from by_value
status_false v s l c e = rw e

pub status_unset : (v : Setting) (s : Status) (l : Literal) (c : Clause) → value v l ≡ none
    → status_from v s (l ∷ c) ≡ status_from v (seen s l) c
unfolding status_from by_value
status_unset v s l c e = rw e

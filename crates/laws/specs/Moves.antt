-- What a move tells of the setting it is made at, and what a forced or tried literal is.
use Rattle.std.specs.Prelude.{ℕ, suc, ◌≤◌, ◌<◌, ◌≡◌, refl, ◌⊎◌, Bool, true, false, ◌&&◌, length}
use Rattle.std.proofs.Common.{arith, sym, ap, ◌∙◌, subst, inl, inr, true≢false}
use Rattle.std.proofs.Math.Option.{Option, none, some, none-ne-some, some-injective}
use mathlib.Core.List.{List, [], ◌∷◌}
use Rattle.meaning.specs.Clauses.{Literal, Clause, variable, any, all}
use Rattle.meaning.specs.Demands.{In}
use Rattle.meaning.specs.Search.{Setting, value, says_true, says_false, has_true, only_false, keep_unset, unset_places, only_place, forced_by, first_place, open_in, or_else, first_of, Move, closed, satisfied, force, try, rule_a, rule_b, rule_c, rule_d, move}
use Rattle.laws.specs.Basics.{not_both, not_true_is_false, bool_cases, any_of, all_at, all_of}
use Rattle.laws.specs.Within.{UpTo, Within}
use Rattle.laws.specs.Range.{literal_at, clause_at}

module _ {A : Type 0} where
  pub any_none : (test : A → Bool) (a : A) (xs : List A) → any test xs ≡ false → In a xs → test a ≡ false
  any_none test a xs h g = not_true_is_false (λ t. not_both (any_of test a xs g t) h)

  -- where not all pass, one that does not can be named
  pub all_not : (test : A → Bool) (xs : List A) → all test xs ≡ false → (a : A) × In a xs × (test a ≡ false)
  unfolding all
  all_not test [] h = absurd (true≢false h)
  all_not test (x ∷ xs) h = go (bool_cases (test x)) (all_not test xs)
    where
      Found : List A → Type 0
      Found l = (a : A) × In a l × (test a ≡ false)

      further : Found xs → Found (x ∷ xs)
      further t = (t.0, inr t.1, t.2)

      go : (test x ≡ true) ⊎ (test x ≡ false) → (all test xs ≡ false → Found xs) → Found (x ∷ xs)
      go (inl e) rest = further (rest (sym (ap (λ (b : Bool). b && all test xs) e) ∙ h))
      go (inr e) rest = (x, inl refl, e)

-- what a search through the clauses finds

pub first_at : (find : Clause → Option Literal) (cs : List Clause) (l : Literal) → first_of find cs ≡ some l
    → (c : Clause) × In c cs × (find c ≡ some l)
unfolding first_of or_else
first_at find [] l h = absurd (none-ne-some l h)
first_at find (c ∷ cs) l h = go (find c) refl h (first_at find cs l)
  where
    Found : List Clause → Type 0
    Found ds = (d : Clause) × In d ds × (find d ≡ some l)

    further : Found cs → Found (c ∷ cs)
    further t = (t.0, inr t.1, t.2)

    go : (o : Option Literal) → find c ≡ o → or_else o (first_of find cs) ≡ some l → (first_of find cs ≡ some l → Found cs)
        → Found (c ∷ cs)
    go none e g rest = further (rest g)
    go (some k) e g rest = (c, inl refl, e ∙ g)

pub first_none : (find : Clause → Option Literal) (c : Clause) (cs : List Clause) → first_of find cs ≡ none → In c cs → find c ≡ none
unfolding first_of or_else
first_none find c [] h i = elim i [ ]
first_none find c (d ∷ cs) h i = go (find d) refl h i (first_none find c cs)
  where
    go : (o : Option Literal) → find d ≡ o → or_else o (first_of find cs) ≡ none → In c (d ∷ cs)
        → (first_of find cs ≡ none → In c cs → find c ≡ none) → find c ≡ none
    go none e g (inl same) rest = ap find same ∙ e
    go none e g (inr j) rest = rest g j
    go (some k) e g j rest = absurd (none-ne-some k (sym g))

-- the places of a clause

pub place_unset : (v : Setting) (c : Clause) (l : Literal) → In l (unset_places v c) → In l c × (value v l ≡ none)
unfolding unset_places keep_unset
place_unset v [] l i = elim i [ ]
place_unset v (k ∷ c) l i = go (value v k) refl i (place_unset v c l)
  where
    Unset : Clause → Type 0
    Unset d = In l d × (value v l ≡ none)

    further : Unset c → Unset (k ∷ c)
    further t = (inr t.0, t.1)

    go : (o : Option Bool) → value v k ≡ o → In l (keep_unset o k (unset_places v c)) → (In l (unset_places v c) → Unset c)
        → Unset (k ∷ c)
    go none e (inl same) rest = (inl same, ap (value v) same ∙ e)
    go none e (inr j) rest = further (rest j)
    go (some b) e j rest = further (rest j)

pub unset_place : (v : Setting) (c : Clause) (l : Literal) → In l c → value v l ≡ none → In l (unset_places v c)
unfolding unset_places keep_unset
unset_place v [] l i h = elim i [ ]
unset_place v (k ∷ c) l i h = go (value v k) refl i (λ j. unset_place v c l j h)
  where
    go : (o : Option Bool) → value v k ≡ o → In l (k ∷ c) → (In l c → In l (unset_places v c))
        → In l (keep_unset o k (unset_places v c))
    go none e (inl same) rest = inl same
    go none e (inr j) rest = inr (rest j)
    go (some b) e (inl same) rest = absurd (none-ne-some b (sym h ∙ ap (value v) same ∙ e))
    go (some b) e (inr j) rest = rest j

pub false_at : (v : Setting) (c : Clause) (l : Literal) → only_false v c ≡ true → In l c → value v l ≡ some false
unfolding only_false says_false
false_at v c l h i = go (value v l) (all_at (λ (k : Literal). says_false (value v k)) l c h i)
  where
    go : (o : Option Bool) → says_false o ≡ true → o ≡ some false
    go none e = absurd (true≢false (sym e))
    go (some true) e = absurd (true≢false (sym e))
    go (some false) e = refl

pub only_false_of : (v : Setting) (c : Clause) → ((l : Literal) → In l c → value v l ≡ some false) → only_false v c ≡ true
unfolding only_false says_false
only_false_of v c f = all_of (λ (k : Literal). says_false (value v k)) c (λ l i. ap says_false (f l i))

-- in a clause with no true literal each one is false or unset
pub false_or_unset : (v : Setting) (c : Clause) (l : Literal) → has_true v c ≡ false → In l c
    → (value v l ≡ some false) ⊎ (value v l ≡ none)
unfolding has_true says_true
false_or_unset v c l h i = go (value v l) (any_none (λ (k : Literal). says_true (value v k)) l c h i)
  where
    go : (o : Option Bool) → says_true o ≡ false → (o ≡ some false) ⊎ (o ≡ none)
    go none e = inr refl
    go (some true) e = absurd (true≢false e)
    go (some false) e = inl refl

-- a clause with no true literal and no unset place has only false ones
pub no_place : (v : Setting) (c : Clause) → has_true v c ≡ false → unset_places v c ≡ [] → only_false v c ≡ true
no_place v c h e = only_false_of v c (λ l i. go l i (false_or_unset v c l h i))
  where
    go : (l : Literal) → In l c → (value v l ≡ some false) ⊎ (value v l ≡ none) → value v l ≡ some false
    go l i (inl f) = f
    go l i (inr u) = absurd (subst (λ (ls : List Literal). In l ls) e (unset_place v c l i u))

-- what a clause that forces or opens a literal looks like

pub forced_clause : (v : Setting) (c : Clause) (l : Literal) → forced_by v c ≡ some l
    → (has_true v c ≡ false) × (unset_places v c ≡ l ∷ [])
unfolding forced_by only_place
forced_clause v c l h = go (has_true v c) (unset_places v c) h
  where
    go : (b : Bool) (ls : List Literal) → only_place b ls ≡ some l → (b ≡ false) × (ls ≡ l ∷ [])
    go true ls e = absurd (none-ne-some l e)
    go false [] e = absurd (none-ne-some l e)
    go false (k ∷ []) e = (refl, ap (λ (m : Literal). m ∷ []) (some-injective k l e))
    go false (k ∷ m ∷ ls) e = absurd (none-ne-some l e)

-- the one literal that is not false
pub forced_only : (v : Setting) (c : Clause) (l k : Literal) → forced_by v c ≡ some l → In k c → (value v k ≡ some false) ⊎ (k ≡ l)
forced_only v c l k h i = go (false_or_unset v c k (forced_clause v c l h).0 i)
  where
    single : In k (l ∷ []) → k ≡ l
    single (inr x') = elim x' [ ]
    single (inl e) = e

    go : (value v k ≡ some false) ⊎ (value v k ≡ none) → (value v k ≡ some false) ⊎ (k ≡ l)
    go (inl f) = inl f
    go (inr u) = inr (single (subst (λ (ls : List Literal). In k ls) (forced_clause v c l h).1 (unset_place v c k i u)))

-- c, of cs, holds the literal l, which is unset
abbrev pub UnsetIn : List Clause → Setting → Literal → Type 0
UnsetIn cs v l = (c : Clause) × In c cs × In l c × (value v l ≡ none)

-- some clause forces l
abbrev pub Forced : List Clause → Setting → Literal → Type 0
Forced cs v l = (c : Clause) × In c cs × (forced_by v c ≡ some l)

pub forced_unset : (cs : List Clause) (v : Setting) (l : Literal) → Forced cs v l → UnsetIn cs v l
forced_unset cs v l f = (f.0, f.1, place.0, place.1)
  where
    place : In l f.0 × (value v l ≡ none)
    place =
        place_unset v f.0 l
        (subst (λ (ls : List Literal). In l ls) (sym (forced_clause v f.0 l f.2).1) (inl refl))

pub open_unset : (cs : List Clause) (v : Setting) (l : Literal) → first_of (open_in v) cs ≡ some l → UnsetIn cs v l
unfolding open_in first_place
open_unset cs v l h = at_clause (first_at (open_in v) cs l h)
  where
    first : (b : Bool) (ls : List Literal) → first_place b ls ≡ some l → In l ls
    first true ls e = absurd (none-ne-some l e)
    first false [] e = absurd (none-ne-some l e)
    first false (k ∷ ls) e = inl (sym (some-injective k l e))

    place : (c : Clause) → open_in v c ≡ some l → In l c × (value v l ≡ none)
    place c e = place_unset v c l (first (has_true v c) (unset_places v c) e)

    at_clause : ((c : Clause) × In c cs × (open_in v c ≡ some l)) → UnsetIn cs v l
    at_clause t = (t.0, t.1, (place t.0 t.2).0, (place t.0 t.2).1)

pub unset_in_range : (most : ℕ) (cs : List Clause) (v : Setting) (l : Literal) → Within most cs → length v ≡ suc most
    → UnsetIn cs v l → variable l < length v
unset_in_range most cs v l g e u =
    let h : variable l ≤ most = (literal_at (UpTo most) l u.0 (clause_at (UpTo most) u.0 cs g u.1) u.2).1 in
    omega arith

-- where no clause has only false literals and not every one has a true one, rule (d) finds a literal
pub some_open : (cs : List Clause) (v : Setting) → any (only_false v) cs ≡ false → all (has_true v) cs ≡ false
    → first_of (open_in v) cs ≡ none → ⊥
unfolding open_in first_place
some_open cs v a b h = at_clause (all_not (has_true v) cs b)
  where
    none_open : (c : Clause) (ls : List Literal) → unset_places v c ≡ ls → has_true v c ≡ false → only_false v c ≡ false
        → first_place false ls ≡ none → ⊥
    none_open c [] e t f g = not_both (no_place v c t e) f
    none_open c (l ∷ ls) e t f g = none-ne-some l (sym g)

    at_clause : ((c : Clause) × In c cs × (has_true v c ≡ false)) → ⊥
    at_clause (c, i, t) =
        none_open c (unset_places v c) refl t (any_none (only_false v) c cs a i)
        (ap (λ (x : Bool). first_place x (unset_places v c)) (sym t) ∙ first_none (open_in v) c cs h i)

-- the tests that lead to a move
abbrev pub Told : List Clause → Setting → Move → Type 0
Told cs v closed = any (only_false v) cs ≡ true
Told cs v satisfied = (any (only_false v) cs ≡ false) × (all (has_true v) cs ≡ true)
Told cs v (force l) = (any (only_false v) cs ≡ false) × (all (has_true v) cs ≡ false) × (first_of (forced_by v) cs ≡ some l)
Told cs v (try l) =
    (any (only_false v) cs ≡ false)
    × (all (has_true v) cs ≡ false)
    × (first_of (forced_by v) cs ≡ none)
    × (first_of (open_in v) cs ≡ some l)

-- the move tells its tests
pub told : (cs : List Clause) (v : Setting) → Told cs v (move cs v)
unfolding move rule_a rule_b rule_c rule_d
told cs v =
    go (any (only_false v) cs) refl (all (has_true v) cs) refl (first_of (forced_by v) cs) refl (first_of (open_in v) cs) refl
  where
    go : (a : Bool) → any (only_false v) cs ≡ a → (b : Bool) → all (has_true v) cs ≡ b → (c : Option Literal)
        → first_of (forced_by v) cs ≡ c → (d : Option Literal) → first_of (open_in v) cs ≡ d
        → Told cs v (rule_a a (rule_b b (rule_c c (rule_d d))))
    go true ea b eb c ec d ed = ea
    go false ea true eb c ec d ed = (ea, eb)
    go false ea false eb (some l) ec d ed = (ea, eb, ec)
    go false ea false eb none ec (some l) ed = (ea, eb, ec, ed)
    go false ea false eb none ec none ed = absurd (some_open cs v ea eb ed)

-- and the tests make the move
pub move_of : (cs : List Clause) (v : Setting) (m : Move) → Told cs v m → move cs v ≡ m
unfolding move rule_a rule_b rule_c rule_d
move_of cs v closed h = cc
move_of cs v satisfied h = cc
move_of cs v (force l) h = cc
move_of cs v (try l) h = cc

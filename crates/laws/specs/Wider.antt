-- A search over more variables than its clauses name gives the same answer with the same count.
use Prim.Native.Nat.{ℕ, zero, suc, ◌+◌, ◌≤◌, ◌<◌}
use Rattle.std.proofs.Common.{not-suc-le-zero, le_of_suc-le-suc, arith, sym, ◌∙◌, get_or-set_same}
use Rattle.std.proofs.Math.Decide.{ℕ_discrete}
use Rattle.std.specs.Prelude.{◌≡◌, true, false, get_or}
use Rattle.std.proofs.Math.Path.{refl, subst}
use Rattle.std.proofs.Math.Option.{none, some}
use mathlib.Core.List.{List, [], ◌∷◌}
use Rattle.std.proofs.Math.ListN.{length}
use Rattle.meaning.specs.Clauses.{Literal, pos, neg, Clause, variable, negation, any, all}
use Rattle.meaning.specs.Search.{Setting, blank, value, with_literal, has_true, only_false, unset_places, forced_by, open_in, first_of, Move, closed, satisfied, force, try, move, Ending, can, cannot, lost, after, then_false, follow, search_from, searched}
use Rattle.meaning.specs.Rules.{answer}
use Rattle.laws.specs.Within.{ClauseWithin, Within}
use Rattle.laws.specs.Setting.{variable_negation, length_with, length_blank, value_of_entry, entry_other, unset_at}
use Rattle.laws.specs.Moves.{Told, told, first_at, forced_unset, open_unset, unset_in_range}
use Rattle.laws.specs.SearchRight.{searched_never_lost}

-- two settings say the same of the variables up to most
abbrev Agree : ℕ → Setting → Setting → Type 0
Agree most v u = (x : ℕ) → x ≤ most → get_or v x none ≡ get_or u x none

agree_with : (most : ℕ) (v u : Setting) (l : Literal) → variable l < length v → variable l < length u → Agree most v u
    → Agree most (with_literal v l) (with_literal u l)
unfolding with_literal variable
agree_with most v u l h g a x i = go (ℕ_discrete x (variable l))
  where
    here : (l : Literal) → variable l < length v → variable l < length u
        → get_or (with_literal v l) (variable l) none ≡ get_or (with_literal u l) (variable l) none
    here (pos y) h g = get_or-set_same v y (some true) none h ∙ sym (get_or-set_same u y (some true) none g)
    here (neg y) h g = get_or-set_same v y (some false) none h ∙ sym (get_or-set_same u y (some false) none g)

    go : Dec (x ≡ variable l) → get_or (with_literal v l) x none ≡ get_or (with_literal u l) x none
    go (yes e) =
        subst (λ (y : ℕ). get_or (with_literal v l) y none ≡ get_or (with_literal u l) y none) (sym e) (here l h g)
    go (no other) = entry_other v l x other ∙ a x i ∙ sym (entry_other u l x other)

-- so they make the same move
module _ (most : ℕ) (v u : Setting) (a : Agree most v u) where
  same_value : (l : Literal) → variable l ≤ most → value v l ≡ value u l
  same_value l h = value_of_entry v u l (a (variable l) h)

  same_true : (c : Clause) → ClauseWithin most c → has_true v c ≡ has_true u c
  unfolding has_true any
  same_true [] h = refl
  same_true (l ∷ c) h = cc (same_value l h.0.1, same_true c h.1)

  same_false : (c : Clause) → ClauseWithin most c → only_false v c ≡ only_false u c
  unfolding only_false all
  same_false [] h = refl
  same_false (l ∷ c) h = cc (same_value l h.0.1, same_false c h.1)

  same_places : (c : Clause) → ClauseWithin most c → unset_places v c ≡ unset_places u c
  unfolding unset_places
  same_places [] h = refl
  same_places (l ∷ c) h = cc (same_value l h.0.1, same_places c h.1)

  same_move : (cs : List Clause) → Within most cs → move cs v ≡ move cs u
  unfolding move any all first_of forced_by open_in
  same_move cs h = cc (falses cs h, trues cs h, forceds cs h, opens cs h)
    where
      falses : (cs : List Clause) → Within most cs → any (only_false v) cs ≡ any (only_false u) cs
      falses [] h = refl
      falses (c ∷ cs) h = cc (same_false c h.0, falses cs h.1)

      trues : (cs : List Clause) → Within most cs → all (has_true v) cs ≡ all (has_true u) cs
      trues [] h = refl
      trues (c ∷ cs) h = cc (same_true c h.0, trues cs h.1)

      forceds : (cs : List Clause) → Within most cs → first_of (forced_by v) cs ≡ first_of (forced_by u) cs
      forceds [] h = refl
      forceds (c ∷ cs) h = cc (same_true c h.0, same_places c h.0, forceds cs h.1)

      opens : (cs : List Clause) → Within most cs → first_of (open_in v) cs ≡ first_of (open_in u) cs
      opens [] h = refl
      opens (c ∷ cs) h = cc (same_true c h.0, same_places c h.0, opens cs h.1)

-- the same answer and count, unless the first is lost
abbrev Same : Ending → Ending → Type 0
Same (can v d) (can u e) = d ≡ e
Same (can v d) (cannot e) = ⊥
Same (can v d) lost = ⊥
Same (cannot d) (can u e) = ⊥
Same (cannot d) (cannot e) = d ≡ e
Same (cannot d) lost = ⊥
Same lost r = Unit {0}

same_after : (d : ℕ) (r s : Ending) → Same r s → Same (after d r) (after d s)
unfolding after
same_after d (can v e) (cannot f) h = elim h [ ]
same_after d (can v e) lost h = elim h [ ]
same_after d (cannot e) (can u f) h = elim h [ ]
same_after d (cannot e) lost h = elim h [ ]
same_after d (can v e) (can u f) h = cc
same_after d (cannot e) (cannot f) h = cc
same_after d lost s h = tt

same_then : (again on : Setting → Ending) (v u : Setting) (l : Literal) (r s : Ending) → Same r s
    → Same (again (with_literal v (negation l))) (on (with_literal u (negation l)))
    → Same (then_false again v l r) (then_false on u l s)
unfolding then_false
same_then again on v u l (can w d) (cannot e) h g = elim h [ ]
same_then again on v u l (can w d) lost h g = elim h [ ]
same_then again on v u l (cannot d) (can x e) h g = elim h [ ]
same_then again on v u l (cannot d) lost h g = elim h [ ]
same_then again on v u l (can w d) (can x e) h g = cc
same_then again on v u l (cannot d) (cannot e) h g =
    subst (λ (n : ℕ). Same (after (2 + d) (again (with_literal v (negation l)))) (after (2 + n) (on (with_literal u (negation l))))) h
    (same_after (2 + d) (again (with_literal v (negation l))) (on (with_literal u (negation l))) g)
same_then again on v u l lost s h g = tt

module _ (most : ℕ) (cs : List Clause) (within : Within most cs) where
  same_follow : (again on : Setting → Ending) (v u : Setting) → length v ≡ suc most
      → ((l : Literal) → variable l < length v → Same (again (with_literal v l)) (on (with_literal u l)))
      → (m : Move) → Told cs v m → Same (follow again v m) (follow on u m)
  unfolding follow
  same_follow again on v u e rec closed t = refl
  same_follow again on v u e rec satisfied t = refl
  same_follow again on v u e rec (force l) t =
      rec l (unset_in_range most cs v l within e (forced_unset cs v l (first_at (forced_by v) cs l t.2)))
  same_follow again on v u e rec (try l) t =
      let h : variable l < length v = unset_in_range most cs v l within e (open_unset cs v l t.3) in
      same_then again on v u l (again (with_literal v l)) (on (with_literal u l)) (rec l h)
      (rec (negation l) (subst (λ (x : ℕ). x < length v) (sym (variable_negation l)) h))

  same_search : (f g : ℕ) → f ≤ g → (v u : Setting) → Agree most v u → length v ≡ suc most → suc most ≤ length u
      → Same (search_from f cs v) (search_from g cs u)
  unfolding search_from
  same_search zero zero i v u a e k =
      subst (λ (m : Move). Same (follow (λ w. lost) v (move cs v)) (follow (λ w. lost) u m)) (same_move most v u a cs within)
      (same_follow (λ w. lost) (λ w. lost) v u e (λ l h. tt) (move cs v) (told cs v))
  same_search zero (suc g) i v u a e k =
      subst (λ (m : Move). Same (follow (λ w. lost) v (move cs v)) (follow (search_from g cs) u m)) (same_move most v u a cs within)
      (same_follow (λ w. lost) (search_from g cs) v u e (λ l h. tt) (move cs v) (told cs v))
  same_search (suc f) zero i v u a e k = absurd (not-suc-le-zero i)
  same_search (suc f) (suc g) i v u a e k =
      subst (λ (m : Move). Same (follow (search_from f cs) v (move cs v)) (follow (search_from g cs) u m)) (same_move most v u a cs within)
      (same_follow (search_from f cs) (search_from g cs) v u e
      (λ l h.
      same_search f g (le_of_suc-le-suc i) (with_literal v l) (with_literal u l)
      (agree_with most v u l h (omega arith) a) (length_with v l ∙ e) (omega (arith, length_with u l)))
      (move cs v) (told cs v))

same_answer : (r s : Ending) → Same r s → (r ≡ lost → ⊥) → answer r ≡ answer s
unfolding answer
same_answer (can v d) (cannot e) h f = elim h [ ]
same_answer (can v d) lost h f = elim h [ ]
same_answer (cannot d) (can u e) h f = elim h [ ]
same_answer (cannot d) lost h f = elim h [ ]
same_answer (can v d) (can u e) h f = cc
same_answer (cannot d) (cannot e) h f = cc
same_answer lost s h f = absurd (f refl)

pub wider : (few most : ℕ) → few ≤ most → (cs : List Clause) → Within few cs → answer (searched few cs) ≡ answer (searched most cs)
unfolding searched blank
wider few most i cs within =
    same_answer (searched few cs) (searched most cs)
    (same_search few cs within (suc few) (suc most) (omega arith) (blank few) (blank most)
    (λ x h. unset_at (suc few) x ∙ sym (unset_at (suc most) x)) (length_blank few) (omega (arith, length_blank most)))
    (searched_never_lost few cs within)

-- The search is right: it is never lost, it says no exactly if no values satisfy the clauses, and the setting it ends with satisfies them.
use Rattle.std.specs.Prelude.{ℕ, zero, suc, ◌+◌, ◌<◌, ◌≡◌, ◌↔◌, ◌⊎◌, Bool, not, List}
use Rattle.std.proofs.Common.{arith, sym, ◌∙◌, subst, inl, inr, true≢false}
use Rattle.std.proofs.Math.Path.{refl, ap}
use Rattle.std.proofs.Math.Bool.{true, false}
use Rattle.std.proofs.Math.Option.{Option, none, some}
use Rattle.std.proofs.Math.ListN.{length}
use Rattle.meaning.specs.Clauses.{Literal, Clause, variable, negation, Values, is_true, any, holds, all_hold}
use Rattle.meaning.specs.Demands.{In}
use Rattle.meaning.specs.Search.{Setting, blank, value, with_literal, says_true, has_true, only_false, forced_by, Move, closed, satisfied, force, try, move, Ending, can, cannot, lost, after, then_false, follow, search_from, searched}
use Rattle.meaning.specs.Rules.{answer}
use Rattle.laws.specs.Basics.{bool_cases, not_both, any_of, any_at, all_at, all_of}
use Rattle.laws.specs.Within.{Within}
use Rattle.laws.specs.Setting.{unset_count, Completes, length_with, length_blank, unset_blank, unset_fewer, value_completed, completes_before, completes_with, blank_completes, completion, completion_completes, unset_both, variable_negation, is_true_negation}
use Rattle.laws.specs.Moves.{UnsetIn, Forced, Told, told, false_at, forced_only, forced_unset, open_unset, unset_in_range, first_at}

-- what the values that complete a setting make of a clause

module _ (v : Setting) (w : Values) (c : Completes v w) where
  pub only_false_fails : (d : Clause) → only_false v d ≡ true → holds w d ≡ true → ⊥
  unfolding holds
  only_false_fails d f h = at_literal (any_at (is_true w) d h)
    where
      at_literal : ((l : Literal) × In l d × (is_true w l ≡ true)) → ⊥
      at_literal t = not_both t.2 (value_completed v w c t.0 false (false_at v d t.0 f t.1))

  pub has_true_holds : (d : Clause) → has_true v d ≡ true → holds w d ≡ true
  unfolding holds has_true says_true
  has_true_holds d h = at_literal (any_at (λ (l : Literal). says_true (value v l)) d h)
    where
      is_some_true : (o : Option Bool) → says_true o ≡ true → o ≡ some true
      is_some_true none e = absurd (true≢false (sym e))
      is_some_true (some true) e = refl
      is_some_true (some false) e = absurd (true≢false (sym e))

      at_literal : ((l : Literal) × In l d × (says_true (value v l) ≡ true)) → any (is_true w) d ≡ true
      at_literal t =
          any_of (is_true w) t.0 d t.1 (value_completed v w c t.0 true (is_some_true (value v t.0) t.2))

  -- values that satisfy the clause make its forced literal true
  pub forced_true : (d : Clause) (l : Literal) → forced_by v d ≡ some l → holds w d ≡ true → is_true w l ≡ true
  unfolding holds
  forced_true d l f h = at_literal (any_at (is_true w) d h)
    where
      at_literal : ((k : Literal) × In k d × (is_true w k ≡ true)) → is_true w l ≡ true
      at_literal (k, i, t) = go (forced_only v d l k f i)
        where
          go : (value v k ≡ some false) ⊎ (k ≡ l) → is_true w l ≡ true
          go (inl e) = absurd (not_both t (value_completed v w c k false e))
          go (inr e) = ap (is_true w) (sym e) ∙ t

-- an ending is right for the search of cs from v
abbrev pub Right : List Clause → Setting → Ending → Type 0
Right cs v lost = ⊥
Right cs v (cannot d) = (w : Values) → Completes v w → all_hold w cs ≡ true → ⊥
Right cs v (can u d) =
    ((w : Values) → Completes u w → all_hold w cs ≡ true)
    × ((w : Values) → Completes u w → Completes v w)
    × (length u ≡ length v)

after_right : (cs : List Clause) (v : Setting) (d : ℕ) (r : Ending) → Right cs v r → Right cs v (after d r)
unfolding after
after_right cs v d (can u e) h = h
after_right cs v d (cannot e) h = h
after_right cs v d lost h = h

module _ (cs : List Clause) (v : Setting) where
  -- a setting that serves with l set serves without it
  can_right : (l : Literal) → value v l ≡ none → (u : Setting) (d e : ℕ) → Right cs (with_literal v l) (can u d) → Right cs v (can u e)
  can_right l unset u d e h = (h.0, λ w c. completes_before v l w unset (h.1 w c), h.2 ∙ length_with v l)

  -- l was set, and all values that satisfy the clauses make it true
  set_right : (l : Literal) → value v l ≡ none
      → ((w : Values) → Completes v w → all_hold w cs ≡ true → Completes (with_literal v l) w) → (r : Ending)
      → Right cs (with_literal v l) r → Right cs v r
  set_right l unset must (can u d) h = can_right l unset u d d h
  set_right l unset must (cannot d) h = λ w c a. h w (must w c a) a
  set_right l unset must lost h = h

  module _ (again : Setting → Ending)
      (again_right : (l : Literal) → value v l ≡ none → variable l < length v → Right cs (with_literal v l) (again (with_literal v l)))
    where
      force_right : (l : Literal) → Forced cs v l → variable l < length v → Right cs v (again (with_literal v l))
      unfolding all_hold
      force_right l f h =
          set_right l unset (λ w c a. completes_with v l w h c (must w c a)) (again (with_literal v l)) (again_right l unset h)
        where
          unset : value v l ≡ none
          unset = (forced_unset cs v l f).3

          must : (w : Values) → Completes v w → all_hold w cs ≡ true → is_true w l ≡ true
          must w c a = forced_true v w c f.0 l f.2 (all_at (holds w) f.0 cs a f.1)

      try_right : (l : Literal) → value v l ≡ none → variable l < length v → (r : Ending) → Right cs (with_literal v l) r
          → Right cs v (then_false again v l r)
      unfolding then_false
      try_right l unset h (can u d) g = can_right l unset u d (1 + d) g
      try_right l unset h lost g = g
      try_right l unset h (cannot d) g =
          after_right cs v (2 + d) (again (with_literal v (negation l)))
          (set_right (negation l) unset' must (again (with_literal v (negation l))) (again_right (negation l) unset' h'))
        where
          unset' : value v (negation l) ≡ none
          unset' = unset_both v l (negation l) (sym (variable_negation l)) unset

          h' : variable (negation l) < length v
          h' = subst (λ (x : ℕ). x < length v) (sym (variable_negation l)) h

          must : (w : Values) → Completes v w → all_hold w cs ≡ true → Completes (with_literal v (negation l)) w
          must w c a = go (bool_cases (is_true w l))
            where
              go : (is_true w l ≡ true) ⊎ (is_true w l ≡ false) → Completes (with_literal v (negation l)) w
              go (inl e) = absurd (g w (completes_with v l w h c e) a)
              go (inr e) = completes_with v (negation l) w h' c (is_true_negation w l ∙ ap not e)

      follow_right : (most : ℕ) → Within most cs → length v ≡ suc most → (m : Move) → Told cs v m → Right cs v (follow again v m)
      unfolding follow all_hold
      follow_right most g e closed t = λ w c a. at_clause w c a (any_at (only_false v) cs t)
        where
          at_clause : (w : Values) → Completes v w → all_hold w cs ≡ true → ((d : Clause) × In d cs × (only_false v d ≡ true)) → ⊥
          at_clause w c a (d, i, f) = only_false_fails v w c d f (all_at (holds w) d cs a i)
      follow_right most g e satisfied t =
          (λ w c. all_of (holds w) cs (λ d i. has_true_holds v w c d (all_at (has_true v) d cs t.1 i)), λ w c. c, refl)
      follow_right most g e (force l) t =
          let f : Forced cs v l = first_at (forced_by v) cs l t.2 in
          force_right l f (unset_in_range most cs v l g e (forced_unset cs v l f))
      follow_right most g e (try l) t =
          let u : UnsetIn cs v l = open_unset cs v l t.3 in
          let h : variable l < length v = unset_in_range most cs v l g e u in
          try_right l u.3 h (again (with_literal v l)) (again_right l u.3 h)

-- the search from a setting with so many entries unset ends right
pub search_right : (most : ℕ) (cs : List Clause) → Within most cs → (f : ℕ) (v : Setting) → length v ≡ suc most → unset_count v ≡ f
    → Right cs v (search_from f cs v)
unfolding search_from
search_right most cs g zero v e c = follow_right cs v (λ w. lost) none_left most g e (move cs v) (told cs v)
  where
    none_left : (l : Literal) → value v l ≡ none → variable l < length v → ⊥
    none_left l u h = omega (arith, unset_fewer v l h u)
search_right most cs g (suc f) v e c =
    follow_right cs v (search_from f cs) (one_less (search_right most cs g f)) most g e (move cs v) (told cs v)
  where
    one_less : ((u : Setting) → length u ≡ suc most → unset_count u ≡ f → Right cs u (search_from f cs u)) → (l : Literal)
        → value v l ≡ none → variable l < length v → Right cs (with_literal v l) (search_from f cs (with_literal v l))
    one_less rec l u h = rec (with_literal v l) (length_with v l ∙ e) (omega (arith, unset_fewer v l h u))

module _ (most : ℕ) (cs : List Clause) (within : Within most cs) (v : Setting) (sized : length v ≡ suc most) where
  right_as : (r : Ending) → search_from (unset_count v) cs v ≡ r → Right cs v r
  right_as r e = subst (λ (q : Ending). Right cs v q) e (search_right most cs within (unset_count v) v sized refl)

  pub never_lost : search_from (unset_count v) cs v ≡ lost → ⊥
  never_lost e = right_as lost e

  pub no_means : (d : ℕ) → search_from (unset_count v) cs v ≡ cannot d → (w : Values) → Completes v w → all_hold w cs ≡ true → ⊥
  no_means d e = right_as (cannot d) e

  pub yes_means : (u : Setting) (d : ℕ) → search_from (unset_count v) cs v ≡ can u d
      → ((w : Values) → Completes u w → all_hold w cs ≡ true)
      × ((w : Values) → Completes u w → Completes v w)
      × (length u ≡ length v)
  yes_means u d e = right_as (can u d) e

module _ (most : ℕ) (cs : List Clause) (within : Within most cs) where
  searched_right : Right cs (blank most) (searched most cs)
  unfolding searched
  searched_right = search_right most cs within (suc most) (blank most) (length_blank most) (unset_blank most)

  pub searched_never_lost : searched most cs ≡ lost → ⊥
  searched_never_lost e = subst (λ (r : Ending). Right cs (blank most) r) e searched_right

  pub searched_yes : (u : Setting) (d : ℕ) → searched most cs ≡ can u d → (w : Values) → Completes u w → all_hold w cs ≡ true
  searched_yes u d e = (subst (λ (r : Ending). Right cs (blank most) r) e searched_right).0

  -- the answer is no exactly if no values satisfy all clauses
  pub searched_no : ((answer (searched most cs)).sat ≡ false) ↔ ((w : Values) → all_hold w cs ≡ true → ⊥)
  unfolding answer
  searched_no = go (searched most cs) searched_right
    where
      go : (r : Ending) → Right cs (blank most) r → ((answer r).sat ≡ false) ↔ ((w : Values) → all_hold w cs ≡ true → ⊥)
      go (can u d) h =
          (λ e. absurd (true≢false e), λ f. absurd (f (completion u) (h.0 (completion u) (completion_completes u))))
      go (cannot d) h = (λ e w a. h w (blank_completes most w) a, λ f. refl)
      go lost h = absurd h

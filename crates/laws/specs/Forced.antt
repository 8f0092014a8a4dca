-- The order in which forced literals are set changes neither answer, count nor the setting that the search ends with.
use Prim.Native.Nat.{ℕ, zero, suc, ◌<◌}
use Rattle.std.proofs.Common.{arith, ◌∙◌, inl, inr, true≢false}
use Rattle.std.specs.Prelude.{◌≡◌, refl, ◌⊎◌, true, false, List, [], ◌∷◌, length}
use Rattle.std.proofs.Math.Path.{sym, ap}
use Rattle.std.proofs.Math.Option.{none, some, none-ne-some}
use Rattle.meaning.specs.Clauses.{Literal, Clause, variable, negation, any, all}
use Rattle.meaning.specs.Demands.{In}
use Rattle.meaning.specs.Search.{Setting, value, with_literal, says_true, has_true, only_false, unset_places, forced_by, open_in, first_of, Move, closed, satisfied, force, try, move, Ending, can, cannot, lost, then_false, follow, search_from}
use Rattle.laws.specs.Basics.{not_both, not_true_is_false, any_at, any_of, all_at}
use Rattle.laws.specs.Within.{Within}
use Rattle.laws.specs.Setting.{unset_count, same_variable?, same_or_negation, negation_twice, length_with, value_other, value_denied, value_kept, unset_fewer, with_comm}
use Rattle.laws.specs.Moves.{Forced, Told, told, move_of, first_at, first_none, false_at, only_false_of, forced_clause, forced_only, forced_unset, unset_in_range}

-- the search at a setting whose tests are known

search_ends : (f : ℕ) (cs : List Clause) (v : Setting) (m : Move) (r : Ending) → Told cs v m
    → ((again : Setting → Ending) → follow again v m ≡ r) → search_from f cs v ≡ r
unfolding search_from
search_ends zero cs v m r t ends = ap (follow (λ w. lost) v) (move_of cs v m t) ∙ ends (λ w. lost)
search_ends (suc f) cs v m r t ends = ap (follow (search_from f cs) v) (move_of cs v m t) ∙ ends (search_from f cs)

pub forced_closed : (f : ℕ) (cs : List Clause) (v : Setting) (c : Clause) → In c cs → only_false v c ≡ true
    → search_from f cs v ≡ cannot 0
unfolding follow
forced_closed f cs v c i h = search_ends f cs v closed (cannot 0) (any_of (only_false v) c cs i h) (λ again. refl)

pub true_not_only_false : (v : Setting) (c : Clause) → has_true v c ≡ true → only_false v c ≡ true → ⊥
unfolding has_true says_true
true_not_only_false v c t f = at_literal (any_at (λ (l : Literal). says_true (value v l)) c t)
  where
    at_literal : ((l : Literal) × In l c × (says_true (value v l) ≡ true)) → ⊥
    at_literal (l, i, e) = true≢false (sym e ∙ ap says_true (false_at v c l f i))

pub all_satisfied : (f : ℕ) (cs : List Clause) (v : Setting) → all (has_true v) cs ≡ true → search_from f cs v ≡ can v 0
unfolding follow
all_satisfied f cs v h = search_ends f cs v satisfied (can v 0) (not_true_is_false none_false, h) (λ again. refl)
  where
    at_clause : ((c : Clause) × In c cs × (only_false v c ≡ true)) → ⊥
    at_clause (c, i, e) = true_not_only_false v c (all_at (has_true v) c cs h i) e

    none_false : any (only_false v) cs ≡ true → ⊥
    none_false t = at_clause (any_at (only_false v) cs t)

pub decided : (f : ℕ) (cs : List Clause) (v : Setting) (l : Literal) → any (only_false v) cs ≡ false → all (has_true v) cs ≡ false
    → first_of (forced_by v) cs ≡ none → first_of (open_in v) cs ≡ some l
    → search_from (suc f) cs v ≡ then_false (search_from f cs) v l (search_from f cs (with_literal v l))
unfolding search_from follow
decided f cs v l a b c d = ap (follow (search_from f cs) v) (move_of cs v (try l) (a, b, c, d))

-- what setting an unset literal leaves as it was

only_false_stays : (v : Setting) (c : Clause) (m : Literal) → value v m ≡ none → only_false v c ≡ true
    → only_false (with_literal v m) c ≡ true
only_false_stays v c m u h = only_false_of (with_literal v m) c (λ k i. value_kept v m k false u (false_at v c k h i))

forced_by_same : (u v : Setting) (c : Clause) → ((k : Literal) → In k c → value u k ≡ value v k) → forced_by u c ≡ forced_by v c
unfolding forced_by has_true any unset_places
forced_by_same u v c same = cc (trues c same, places c same)
  where
    trues : (c : Clause) → ((k : Literal) → In k c → value u k ≡ value v k) → has_true u c ≡ has_true v c
    trues [] f = refl
    trues (k ∷ c) f = cc (f k (inl refl), trues c (λ m i. f m (inr i)))

    places : (c : Clause) → ((k : Literal) → In k c → value u k ≡ value v k) → unset_places u c ≡ unset_places v c
    places [] f = refl
    places (k ∷ c) f = cc (f k (inl refl), places c (λ m i. f m (inr i)))

-- a clause that forces a literal forces it still when another variable is set
forced_stays : (v : Setting) (c : Clause) (l m : Literal) → forced_by v c ≡ some l → value v m ≡ none
    → (variable l ≡ variable m → ⊥) → forced_by (with_literal v m) c ≡ some l
forced_stays v c l m h u other = forced_by_same (with_literal v m) v c (λ k i. same k (forced_only v c l k h i)) ∙ h
  where
    same : (k : Literal) → (value v k ≡ some false) ⊎ (k ≡ l) → value (with_literal v m) k ≡ value v k
    same k (inl e) = value_kept v m k false u e ∙ sym e
    same k (inr e) = value_other v m k (λ x. other (sym (ap variable e) ∙ x))

-- and has only false literals when its literal is set false
forced_denied : (v : Setting) (c : Clause) (l m : Literal) → forced_by v c ≡ some l → value v m ≡ none → variable m < length v
    → l ≡ negation m → only_false (with_literal v m) c ≡ true
forced_denied v c l m h u r e = only_false_of (with_literal v m) c (λ k i. at_literal k (forced_only v c l k h i))
  where
    at_literal : (k : Literal) → (value v k ≡ some false) ⊎ (k ≡ l) → value (with_literal v m) k ≡ some false
    at_literal k (inl f) = value_kept v m k false u f
    at_literal k (inr x) = ap (value (with_literal v m)) (x ∙ e) ∙ value_denied v m r

module _ (most : ℕ) (cs : List Clause) (within : Within most cs) where
  forced_range : (v : Setting) (l : Literal) → length v ≡ suc most → Forced cs v l → variable l < length v
  forced_range v l e h = unset_in_range most cs v l within e (forced_unset cs v l h)

  -- whatever the move is, it comes to the same as setting l, if two forced literals of different variables do
  any_move : (f : ℕ) (v : Setting) → length v ≡ suc most → (l : Literal) → Forced cs v l
      → ((m : Literal) → Forced cs v m → (variable m ≡ variable l → ⊥)
      → search_from f cs (with_literal v m) ≡ search_from f cs (with_literal v l))
      → (a : Move) → Told cs v a → follow (search_from f cs) v a ≡ search_from f cs (with_literal v l)
  unfolding follow
  any_move f v e l h swap closed t = at_clause (any_at (only_false v) cs t)
    where
      at_clause : ((c : Clause) × In c cs × (only_false v c ≡ true)) → cannot 0 ≡ search_from f cs (with_literal v l)
      at_clause (c, i, o) =
          sym (forced_closed f cs (with_literal v l) c i (only_false_stays v c l (forced_unset cs v l h).3 o))
  any_move f v e l h swap satisfied t =
      absurd (not_both (all_at (has_true v) h.0 cs t.1 h.1) (forced_clause v h.0 l h.2).0)
  any_move f v e l h swap (force m) t = go (same_variable? m l)
    where
      g : Forced cs v m
      g = first_at (forced_by v) cs m t.2

      -- one is the negation of the other, and each makes the other's clause false
      denies : (a b : Literal) → Forced cs v a → Forced cs v b → b ≡ negation a → search_from f cs (with_literal v a) ≡ cannot 0
      denies a b x y n =
          forced_closed f cs (with_literal v a) y.0 y.1
          (forced_denied v y.0 b a y.2 (forced_unset cs v a x).3 (forced_range v a e x) n)

      one_variable : (m ≡ l) ⊎ (m ≡ negation l) → search_from f cs (with_literal v m) ≡ search_from f cs (with_literal v l)
      one_variable (inl n) = ap (λ (k : Literal). search_from f cs (with_literal v k)) n
      one_variable (inr n) = denies m l g h (sym (negation_twice l) ∙ ap negation (sym n)) ∙ sym (denies l m h g n)

      go : (variable m ≡ variable l) ⊎ (variable m ≡ variable l → ⊥)
          → search_from f cs (with_literal v m) ≡ search_from f cs (with_literal v l)
      go (inl same) = one_variable (same_or_negation m l same)
      go (inr other) = swap m g other
  any_move f v e l h swap (try m) t =
      absurd (none-ne-some l (sym (first_none (forced_by v) h.0 cs t.2 h.1) ∙ h.2))

  still_forced : (v : Setting) (l m : Literal) → Forced cs v l → Forced cs v m → (variable l ≡ variable m → ⊥)
      → Forced cs (with_literal v m) l
  still_forced v l m h g other = (h.0, h.1, forced_stays v h.0 l m h.2 (forced_unset cs v m g).3 other)

  fewer : (v : Setting) (l : Literal) → length v ≡ suc most → Forced cs v l → unset_count v ≡ suc (unset_count (with_literal v l))
  fewer v l e h = unset_fewer v l (forced_range v l e h) (forced_unset cs v l h).3

  forced_at : (f : ℕ) (v : Setting) → length v ≡ suc most → unset_count v ≡ suc f → (l : Literal) → Forced cs v l
      → search_from (suc f) cs v ≡ search_from f cs (with_literal v l)
  unfolding search_from
  forced_at zero v e c l h = any_move zero v e l h swap (move cs v) (told cs v)
    where
      swap : (m : Literal) → Forced cs v m → (variable m ≡ variable l → ⊥)
          → search_from zero cs (with_literal v m) ≡ search_from zero cs (with_literal v l)
      swap m g other =
          absurd (omega (arith, fewer v m e g, fewer (with_literal v m) l (length_with v m ∙ e) (still_forced v l m h g (λ x. other (sym x)))))
  forced_at (suc f) v e c l h =
      any_move (suc f) v e l h
      (λ m g other.
      forced_at f (with_literal v m) (length_with v m ∙ e) (omega (arith, fewer v m e g)) l
      (still_forced v l m h g (λ x. other (sym x)))
      ∙ ap (search_from f cs) (with_comm v m l other)
      ∙ sym (forced_at f (with_literal v l) (length_with v l ∙ e) (omega (arith, fewer v l e h)) m (still_forced v m l g h other)))
      (move cs v) (told cs v)

  -- any forced literal may be set next
  pub forced_any : (v : Setting) (l : Literal) → length v ≡ suc most → Forced cs v l
      → search_from (unset_count v) cs v ≡ search_from (unset_count (with_literal v l)) cs (with_literal v l)
  forced_any v l e h =
      ap (λ (f : ℕ). search_from f cs v) (fewer v l e h) ∙ forced_at (unset_count (with_literal v l)) v e (fewer v l e h) l h

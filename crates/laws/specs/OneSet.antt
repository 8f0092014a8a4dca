-- The one set is a least safe inductive set, and every other comes before it; it is found wherever there is a safe inductive set.
use Prim.Native.Nat.{ℕ, zero, suc, ◌+◌, ◌≤◌, ◌<◌, zero-le}
use Rattle.std.specs.Prelude.{◌≡◌, ◌⊎◌, Bool}
use Rattle.std.proofs.Math.Path.{refl, ap}
use Rattle.std.proofs.Common.{sym, ◌∙◌, subst, inl, inr, arith}
use Rattle.std.proofs.Math.Bool.{true, false}
use Rattle.std.proofs.Math.Option.{none, some, some-injective, none-ne-some}
use Rattle.std.proofs.Math.Decide.{ℕ_discrete}
use Rattle.meaning.specs.Meaning.{Marks, has, Part}
use Rattle.meaning.specs.Demands.{Before}
use Rattle.meaning.specs.Rules.{Question, safety, Answer, plus, counted_on, largest, largest_safety, reduced, reduced_safety, becomes}
use Rattle.meaning.specs.Rules.{shrink_at, shrink, one_if, one}
use Rattle.laws.specs.Basics.{not_both, not_true_is_false}
use Rattle.laws.specs.Sets.{has_range, part_trans}
use Rattle.laws.specs.RowOrder.{same_or_before}
use Rattle.laws.specs.RoundsLargest.{Closed, SafeSet, Ind, Least, Monotone, reduced_part, reduced_lacks, reduced_ind}
use Rattle.laws.specs.RoundsLargest.{reduced_contains, largest_ind, largest_contains}

-- what the one set shrinks to
abbrev shrunk : (Marks → Question → Answer) → ℕ → Marks
shrunk ask k = (shrink ask k 0 (largest ask k).marks).marks

module _ (ask : Marks → Question → Answer) where
  -- a position is kept, where S lacks it or needs it, or dropped
  shrink_cases : (P : Marks → Type 0) (more q : ℕ) (S : Marks)
      → ((has S q ≡ true → SafeSet ask (reduced ask q S).marks → ⊥) → P (shrink ask more (suc q) S).marks)
      → (SafeSet ask (reduced ask q S).marks → P (shrink ask more (suc q) (reduced ask q S).marks).marks)
      → P (shrink ask (suc more) q S).marks
  unfolding shrink shrink_at becomes plus reduced_safety counted_on
  shrink_cases P more q S kept dropped = by_mark (has S q) refl
    where
      by_safety : (b : Bool) → (ask (reduced ask q S).marks safety).sat ≡ b
          → P (shrink ask more (suc q) (becomes ask b S (reduced ask q S).marks)).marks
      by_safety true e = kept (λ h safe. not_both e safe)
      by_safety false e = dropped e

      by_mark : (b : Bool) → has S q ≡ b → P (shrink_at ask b (shrink ask more (suc q)) q S).marks
      by_mark true e = by_safety (ask (reduced ask q S).marks safety).sat refl
      by_mark false e = kept (λ h safe. not_both h e)

  -- what every dropping keeps, the shrinking keeps
  shrink_keep : (P : Marks → Type 0)
      → ((q : ℕ) (S : Marks) → P S → SafeSet ask (reduced ask q S).marks → P (reduced ask q S).marks)
      → (more q : ℕ) (S : Marks) → P S → P (shrink ask more q S).marks
  unfolding shrink
  shrink_keep P keep zero q S h = h
  shrink_keep P keep (suc more) q S h =
      shrink_cases P more q S (λ needed. shrink_keep P keep more (suc q) S h)
      (λ safe. shrink_keep P keep more (suc q) (reduced ask q S).marks (keep q S h safe))

  shrink_part : (more q : ℕ) (S : Marks) → Part (shrink ask more q S).marks S
  shrink_part more q S =
      shrink_keep (λ X. Part X S) (λ r X f safe. part_trans (reduced ask r X).marks X S (reduced_part ask r X) f) more q S (λ r h. h)

  shrunk_ind : (k : ℕ) → Ind ask k (shrunk ask k)
  shrunk_ind k =
      shrink_keep (λ X. Ind ask k X) (λ q X i safe. reduced_ind ask k q X i) k 0 (largest ask k).marks (largest_ind ask k)

  shrunk_safe : (k : ℕ) → SafeSet ask (largest ask k).marks → SafeSet ask (shrunk ask k)
  shrunk_safe k safe = shrink_keep (λ X. SafeSet ask X) (λ q X s t. t) k 0 (largest ask k).marks safe

  -- the one set is found exactly where the largest set is safe

  found_is : (k : ℕ) (S : Marks) → (one ask k).found ≡ some S → SafeSet ask (largest ask k).marks × (shrunk ask k ≡ S)
  unfolding one one_if largest_safety counted_on
  found_is k S = by_safety (ask (largest ask k).marks safety).sat refl
    where
      by_safety : (b : Bool) → (ask (largest ask k).marks safety).sat ≡ b
          → (one_if ask b (largest_safety ask k).count (shrink ask k 0 (largest ask k).marks)).found ≡ some S
          → SafeSet ask (largest ask k).marks × (shrunk ask k ≡ S)
      by_safety true e f = absurd (none-ne-some S f)
      by_safety false e f = (e, some-injective (shrunk ask k) S f)

  found_where_safe : (k : ℕ) → SafeSet ask (largest ask k).marks → (one ask k).found ≡ some (shrunk ask k)
  unfolding one one_if largest_safety counted_on
  found_where_safe k safe =
      ap (λ b. (one_if ask b (largest_safety ask k).count (shrink ask k 0 (largest ask k).marks)).found) safe

  module _ (mono : Monotone ask) where
    -- A safe closed part T of S that, below p, has only what is left in the end: then p is left only if T has it
    shrink_needs : (more q : ℕ) (S T : Marks) (p : ℕ) → q ≤ p → p < q + more → Part T S → Closed ask T → SafeSet ask T
        → has T p ≡ false → has (shrink ask more q S).marks p ≡ true
        → ((r : ℕ) → r < p → has T r ≡ true → has (shrink ask more q S).marks r ≡ true) → ⊥
    shrink_needs zero q S T p from to f closed safe lacks = absurd (omega arith)
    shrink_needs (suc more) q S T p from to f closed safe lacks =
        shrink_cases Needs more q S
        (λ needed. kept needed (ℕ_discrete q p) (λ l. shrink_needs more (suc q) S T p l (omega arith) f closed safe lacks))
        (λ drop. dropped (ℕ_discrete q p) (λ l g. shrink_needs more (suc q) X T p l (omega arith) g closed safe lacks))
      where
        X : Marks
        X = (reduced ask q S).marks

        Needs : Marks → Type 0
        Needs R = has R p ≡ true → ((r : ℕ) → r < p → has T r ≡ true → has R r ≡ true) → ⊥

        kept : (has S q ≡ true → SafeSet ask X → ⊥) → Dec (q ≡ p)
            → (q < p → Needs (shrink ask more (suc q) S).marks) → Needs (shrink ask more (suc q) S).marks
        kept needed (yes e) rest has_p below =
            needed (ap (has S) e ∙ shrink_part more (suc q) S p has_p)
            (mono.mono_safety T X (reduced_contains ask mono q S T f (ap (has T) e ∙ lacks) closed) safe)
        kept needed (no n) rest has_p below = rest (omega arith) has_p below

        dropped : Dec (q ≡ p) → (q < p → Part T X → Needs (shrink ask more (suc q) X).marks)
            → Needs (shrink ask more (suc q) X).marks
        dropped (yes e) rest has_p below =
            not_both (ap (has X) e ∙ shrink_part more (suc q) X p has_p) (reduced_lacks ask q S)
        dropped (no n) rest has_p below =
            let lower : q < p = omega arith in
            let lacks_q : has T q ≡ false =
            not_true_is_false (λ h. not_both (shrink_part more (suc q) X q (below q lower h)) (reduced_lacks ask q S)) in
            rest lower (reduced_contains ask mono q S T f lacks_q closed) has_p below

    -- no safe inductive set that is a part of it, or agrees with it so far, lacks a position that it has
    shrunk_needs : (k : ℕ) (T : Marks) → Ind ask k T → SafeSet ask T → (p : ℕ) → has (shrunk ask k) p ≡ true → has T p ≡ false
        → ((r : ℕ) → r < p → has T r ≡ true → has (shrunk ask k) r ≡ true) → ⊥
    shrunk_needs k T i safe p h lacks below =
        shrink_needs k 0 (largest ask k).marks T p zero-le (omega (arith, has_range (shrunk ask k) p h, (shrunk_ind k).0))
        (largest_contains ask mono k T i) i.2 safe lacks h below

    pub one_least : (k : ℕ) (S : Marks) → (one ask k).found ≡ some S → Least ask k S
    one_least k S e = subst (λ (X : Marks). Least ask k X) (found_is k S e).1 least
      where
        least : Least ask k (shrunk ask k)
        least = (
          shrunk_ind k,
          shrunk_safe k (found_is k S e).0,
          λ T l proper i safe.
              shrunk_needs k T i safe proper.1.0 proper.1.1 proper.1.2 (λ r lower h. proper.0 r h),
        )

    pub one_found : (k : ℕ) (T : Marks) → Ind ask k T → SafeSet ask T → (S : Marks) × ((one ask k).found ≡ some S)
    one_found k T i safe =
        (shrunk ask k, found_where_safe k (mono.mono_safety T (largest ask k).marks (largest_contains ask mono k T i) safe))

    pub one_none : (k : ℕ) → (one ask k).found ≡ none → (T : Marks) → Ind ask k T → SafeSet ask T → ⊥
    one_none k e T i safe = let t = one_found k T i safe in none-ne-some t.0 (sym e ∙ t.1)

    -- the one set comes last
    pub one_after : (k : ℕ) (S : Marks) → (one ask k).found ≡ some S → (M : Marks) → Least ask k M → (M ≡ S) ⊎ Before M S
    one_after k S e M least =
        subst (λ (X : Marks). (M ≡ X) ⊎ Before M X) (found_is k S e).1
        (not_later (same_or_before M (shrunk ask k) (least.0.0 ∙ sym (shrunk_ind k).0)))
      where
        not_later : (M ≡ shrunk ask k) ⊎ (Before M (shrunk ask k) ⊎ Before (shrunk ask k) M)
            → (M ≡ shrunk ask k) ⊎ Before M (shrunk ask k)
        not_later (inl same) = inl same
        not_later (inr (inl h)) = inr h
        not_later (inr (inr h)) =
            absurd (shrunk_needs k M least.0 least.1 h.0 h.1 h.2 (λ r l g. h.3 r l ∙ g))

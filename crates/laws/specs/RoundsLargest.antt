-- Rounds leave the largest closed part of a set, and the largest set is the one inductive set that contains all others. Over any way to ask
-- questions; only the answers count here.
use Prim.Native.Nat.{ℕ, zero, suc, ◌<◌}
use Rattle.std.specs.Prelude.{◌≡◌, Bool, ◌&&◌, replicate}
use Rattle.std.proofs.Math.Path.{refl, ap}
use Rattle.std.proofs.Common.{sym, ◌∙◌, subst, arith}
use Rattle.std.proofs.Math.Bool.{true, false, not, and-false}
use Rattle.std.proofs.Math.ListN.{length, length-replicate, length-set}
use Rattle.meaning.specs.Meaning.{Marks, has, Part, ProperPart}
use Rattle.meaning.specs.Rules.{Question, initiation, step, safety, Answer, plus, size, without, stays, survivors, removes, until_none}
use Rattle.meaning.specs.Rules.{rounds_within, rounds, initial, largest, reduced}
use Rattle.laws.specs.Basics.{and_left, and_right, and_both, not_of_false, false_of_not}
use Rattle.laws.specs.Sets.{has_filtered, length_each, some_passes, none_passes, has_range, has_full, has_without, part_trans}
use Rattle.laws.specs.Sets.{part_lacks, part_without, without_part, equal_by_parts, size_proper}

-- no step question of S is satisfiable
abbrev pub Closed : (Marks → Question → Answer) → Marks → Type 0
Closed ask S = (d : ℕ) → has S d ≡ true → (ask S (step d)).sat ≡ false

-- each position of S passes initiation, which is asked of all k positions
abbrev pub Initial : (Marks → Question → Answer) → ℕ → Marks → Type 0
Initial ask k S = (d : ℕ) → has S d ≡ true → (ask (replicate k true) (initiation d)).sat ≡ false

abbrev pub SafeSet : (Marks → Question → Answer) → Marks → Type 0
SafeSet ask S = (ask S safety).sat ≡ false

-- an inductive set, by the answers
abbrev pub Ind : (Marks → Question → Answer) → ℕ → Marks → Type 0
Ind ask k S = (length S ≡ k) × Initial ask k S × Closed ask S

-- a safe inductive set without a smaller one
abbrev pub Least : (Marks → Question → Answer) → ℕ → Marks → Type 0
Least ask k S =
    Ind ask k S × SafeSet ask S × ((T : Marks) → length T ≡ k → ProperPart T S → Ind ask k T → SafeSet ask T → ⊥)

-- with more positions, no step or safety question becomes satisfiable
pub record Monotone (ask : Marks → Question → Answer) : Type 0 where
  pub mono_step : (S T : Marks) → Part S T → (d : ℕ) → (ask S (step d)).sat ≡ false → (ask T (step d)).sat ≡ false
  pub mono_safety : (S T : Marks) → Part S T → SafeSet ask S → SafeSet ask T

module _ (ask : Marks → Question → Answer) where
  -- one round

  has_survivors : (S : Marks) (q : ℕ) → has (survivors ask S) q ≡ (has S q && not (ask S (step q)).sat)
  unfolding survivors stays
  has_survivors S q = has_filtered (λ d. not (ask S (step d)).sat) S q

  survivors_part : (S : Marks) → Part (survivors ask S) S
  survivors_part S q h = and_left (has S q) (not (ask S (step q)).sat) (sym (has_survivors S q) ∙ h)

  survivors_length : (S : Marks) → length (survivors ask S) ≡ length S
  unfolding survivors
  survivors_length S = length_each (stays ask S) 0 S

  survivors_smaller : (S : Marks) → removes ask S ≡ true → size (survivors ask S) < size S
  unfolding removes
  survivors_smaller S h = at (some_passes (λ d. (ask S (step d)).sat) S h)
    where
      at : (q : ℕ) × (has S q ≡ true) × ((ask S (step q)).sat ≡ true) → size (survivors ask S) < size S
      at t =
          size_proper (survivors ask S) S (survivors_part S) t.0 t.1
          (has_survivors S t.0 ∙ ap (λ b. has S t.0 && not b) t.2 ∙ and-false (has S t.0))

  none_removed : (S : Marks) → removes ask S ≡ false → Closed ask S
  unfolding removes
  none_removed S h = none_passes (λ d. (ask S (step d)).sat) S h

  -- what every round keeps, Rounds keep
  rounds_keep : (P : Marks → Type 0) → ((S : Marks) → P S → P (survivors ask S)) → (fuel : ℕ) (S : Marks) → P S
      → P (rounds_within ask fuel S).marks
  unfolding rounds_within until_none plus
  rounds_keep P keep zero S h = h
  rounds_keep P keep (suc fuel) S h = by_removal (removes ask S) (rounds_keep P keep fuel (survivors ask S) (keep S h))
    where
      by_removal : (b : Bool) → P (rounds_within ask fuel (survivors ask S)).marks
          → P (until_none ask b (rounds_within ask fuel) S).marks
      by_removal true rest = rest
      by_removal false rest = h

  within_closed : (fuel : ℕ) (S : Marks) → size S < fuel → Closed ask (rounds_within ask fuel S).marks
  unfolding rounds_within until_none plus
  within_closed zero S h = absurd (omega arith)
  within_closed (suc fuel) S h = by_removal (removes ask S) refl (within_closed fuel (survivors ask S))
    where
      by_removal : (b : Bool) → removes ask S ≡ b
          → (size (survivors ask S) < fuel → Closed ask (rounds_within ask fuel (survivors ask S)).marks)
          → Closed ask (until_none ask b (rounds_within ask fuel) S).marks
      by_removal true e rest = let less : size (survivors ask S) < size S = survivors_smaller S e in rest (omega arith)
      by_removal false e rest = none_removed S e

  -- Rounds

  pub rounds_part : (S : Marks) → Part (rounds ask S).marks S
  unfolding rounds
  rounds_part S =
      rounds_keep (λ X. Part X S) (λ X f. part_trans (survivors ask X) X S (survivors_part X) f) (suc (size S)) S (λ q h. h)

  pub rounds_length : (S : Marks) → length (rounds ask S).marks ≡ length S
  unfolding rounds
  rounds_length S = rounds_keep (λ X. length X ≡ length S) (λ X e. survivors_length X ∙ e) (suc (size S)) S refl

  pub rounds_closed : (S : Marks) → Closed ask (rounds ask S).marks
  unfolding rounds
  rounds_closed S = within_closed (suc (size S)) S (omega arith)

  pub initial_inherited : (k : ℕ) (S T : Marks) → Part S T → Initial ask k T → Initial ask k S
  initial_inherited k S T f i d h = i d (f d h)

  -- the set with which the largest set begins: all that pass initiation

  has_initial : (S : Marks) (q : ℕ) → has (initial ask S) q ≡ (has S q && not (ask S (initiation q)).sat)
  unfolding initial
  has_initial S q = has_filtered (λ d. not (ask S (initiation d)).sat) S q

  initial_passes : (k : ℕ) → Initial ask k (initial ask (replicate k true))
  initial_passes k d h =
      false_of_not (ask (replicate k true) (initiation d)).sat
      (and_right (has (replicate k true) d) (not (ask (replicate k true) (initiation d)).sat) (sym (has_initial (replicate k true) d) ∙ h))

  initial_contains : (k : ℕ) (T : Marks) → length T ≡ k → Initial ask k T → Part T (initial ask (replicate k true))
  initial_contains k T e i d h =
      has_initial (replicate k true) d
      ∙ and_both (has (replicate k true) d) (not (ask (replicate k true) (initiation d)).sat)
      (has_full k d (subst (λ (n : ℕ). d < n) e (has_range T d h))) (not_of_false (i d h))

  initial_length : (k : ℕ) → length (initial ask (replicate k true)) ≡ k
  unfolding initial
  initial_length k =
      length_each (λ d b. b && not (ask (replicate k true) (initiation d)).sat) 0 (replicate k true) ∙ length-replicate k true

  -- Rounds of S without q

  pub reduced_part : (q : ℕ) (S : Marks) → Part (reduced ask q S).marks S
  unfolding reduced
  reduced_part q S = part_trans (rounds ask (without q S)).marks (without q S) S (rounds_part (without q S)) (without_part S q)

  pub reduced_lacks : (q : ℕ) (S : Marks) → has (reduced ask q S).marks q ≡ false
  unfolding reduced
  reduced_lacks q S =
      part_lacks (rounds ask (without q S)).marks (without q S) (rounds_part (without q S)) q (has_without S q)

  pub reduced_ind : (k q : ℕ) (S : Marks) → Ind ask k S → Ind ask k (reduced ask q S).marks
  unfolding reduced without
  reduced_ind k q S i = (
    rounds_length (without q S) ∙ length-set S q false ∙ i.0,
    initial_inherited k (reduced ask q S).marks S (reduced_part q S) i.1,
    rounds_closed (without q S),
  )

  pub largest_ind : (k : ℕ) → Ind ask k (largest ask k).marks
  unfolding largest plus
  largest_ind k =
      let start : Marks = initial ask (replicate k true) in (
        rounds_length start ∙ initial_length k,
        initial_inherited k (rounds ask start).marks start (rounds_part start) (initial_passes k),
        rounds_closed start,
      )

  module _ (mono : Monotone ask) where
    survivors_contain : (T S : Marks) → Closed ask T → Part T S → Part T (survivors ask S)
    survivors_contain T S closed f q h =
        has_survivors S q
        ∙ and_both (has S q) (not (ask S (step q)).sat) (f q h) (not_of_false (mono.mono_step T S f q (closed q h)))

    pub rounds_contains : (S T : Marks) → Part T S → Closed ask T → Part T (rounds ask S).marks
    unfolding rounds
    rounds_contains S T f closed =
        rounds_keep (λ X. Part T X) (λ X g. survivors_contain T X closed g) (suc (size S)) S f

    pub reduced_contains : (q : ℕ) (S T : Marks) → Part T S → has T q ≡ false → Closed ask T → Part T (reduced ask q S).marks
    unfolding reduced
    reduced_contains q S T f lacks closed = rounds_contains (without q S) T (part_without S T q f lacks) closed

    pub largest_contains : (k : ℕ) (T : Marks) → Ind ask k T → Part T (largest ask k).marks
    unfolding largest plus
    largest_contains k T i =
        rounds_contains (initial ask (replicate k true)) T (initial_contains k T i.0 i.1) i.2

    pub largest_unique : (k : ℕ) (S : Marks) → Ind ask k S → ((T : Marks) → Ind ask k T → Part T S) → S ≡ (largest ask k).marks
    largest_unique k S i every =
        equal_by_parts S (largest ask k).marks (i.0 ∙ sym (largest_ind k).0) (largest_contains k S i)
        (every (largest ask k).marks (largest_ind k))

-- A law of a set's bytes: the first k, or all where there are fewer.
use Rattle.std.specs.Prelude.{ℕ, ◌≤◌, ◌<◌, min, ◌≡◌, refl, Bool, true, false, List, length, take, leb}
use Rattle.std.proofs.Common.{sym, ap, ◌∙◌, arith, take_all, leb-true, leb-false}
use Rattle.std.proofs.Math.Seq.{take-length}
use Rattle.told.specs.Answers.{marked}

first_by : (k : ℕ) (l : List ℕ) (b : Bool) → leb k (length l) ≡ b → take (min k (length l)) l ≡ take k l
first_by k l true e =
    let h : k ≤ length l = leb-true k (length l) e in
    let m : min k (length l) ≡ k = omega arith in
    ap (λ (n : ℕ). take n l) m
first_by k l false e =
    let h : length l < k = leb-false k (length l) e in
    let m : min k (length l) ≡ length l = omega arith in
    ap (λ (n : ℕ). take n l) m ∙ take-length l ∙ sym (take_all k l (omega arith))

pub first_is : (k : ℕ) (l : List ℕ) → take (min k (length l)) l ≡ take k l
first_is k l = first_by k l (leb k (length l)) refl

-- how many of the first k are marked, counted up to where they end
pub kept_is : (k end kept : ℕ) (lent : List ℕ) → kept ≡ marked (take end lent) → end ≡ min k (length lent) → kept ≡ marked (take k lent)
kept_is k end kept lent counted ends = counted ∙ ap (λ (n : ℕ). marked (take n lent)) ends ∙ ap marked (first_is k lent)

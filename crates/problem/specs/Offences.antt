-- The first literal that offends, found from the front.
use Rattle.std.specs.Prelude.{Option, Some, None, ℕ, zero, suc, ◌+◌, ◌-◌, ◌*◌, ◌≤◌, ◌<◌, ◌≡◌, Bool, ◌||◌, cond, length}
use native.Mathlib.Omega.{arith}
use Rattle.std.proofs.Math.Path.{refl, sym, ap}
use Rattle.std.proofs.Common.{◌∙◌, lt-ltb}
use Rattle.std.proofs.Math.Bool.{true, false}
use mathlib.Core.List.{List, [], ◌∷◌}
use Rattle.std.proofs.Math.Dec.{ltb, leb-suc-suc}
use Rattle.meaning.specs.Clauses.{Literal, any}
use Rattle.meaning.specs.File.{literals, literal_at, offends, before_offence}

-- the place of the first that offends, among the literals: `before_offence` of a number of literals that is not all of them
abbrev pub FirstOffence : (ℕ → Bool) → List Literal → Option ℕ → Type 0
FirstOffence may ls None = before_offence may ls ≡ length ls
FirstOffence may ls (Some i) = (i ≡ before_offence may ls) × (i < length ls)

pub length_literals : (file : List ℕ) (at count : ℕ) → length (literals file at count) ≡ count
unfolding literals
length_literals file at zero = refl
length_literals file at (suc count) = ap suc (length_literals file (at + 2) count)

-- so many literals that one more follows
one_more : (file : List ℕ) (at count i : ℕ) → i < count
    → literals file (at + 2 * i) (count - i)
    ≡ (literal_at file (at + 2 * i) ∷ literals file (at + 2 * (i + 1)) (count - (i + 1)))
unfolding literals
one_more file at count i h =
    ap (literals file (at + 2 * i)) more ∙
    ap (λ (a : ℕ). literal_at file (at + 2 * i) ∷ literals file a (count - (i + 1))) (omega arith)
  where
    more : count - i ≡ suc (count - (i + 1))
    more = omega arith

module _ (may : ℕ → Bool) where
  -- before the first literal none is passed
  pub offence_first : (file : List ℕ) (at count : ℕ)
      → before_offence may (literals file at count) ≡ 0 + before_offence may (literals file (at + 2 * 0) (count - 0))
  offence_first file at count =
      let place : at ≡ at + 2 * 0 = omega arith in
      let all_left : count ≡ count - 0 = omega arith in
      let same =
      ap (λ (a : ℕ). before_offence may (literals file a count)) place ∙
      ap (λ (n : ℕ). before_offence may (literals file (at + 2 * 0) n)) all_left in
      omega (arith, same)

  -- at a literal that offends there is none before the first
  pub offence_here : (file : List ℕ) (at count i : ℕ) → i < count → offends may (literal_at file (at + 2 * i)) ≡ true
      → before_offence may (literals file (at + 2 * i) (count - i)) ≡ 0
  unfolding before_offence
  offence_here file at count i h e =
      ap (before_offence may) (one_more file at count i h) ∙ rw e

  -- and past one that does not, one more
  pub offence_later : (file : List ℕ) (at count i : ℕ) → i < count → offends may (literal_at file (at + 2 * i)) ≡ false
      → before_offence may (literals file (at + 2 * i) (count - i))
      ≡ suc (before_offence may (literals file (at + 2 * (i + 1)) (count - (i + 1))))
  unfolding before_offence
  offence_later file at count i h e =
      ap (before_offence may) (one_more file at count i h) ∙ rw e

  -- past the last one there is none left
  pub offence_none : (file : List ℕ) (at count i : ℕ) → count ≤ i → before_offence may (literals file at (count - i)) ≡ 0
  unfolding before_offence literals
  offence_none file at count i h =
      let none_left : count - i ≡ 0 = omega arith in
      ap (λ (n : ℕ). before_offence may (literals file at n)) none_left

  -- some literal offends where fewer than all stand before the first that does
  pub any_offends : (ls : List Literal) → any (offends may) ls ≡ ltb (before_offence may ls) (length ls)
  unfolding any before_offence
  any_offends [] = refl
  any_offends (l ∷ ls) = go (offends may l) (any_offends ls)
    where
      go : (b : Bool) → any (offends may) ls ≡ ltb (before_offence may ls) (length ls)
          → (b || any (offends may) ls) ≡ ltb (cond b 0 (suc (before_offence may ls))) (suc (length ls))
      go true e = sym (lt-ltb 0 (suc (length ls)) (omega arith))
      go false e = e ∙ sym (leb-suc-suc (suc (before_offence may ls)) (length ls))

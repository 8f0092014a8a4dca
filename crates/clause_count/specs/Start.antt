-- Where a latch starts, by its line: the third number, which a line may lack.
use Rattle.std.specs.Prelude.{ℕ, zero, suc, ◌≤◌, ◌<◌, ◌≡◌, refl, ◌⊎◌, Bool, true, false, List, [], ◌∷◌, get_or, leb, Option, Some, None, is_some}
use Rattle.std.proofs.Common.{arith, ap, ◌∙◌, inl, inr}
use Rattle.std.proofs.Math.Path.{sym}
use Rattle.std.proofs.Math.Bool.{false}
use Rattle.std.proofs.Math.ListN.{length, length-map}
use Rattle.std.proofs.Math.Dec.{eqb}
use borrow.Author.Tests.{ne_eqb, eqb-false, leb-true}
use Rattle.meaning.specs.Lines.{line_at, ended, words, decimal, of_numbers}
use Rattle.meaning.specs.Circuit.{Start, at_0, at_1, at_either}
use Rattle.meaning.specs.CircuitText.{numbers_at, start_of}
use Rattle.laws.specs.Basics.{bool_cases, and_both, not_both}
use Rattle.lines.specs.Numbers.{huge, capped}
use Rattle.lines.specs.Literals.{capped_below}
use Rattle.lines.specs.Past.{line_past}
use Rattle.sections.specs.LineOf.{past_none, past_some}
use Rattle.sections.specs.Split.{numbers_count}
use Rattle.clause_count.specs.Rows.{RowAt}

-- a start as the code holds it: the value, or none for either
unfoldable pub start_code : Start → Option Bool
start_code at_0 = Some false
start_code at_1 = Some true
start_code at_either = None

-- the start of the latch whose line has these numbers
unfoldable pub start_in : List ℕ → Option Bool
start_in ns = start_code (start_of (get_or ns 2 0))

-- ---- the third number, if there is one

past_last : (ns : List ℕ) (k : ℕ) → length ns ≤ k → get_or ns k 0 ≡ 0
past_last [] k h = refl
past_last (a ∷ ns) zero h = absurd (omega arith)
past_last (a ∷ ns) (suc k) h = past_last ns k (omega arith)

module _ (text : List ℕ) (line : ℕ) (row : RowAt text 2 line) (r : Option ℕ) (is : r ≡ line_past 2 text line) (b : Bool) (told : b ≡ is_some r) where
  pub third_lacks : b ≡ true → Some false ≡ start_in (numbers_at text line)
  unfolding start_in start_of start_code numbers_at
  third_lacks some =
      let two = numbers_count 2 (line_at text line) (past_some 2 text line r is b told some).1 in
      sym
      (ap (λ (z : ℕ). start_code (start_of z))
      (past_last (numbers_at text line) 2 (omega (arith, two, length-map (words (line_at text line)) decimal))))

  pub third_stands : b ≡ false → RowAt text 3 line
  unfolding of_numbers
  third_stands none =
      record { inside = row.inside; closed = row.closed; numbers = row.numbers; wide = go (bool_cases (eqb (length (words (line_at text line))) 2)) }
    where
      go : (eqb (length (words (line_at text line))) 2 ≡ true) ⊎ (eqb (length (words (line_at text line))) 2 ≡ false)
          → 3 ≤ length (words (line_at text line))
      go (inl t) =
          absurd
          (not_both (and_both (ended text line) (of_numbers 2 (line_at text line)) row.closed (and_both _ _ t row.numbers))
          (past_none 2 text line r is b told none))
      go (inr t) = omega (arith, eqb-false (length (words (line_at text line))) 2 t, row.wide)

-- ---- what a number below the bound decides

-- whether it is 0, or 1
pub capped_is : (w k : ℕ) → k < 2 → eqb (capped w) k ≡ eqb w k
unfolding capped
capped_is w k less = go (bool_cases (leb huge w))
  where
    go : (leb huge w ≡ true) ⊎ (leb huge w ≡ false) → eqb (capped w) k ≡ eqb w k
    go (inl t) =
        let far : w ≡ k → ⊥ = λ e. omega (arith, e, leb-true huge w t) in
        rw t (ne_eqb huge k (λ e. omega (arith, e)) ∙ sym (ne_eqb w k far))
    go (inr t) = rw t

module _ (w v : ℕ) (is : v ≡ capped w) where
  given : (k : ℕ) → k < 2 → v ≡ k → k ≡ w
  given k less e = sym e ∙ is ∙ capped_below w (omega (arith, is, e))

  pub start_at_0 : v ≡ 0 → Some false ≡ start_code (start_of w)
  unfolding start_code start_of
  start_at_0 e = ap (λ (z : ℕ). start_code (start_of z)) (given 0 (omega arith) e)

  pub start_at_1 : v ≡ 1 → Some true ≡ start_code (start_of w)
  unfolding start_code start_of
  start_at_1 e = ap (λ (z : ℕ). start_code (start_of z)) (given 1 (omega arith) e)

  pub start_free : (v ≡ 0 → ⊥) → (v ≡ 1 → ⊥) → None ≡ start_code (start_of w)
  unfolding start_code start_of
  start_free some more =
      let not_0 : eqb w 0 ≡ false = sym (capped_is w 0 (omega arith)) ∙ ne_eqb (capped w) 0 (λ e. some (is ∙ e)) in
      let not_1 : eqb w 1 ≡ false = sym (capped_is w 1 (omega arith)) ∙ ne_eqb (capped w) 1 (λ e. more (is ∙ e)) in
      sym (rw (not_0, not_1))

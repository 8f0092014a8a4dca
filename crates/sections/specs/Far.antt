-- How many bytes lines take: a line of so many numbers takes two for each at least.
use Rattle.std.specs.Prelude.{ℕ, zero, suc, ◌+◌, ◌*◌, ◌≤◌, ◌≡◌, refl, Bool, true, false, cond, List, [], ◌∷◌, length, eqb}
use Rattle.std.proofs.Common.{arith, mul-suc, mul-zero, sym, true≢false}
use Rattle.meaning.specs.Clauses.{all}
use Rattle.meaning.specs.Lines.{space, line_at, next_line, with_first, words, is_empty, is_number}
use Rattle.laws.specs.Basics.{and_left, and_right}
use Rattle.sections.specs.Lists.{line_after}
use Rattle.sections.specs.SectionLines.{Row, Rows}

-- the words of a line with a byte after each
total : List (List ℕ) → ℕ
total [] = 0
total (w ∷ ws) = suc (length w) + total ws

-- what a byte more in the first word adds
first_more : (b : ℕ) (ws : List (List ℕ)) (n : ℕ) → total ws ≡ suc n → total (with_first b ws) ≡ suc (suc n)
unfolding with_first total
first_more b [] n e = absurd (omega (arith, e))
first_more b (w ∷ ws) n e = omega (arith, e)

words_total : (line : List ℕ) → total (words line) ≡ suc (length line)
unfolding words total
words_total [] = refl
words_total (b ∷ line) = go (eqb b space) (words_total line)
  where
    go : (t : Bool) → total (words line) ≡ suc (length line)
        → total (cond t ([] ∷ words line) (with_first b (words line))) ≡ suc (suc (length line))
    go true e = omega (arith, e)
    go false e = first_more b (words line) (length line) e

number_long : (w : List ℕ) → is_number w ≡ true → 1 ≤ length w
unfolding is_number is_empty
number_long [] h = absurd (true≢false (sym h))
number_long (b ∷ w) h = omega arith

numbers_long : (ws : List (List ℕ)) → all is_number ws ≡ true → 2 * length ws ≤ total ws
unfolding all total
numbers_long [] h = omega arith
numbers_long (w ∷ ws) h =
    omega (arith, number_long w (and_left (is_number w) (all is_number ws) h), numbers_long ws (and_right (is_number w) (all is_number ws) h))

-- a line of so many numbers, with its newline
pub line_long : (text : List ℕ) (width at : ℕ) → Row text width at → at + 2 * width ≤ next_line text at
unfolding next_line
line_long text width at r =
    omega (arith, numbers_long (words (line_at text at)) r.numbers, words_total (line_at text at), r.wide)

pub rows_far : (text : List ℕ) (width step : ℕ) → step ≤ 2 * width → (at i : ℕ) → Rows text width at i
    → at + step * i ≤ line_after text at i
unfolding line_after
rows_far text width step least at zero r = omega (arith, mul-zero step)
rows_far text width step least at (suc i) r =
    omega (arith, mul-suc step i, line_long text width at r.0, rows_far text width step least (next_line text at) i r.1)

-- The lemma text: one lemma a line, signed latch numbers closed by 0.
use Rattle.std.specs.Prelude.{ℕ, zero, suc, Bool, true, false, ◌&&◌, cond, List, [], ◌∷◌, length, get_or, drop, leb, eqb}
use Rattle.meaning.specs.Clauses.{Literal, Clause}
use Rattle.meaning.specs.File.{between}
use Rattle.meaning.specs.Built.{literal_if}
use Rattle.meaning.specs.Lines.{line_at, ended, next_line, words, is_number, decimal}

-- a word that starts with '-'
unfoldable pub has_minus : List ℕ → Bool
has_minus w = eqb (get_or w 0 0) 45

-- a word without its '-'
unfoldable pub unsigned : List ℕ → List ℕ
unsigned w = cond (has_minus w) (drop 1 w) w

-- a latch number 1 to L, with or without a '-' before it
unfoldable pub latch_right : ℕ → List ℕ → Bool
latch_right most w = is_number (unsigned w) && between 1 most (decimal (unsigned w))

-- a number of value 0 without a sign
unfoldable pub is_zero : List ℕ → Bool
is_zero w = is_number w && eqb (decimal w) 0

-- latch numbers, then 0
unfoldable pub lemma_right : ℕ → List (List ℕ) → Bool
lemma_right most [] = false
lemma_right most (w ∷ []) = is_zero w
lemma_right most (w ∷ w' ∷ ws) = latch_right most w && lemma_right most (w' ∷ ws)

unfoldable pub latch_literal : List ℕ → Literal
latch_literal w = literal_if (has_minus w) (decimal (unsigned w))

-- the clause of a line: all its words but the last
unfoldable pub lemma_of : List (List ℕ) → Clause
lemma_of [] = []
lemma_of (w ∷ []) = []
lemma_of (w ∷ w' ∷ ws) = latch_literal w ∷ lemma_of (w' ∷ ws)

-- 13: the place of the first line at fault; or the lemmas
pub data Lemmas : Type 0 where
  wrong : ℕ → Lemmas
  right : List Clause → Lemmas

unfoldable pub lemma_and : Clause → Lemmas → Lemmas
lemma_and c (wrong at) = wrong at
lemma_and c (right cs) = right (c ∷ cs)

unfoldable pub if_lemma : Bool → ℕ → Lemmas → Lemmas
if_lemma true at on = on
if_lemma false at on = wrong at

unfoldable pub unless_end : Bool → Lemmas → Lemmas
unless_end true on = right []
unless_end false on = on

-- The lines from a place on, to the end of the text. Each line takes a byte at least, so there are no more lines than bytes.
unfoldable pub lemmas_from : ℕ → ℕ → List ℕ → ℕ → Lemmas
lemmas_from zero most text at = right []
lemmas_from (suc fuel) most text at =
    unless_end (leb (length text) at)
    (if_lemma (ended text at && lemma_right most (words (line_at text at))) at
    (lemma_and (lemma_of (words (line_at text at))) (lemmas_from fuel most text (next_line text at))))

-- the lemmas of a text, over so many latches
unfoldable pub read_lemma_text : ℕ → List ℕ → Lemmas
read_lemma_text most text = lemmas_from (length text) most text 0

-- Lines of a text, their words and numbers: what the circuit text and the lemma text are made of. A text is a list of bytes.
use Rattle.std.specs.Prelude.{ℕ, suc, ◌+◌, ◌-◌, ◌*◌, Bool, true, false, not, ◌&&◌, cond, List, [], ◌∷◌, length, drop, ltb, eqb}
use Rattle.meaning.specs.Clauses.{all}
use Rattle.meaning.specs.File.{between}

abbrev pub newline : ℕ
newline = 10

abbrev pub space : ℕ
space = 32

-- the bytes before the first that is b
unfoldable pub until : ℕ → List ℕ → List ℕ
until b [] = []
until b (a ∷ as') = cond (eqb a b) [] (a ∷ until b as')

-- the line that starts at a place, without its newline
unfoldable pub line_at : List ℕ → ℕ → List ℕ
line_at text at = until newline (drop at text)

-- it is ended by a newline
unfoldable pub ended : List ℕ → ℕ → Bool
ended text at = ltb (at + length (line_at text at)) (length text)

-- where the line after it starts
unfoldable pub next_line : List ℕ → ℕ → ℕ
next_line text at = suc (at + length (line_at text at))

-- A line's words: what stands between its spaces. Two spaces side by side have an empty word between them, and so has a space at either end.
unfoldable pub with_first : ℕ → List (List ℕ) → List (List ℕ)
with_first b [] = (b ∷ []) ∷ []
with_first b (w ∷ ws) = (b ∷ w) ∷ ws

unfoldable pub words : List ℕ → List (List ℕ)
words [] = [] ∷ []
words (b ∷ bs) = cond (eqb b space) ([] ∷ words bs) (with_first b (words bs))

unfoldable pub is_empty : List ℕ → Bool
is_empty [] = true
is_empty (b ∷ bs) = false

unfoldable pub is_digit : ℕ → Bool
is_digit b = between 48 57 b

-- A number: decimal digits, one at least, of any length and so of any size
unfoldable pub is_number : List ℕ → Bool
is_number w = not (is_empty w) && all is_digit w

unfoldable pub decimal_on : ℕ → List ℕ → ℕ
decimal_on high [] = high
decimal_on high (b ∷ bs) = decimal_on (10 * high + (b - 48)) bs

unfoldable pub decimal : List ℕ → ℕ
decimal w = decimal_on 0 w

-- the line holds so many numbers, with exactly one space between two, and nothing else
unfoldable pub of_numbers : ℕ → List ℕ → Bool
of_numbers count line = eqb (length (words line)) count && all is_number (words line)

-- What the contracts say of symbol lines: the answer, the header that counts give, the form of a line, and the lines before a place.
use Rattle.std.specs.Prelude.{ℕ, ◌+◌, ◌≤◌, ◌<◌, ◌≡◌, Bool, true, false, ◌&&◌, List, [], ◌∷◌, length, get_or, drop, ltb, leb}
use Rattle.meaning.specs.Lines.{line_at, ended, next_line, is_number}
use Rattle.meaning.specs.CircuitText.{Header, Symbol, positions, symbol_digits, symbol_of}
use Rattle.lines.specs.Numbers.{huge, digits_of}
use Rattle.symbols.specs.declared.Counts.{Counts}

-- a header with these counts: no other of its numbers is looked at
unfoldable pub header_from : Counts → Header
header_from counts =
    record {
      m = 0;
      i = counts.i;
      l = counts.l;
      o = counts.o;
      a = 0;
      b = counts.b;
      c = counts.c;
      j = counts.j;
      f = counts.f;
      newer = false;
    }

-- each count is below the bound from which on values are not told apart
pub record Small (counts : Counts) : Type 0 where
  pub inputs : counts.i < huge
  pub latches : counts.l < huge
  pub outputs : counts.o < huge
  pub bads : counts.b < huge
  pub constraints : counts.c < huge
  pub justice : counts.j < huge
  pub fairness : counts.f < huge

-- the line that starts at a place ends at another: a newline stands there, or the text has ended
pub record LineTo (text : List ℕ) (at end : ℕ) : Type 0 where
  pub is : end ≡ at + length (line_at text at)
  pub inside : end ≤ length text

-- right but for a position that is named twice
unfoldable pub named_right : Header → List ℕ → Bool
named_right h line =
    is_number (symbol_digits line) && ltb (symbol_of line).at (positions h (symbol_of line).letter)
    && leb (length (symbol_digits line) + 3) (length line)

-- such a line as it stands in the text: it is ended, and its letter and digits are where they are read
pub record Named (text : List ℕ) (at : ℕ) : Type 0 where
  pub closed : ended text at ≡ true
  pub letter : (symbol_of (line_at text at)).letter ≡ get_or text at 0
  pub digits : symbol_digits (line_at text at) ≡ digits_of (drop (at + 1) text)
  pub small : (symbol_of (line_at text at)).at < huge

unfoldable pub symbol : ℕ → ℕ → Symbol
symbol letter place = record { letter = letter; at = place }

-- the lines from one place to another name these positions
unfoldable pub Earlier : List ℕ → ℕ → List Symbol → ℕ → Type 0
Earlier text from [] to = from ≡ to
Earlier text from (s ∷ before) to =
    Named text from × (s ≡ symbol_of (line_at text from)) × Earlier text (next_line text from) before to

-- they name some
pub record Listed (text : List ℕ) (from to : ℕ) : Type 0 where
  pub before : List Symbol
  pub earlier : Earlier text from before to

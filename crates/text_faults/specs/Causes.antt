-- Why a line of a circuit text is refused: one test after another, each over the definitions of the text.
use Rattle.std.specs.Prelude.{ℕ, ◌≤◌, ◌<◌, ◌%◌, ◌≡◌, Bool, true, false, not, ◌&&◌, cond, List, length, get_or, ltb, eqb}
use Rattle.meaning.specs.Clauses.{all}
use Rattle.meaning.specs.File.{between}
use Rattle.meaning.specs.Lines.{line_at, ended, words, is_number, of_numbers}
use Rattle.meaning.specs.CircuitText.{used_right, numbers_at}
use Rattle.circuit_text.specs.Header.{starts}
use Rattle.text_faults.specs.declared.definers.Places.{Places}
use Rattle.text_faults.specs.declared.cause.Cause.{Cause}
use Rattle.text_faults.specs.declared.cause.Cause.TheVariants.{Open, NoAag, HeaderNumbers, HeaderSum, Numbers, Odd, Small, Range, Twice, Undefined, Stuck}
use Rattle.text_faults.specs.Definers.{known_here, earlier}

-- a line of so many numbers, ended
unfoldable pub numbered : ℕ → List ℕ → ℕ → Bool
numbered width text at = ended text at && of_numbers width (line_at text at)

-- after 'aag' and its space, five to nine numbers
unfoldable pub five_to_nine : List ℕ → Bool
five_to_nine text = ended text 4 && (between 5 9 (length (words (line_at text 4))) && all is_number (words (line_at text 4)))

-- a header that is not right: it does not start with 'aag' and a space, or five to nine numbers do not follow, or else their sum is over M
unfoldable pub header_cause : List ℕ → Cause
header_cause text = cond (starts text) (cond (ended text 0) (cond (five_to_nine text) HeaderSum HeaderNumbers) Open) NoAag

-- a line of so many numbers at least at a place
pub record Row (text : List ℕ) (at width : ℕ) : Type 0 where
  pub inside : at < length text
  pub closed : ended text at ≡ true
  pub numbers : all is_number (words (line_at text at)) ≡ true
  pub many : width ≤ length (words (line_at text at))

-- number j of a line, counted from 0, is over 2M+1
unfoldable pub out : List ℕ → ℕ → ℕ → ℕ → ℕ → Bool
out text at width j m = cond (ltb j width) (not (used_right m (get_or (numbers_at text at) j 0))) false

-- no line defines the variable of number j
unfoldable pub unknown_at : List ℕ → ℕ → ℕ → ℕ → Places → Bool
unknown_at text at width j p = cond (ltb j width) (not (known_here text p (get_or (numbers_at text at) j 0))) false

-- what a line uses: numbers after the first, and the first too where it defines nothing; if all are defined, the gate is stuck
unfoldable pub later_cause : List ℕ → ℕ → ℕ → Places → Cause
later_cause text at width p =
    cond (unknown_at text at width 1 p) (Undefined 2) (cond (unknown_at text at width 2 p) (Undefined 3) Stuck)

unfoldable pub uses_cause : List ℕ → ℕ → ℕ → Bool → Places → Cause
uses_cause text at width defines p =
    cond defines (later_cause text at width p) (cond (unknown_at text at width 0 p) (Undefined 1) (later_cause text at width p))

-- an earlier line defines its variable
unfoldable pub twice_cause : List ℕ → ℕ → ℕ → Bool → Places → Cause
twice_cause text at width defines p =
    cond (ltb (earlier text p (get_or (numbers_at text at) 0 0) at) at) (Twice (earlier text p (get_or (numbers_at text at) 0 0) at))
    (uses_cause text at width defines p)

unfoldable pub after_ranges : List ℕ → ℕ → ℕ → Bool → Places → Cause
after_ranges text at width defines p = cond defines (twice_cause text at width defines p) (uses_cause text at width defines p)

-- its ranges by the header
unfoldable pub range_cause : List ℕ → ℕ → ℕ → Bool → ℕ → Places → Cause
range_cause text at width defines m p =
    cond (out text at width 0 m) (Range 1)
    (cond (out text at width 1 m) (Range 2) (cond (out text at width 2 m) (Range 3) (after_ranges text at width defines p)))

-- a literal that is defined is even, and 2 at least
unfoldable pub defined_cause : List ℕ → ℕ → ℕ → Bool → ℕ → Places → Cause
defined_cause text at width defines m p =
    cond (eqb (get_or (numbers_at text at) 0 0 % 2) 0)
    (cond (ltb (get_or (numbers_at text at) 0 0) 2) Small (range_cause text at width defines m p))
    Odd

unfoldable pub literals_cause : List ℕ → ℕ → ℕ → Bool → ℕ → Places → Cause
literals_cause text at width defines m p =
    cond defines (defined_cause text at width defines m p) (range_cause text at width defines m p)

-- a line of so many numbers, and no others
unfoldable pub form_cause : List ℕ → ℕ → ℕ → Bool → ℕ → Places → Cause
form_cause text at width defines m p = cond (numbered width text at) (literals_cause text at width defines m p) (Numbers width)

-- a count may be any number
unfoldable pub count_cause : List ℕ → ℕ → Cause
count_cause text at = cond (numbered 1 text at) Stuck (Numbers 1)

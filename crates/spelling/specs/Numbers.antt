-- A number as a word: digits alone, and at least one.
use Rattle.std.specs.Prelude.{ℕ, ◌+◌, ◌*◌, ◌-◌, Bool, ◌&&◌, cond, List, [], ◌∷◌, length, leb, ltb, Result, Ok, Err}
use Rattle.std.specs.List.{list_all}
use Rattle.spelling.specs.declared.number.NumberFault.{NumberFault}
use Rattle.spelling.specs.declared.number.NumberFault.TheVariants.{Over, Not}

-- a digit is one of `0` to `9`, which are 48 to 57
abbrev pub is_digit : ℕ → Bool
is_digit b = leb 48 b && leb b 57

abbrev pub all_digits : List ℕ → Bool
all_digits w = list_all is_digit w

abbrev pub is_number : List ℕ → Bool
is_number w = ltb 0 (length w) && all_digits w

-- the value of the digits, by Horner's rule: ten times what stands before a digit, and the digit
unfoldable pub value_after : ℕ → List ℕ → ℕ
value_after v [] = v
value_after v (b ∷ w) = value_after (10 * v + (b - 48)) w

unfoldable pub value : List ℕ → ℕ
value w = value_after 0 w

-- a value that is at most so large
abbrev pub up_to : ℕ → ℕ → Result ℕ NumberFault
up_to most v = cond (ltb most v) (Err Over) (Ok v)

-- what a word is as a number
unfoldable pub number_of : List ℕ → ℕ → Result ℕ NumberFault
number_of w most = cond (is_number w) (up_to most (value w)) (Err Not)

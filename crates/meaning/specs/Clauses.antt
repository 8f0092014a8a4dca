-- Literals, clauses and clause lists, and where they hold.
use Rattle.std.specs.Prelude.{ℕ, Bool, true, false, not, ◌&&◌, ◌||◌, List, [], ◌∷◌}

-- v for a variable, -v for its negation
pub data Literal : Type 0 where
  pos neg : ℕ → Literal

abbrev pub Clause : Type 0
Clause = List Literal

-- the variable of a literal
unfoldable pub variable : Literal → ℕ
variable (pos v) = v
variable (neg v) = v

-- the negation of a literal
unfoldable pub negation : Literal → Literal
negation (pos v) = neg v
negation (neg v) = pos v

-- a value for each variable
abbrev pub Values : Type 0
Values = ℕ → Bool

unfoldable pub is_true : Values → Literal → Bool
is_true w (pos v) = w v
is_true w (neg v) = not (w v)

module _ {A : Type 0} where
  -- some element passes the test; none of an empty list does
  unfoldable pub any : (A → Bool) → List A → Bool
  any test [] = false
  any test (a ∷ as') = test a || any test as'

  -- every element passes the test; of an empty list every one does
  unfoldable pub all : (A → Bool) → List A → Bool
  all test [] = true
  all test (a ∷ as') = test a && all test as'

-- A clause holds where some literal is true; an empty clause never holds.
unfoldable pub holds : Values → Clause → Bool
holds w c = any (is_true w) c

-- All clauses of a list hold; a list of no clauses always holds.
unfoldable pub all_hold : Values → List Clause → Bool
all_hold w cs = all (holds w) cs

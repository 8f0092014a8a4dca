-- Numbers in decimal.
use Rattle.std.specs.Prelude.{ℕ, zero, suc, ◌+◌, ◌/◌, ◌%◌, cond, List, [], ◌∷◌, ◌++◌, ltb}

-- the digit of a number below 10 (48 is `0`)
unfoldable pub digit : ℕ → ℕ
digit d = 48 + d

-- the digits of a number, so many at the most: those of its tenth, then its last
unfoldable pub digits : ℕ → ℕ → List ℕ
digits zero n = []
digits (suc most) n = cond (ltb n 10) (digit n ∷ []) (digits most (n / 10) ++ (digit (n % 10) ∷ []))

-- a number in decimal, with no zero in front (it has no more digits than it counts, and 0 has one)
unfoldable pub decimal : ℕ → List ℕ
decimal n = digits (suc n) n

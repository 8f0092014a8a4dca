-- Digits taken from the right: what the last so many digits of a number are worth.
use Prim.Native.Nat.{ℕ, zero, suc, ◌+◌, ◌-◌, ◌*◌, ◌≤◌, ◌<◌}
use native.Mathlib.Omega.{arith}
use Rattle.std.proofs.Common.{add-mul, mul_assoc, mul_comm, mul-le-mul_right, ◌∙◌, drop-cons}
use Rattle.std.proofs.Math.Nat.{zero-mul, lt_of_lt_of_le}
use Rattle.std.specs.Prelude.{◌≡◌, Bool, List, [], ◌∷◌, get_or, leb}
use Rattle.std.proofs.Math.Path.{refl, ap}
use Rattle.std.proofs.Math.Bool.{true, false, cond}
use Rattle.std.proofs.Math.ListN.{length, drop, length-drop}
use Rattle.std.proofs.Math.Seq.{drop-length}
use Rattle.std.proofs.Math.Dec.{ltb}
use borrow.Author.Tests.{ltb-true, ltb-false, leb-true}
use Rattle.meaning.specs.Clauses.{all}
use Rattle.meaning.specs.File.{between}
use Rattle.meaning.specs.Lines.{is_digit, decimal, decimal_on}
use Rattle.laws.specs.Basics.{and_left, and_right}

-- a power of ten
unfoldable pub ten : ℕ → ℕ
ten zero = 1
ten (suc p) = 10 * ten p

pub ten_pos : (p : ℕ) → 0 < ten p
unfolding ten
ten_pos zero = omega arith
ten_pos (suc p) = omega (arith, ten_pos p)

pub ten_rises : (p q : ℕ) → p ≤ q → ten p ≤ ten q
unfolding ten
ten_rises zero zero h = omega arith
ten_rises zero (suc q) h = omega (arith, ten_pos q)
ten_rises (suc p) zero h = absurd (omega arith)
ten_rises (suc p) (suc q) h = let on : p ≤ q = omega arith in omega (arith, ten_rises p q on)

-- what the last p digits are worth
unfoldable pub tail : List ℕ → ℕ → ℕ
tail w p = decimal (drop (length w - p) w)

-- the digit with p digits after it; 0 where there is none
unfoldable pub digit_from : List ℕ → ℕ → ℕ
digit_from w p = cond (ltb p (length w)) (get_or w (length w - suc p) 0 - 48) 0

decimal_high : (high : ℕ) (w : List ℕ) → decimal_on high w ≡ high * ten (length w) + decimal_on 0 w
unfolding decimal_on ten
decimal_high high [] = omega arith
decimal_high high (b ∷ w) =
    let P = ten (length w) in
    let d = b - 48 in
    let left = decimal_high (10 * high + d) w in
    let right = decimal_high (10 * 0 + d) w in
    let spread = add-mul (10 * high) d P in
    let tens = ap (λ (x : ℕ). x * P) (mul_comm 10 high) ∙ mul_assoc high 10 P in
    omega (arith, left, right, spread, tens)

-- the first digit, and the rest
pub decimal_first : (b : ℕ) (w : List ℕ) → decimal (b ∷ w) ≡ (b - 48) * ten (length w) + decimal w
unfolding decimal decimal_on
decimal_first b w = decimal_high (10 * 0 + (b - 48)) w ∙ ap (λ (d : ℕ). d * ten (length w) + decimal_on 0 w) (omega arith)

pub digit_small : (b : ℕ) → is_digit b ≡ true → b - 48 ≤ 9
unfolding is_digit between
digit_small b h = omega (arith, leb-true b 57 (and_right (leb 48 b) (leb b 57) h))

pub decimal_below : (w : List ℕ) → all is_digit w ≡ true → decimal w < ten (length w)
unfolding all ten decimal decimal_on
decimal_below [] h = omega arith
decimal_below (b ∷ w) h =
    let P = ten (length w) in
    let nine = mul-le-mul_right P (digit_small b (and_left (is_digit b) (all is_digit w) h)) in
    omega (arith, decimal_first b w, nine, decimal_below w (and_right (is_digit b) (all is_digit w) h))

drop_digits : (j : ℕ) (w : List ℕ) → all is_digit w ≡ true → all is_digit (drop j w) ≡ true
unfolding all
drop_digits zero w h = h
drop_digits (suc j) [] h = h
drop_digits (suc j) (b ∷ w) h = drop_digits j w (and_right (is_digit b) (all is_digit w) h)

pub at_digit : (w : List ℕ) (j : ℕ) → all is_digit w ≡ true → j < length w → is_digit (get_or w j 0) ≡ true
unfolding all
at_digit [] j h inside = absurd (omega arith)
at_digit (b ∷ w) zero h inside = and_left (is_digit b) (all is_digit w) h
at_digit (b ∷ w) (suc j) h inside = at_digit w j (and_right (is_digit b) (all is_digit w) h) (omega arith)

module _ (w : List ℕ) where
  pub tail_none : tail w 0 ≡ 0
  unfolding tail decimal decimal_on
  tail_none = ap decimal (ap (λ (j : ℕ). drop j w) (all_of (length w)) ∙ drop-length w)
    where
      all_of : (n : ℕ) → n - 0 ≡ n
      all_of n = omega arith

  pub tail_all : (p : ℕ) → length w ≤ p → tail w p ≡ decimal w
  unfolding tail
  tail_all p h = ap (λ (j : ℕ). decimal (drop j w)) (zero_left p h)
    where
      zero_left : (p : ℕ) → length w ≤ p → length w - p ≡ 0
      zero_left p h = omega arith

  module _ (digits : all is_digit w ≡ true) where
    pub tail_below : (p : ℕ) → tail w p < ten p
    unfolding tail
    tail_below p =
        let rest = drop (length w - p) w in
        let short : length rest ≤ p = omega (arith, length-drop (length w - p) w) in
        lt_of_lt_of_le (decimal_below rest (drop_digits (length w - p) w digits)) (ten_rises (length rest) p short)

    pub from_small : (p : ℕ) → digit_from w p ≤ 9
    unfolding digit_from
    from_small p = go (ltb p (length w)) refl
      where
        go : (b : Bool) → ltb p (length w) ≡ b → cond b (get_or w (length w - suc p) 0 - 48) 0 ≤ 9
        go true t =
            let inside = ltb-true p (length w) t in
            digit_small (get_or w (length w - suc p) 0) (at_digit w (length w - suc p) digits (omega arith))
        go false t = omega arith

    -- one digit more
    pub tail_more : (p : ℕ) → tail w (suc p) ≡ digit_from w p * ten p + tail w p
    unfolding tail digit_from
    tail_more p = go (ltb p (length w)) refl
      where
        go : (b : Bool) → ltb p (length w) ≡ b
            → decimal (drop (length w - suc p) w)
            ≡ cond b (get_or w (length w - suc p) 0 - 48) 0 * ten p + decimal (drop (length w - p) w)
        go true t =
            let inside = ltb-true p (length w) t in
            let j = length w - suc p in
            let below : j < length w = omega arith in
            let up : suc j ≡ length w - p = omega arith in
            let rest = drop (suc j) w in
            let long : length rest ≡ p = length-drop (suc j) w ∙ omega arith in
            ap decimal (drop-cons w j 0 below) ∙ decimal_first (get_or w j 0) rest
            ∙ ap (λ (k : ℕ). (get_or w j 0 - 48) * ten k + decimal rest) long
            ∙ ap (λ (k : ℕ). (get_or w j 0 - 48) * ten p + decimal (drop k w)) up
        go false t =
            let outside = ltb-false p (length w) t in
            let one : length w - suc p ≡ length w - p = omega arith in
            omega (arith, ap (λ (k : ℕ). decimal (drop k w)) one, zero-mul (ten p))

-- Three numbers and a fourth, as far as so many digits from the right are read.
use Rattle.std.specs.Prelude.{ℕ, suc, ◌+◌, ◌-◌, ◌*◌, ◌/◌, ◌%◌, ◌≤◌, ◌<◌, ◌≡◌, true, List, length, get_or}
use native.Mathlib.Omega.{arith}
use Rattle.std.proofs.Math.Numerals.{add-one}
use Rattle.std.proofs.Common.{add-mul, ap, ◌∙◌, lt-ltb, le-ltb}
use Rattle.meaning.specs.Clauses.{all}
use Rattle.meaning.specs.Lines.{is_digit}
use Rattle.lines.specs.declared.number.Number.{Number}
use Rattle.std.specs.declared.cmp.Ordering.{Ordering}
use Rattle.std.specs.declared.cmp.Ordering.TheVariants.{Equal, Greater}
use Rattle.lines.specs.Numbers.{worth}
use Rattle.lines.specs.Tails.{ten, tail, tail_none, tail_all, tail_more, digit_from, from_small, at_digit}
use Rattle.lines.specs.Order.{order, Compared, compared_none, compared_more, compared_over, compared_all, next_seen}

-- a digit from the right, as it stands among the digits
module _ (w : List ℕ) (p : ℕ) where
  pub from_past : length w ≤ p → digit_from w p ≡ 0
  unfolding digit_from
  from_past past = rw (le-ltb p (length w) past)

  pub from_at : all is_digit w ≡ true → p < length w
      → (digit_from w p ≡ get_or w (length w - 1 - p) 0 - 48) × (is_digit (get_or w (length w - 1 - p) 0) ≡ true)
  unfolding digit_from
  from_at digits inside =
      let spot : length w - suc p ≡ length w - 1 - p = omega arith in
      (rw (lt-ltb p (length w) inside) (ap (λ (j : ℕ). get_or w j 0 - 48) spot), at_digit w (length w - 1 - p) digits (omega arith))

-- ---- the sum of three, compared with a fourth

three_mul : (a b c k : ℕ) → (a + b + c) * k ≡ a * k + b * k + c * k
three_mul a b c k = omega (arith, add-mul (a + b) c k, add-mul a b k)

module _ (a b c m : Number) (carry : ℕ) where
  unfoldable pub sum_to : ℕ → ℕ
  sum_to p = tail a.digits.now p + tail b.digits.now p + tail c.digits.now p + carry

  abbrev pub ComparedTo : ℕ → ℕ → Ordering → Type 0
  ComparedTo p over seen = Compared (sum_to p) (tail m.digits.now p) (ten p) over seen

  pub none_read : ComparedTo 0 carry Equal
  unfolding sum_to
  none_read =
      rw (tail_none a.digits.now, tail_none b.digits.now, tail_none c.digits.now, tail_none m.digits.now) (compared_none carry)

  abbrev digits_sum : ℕ → ℕ
  digits_sum p = digit_from a.digits.now p + digit_from b.digits.now p + digit_from c.digits.now p

  sum_more : (p : ℕ) → sum_to (suc p) ≡ digits_sum p * ten p + sum_to p
  unfolding sum_to
  sum_more p =
      let spread = three_mul (digit_from a.digits.now p) (digit_from b.digits.now p) (digit_from c.digits.now p) (ten p) in
      omega (
        arith,
        tail_more a.digits.now a.digital p,
        tail_more b.digits.now b.digital p,
        tail_more c.digits.now c.digital p,
        spread,
      )

  pub read_more : (p over : ℕ) (seen : Ordering) (da db dc d : ℕ) → ComparedTo p over seen → da ≡ digit_from a.digits.now p
      → db ≡ digit_from b.digits.now p → dc ≡ digit_from c.digits.now p → d ≡ digit_from m.digits.now p
      → ComparedTo (p + 1) ((da + db + dc + over) / 10) (next_seen ((da + db + dc + over) % 10) d seen)
  unfolding ten
  read_more p over seen da db dc d h ea eb ec ed =
      rw (ea, eb, ec, ed, add-one p, sum_more p, tail_more m.digits.now m.digital p)
      (compared_more (sum_to p) (tail m.digits.now p) (ten p) over seen (digits_sum p) (digit_from m.digits.now p) h
      (from_small m.digits.now m.digital p))

  -- all digits are read
  module _ (p over : ℕ) (seen : Ordering) (h : ComparedTo p over seen) (la : length a.digits.now ≤ p) (lb : length b.digits.now ≤ p) (lc : length c.digits.now ≤ p)
      (lm : length m.digits.now ≤ p) where
    within : (x : Number) → length x.digits.now ≤ p → tail x.digits.now p ≡ worth x
    unfolding worth
    within x l = tail_all x.digits.now p l

    all_read : order (sum_to p) (tail m.digits.now p) ≡ order (worth a + worth b + worth c + carry) (worth m)
    unfolding sum_to
    all_read = rw (within a la, within b lb, within c lc, within m lm)

    pub over_is : 0 < over → Greater ≡ order (worth a + worth b + worth c + carry) (worth m)
    over_is more = compared_over (sum_to p) (tail m.digits.now p) (ten p) over seen h more ∙ all_read

    pub seen_is : over ≡ 0 → seen ≡ order (worth a + worth b + worth c + carry) (worth m)
    seen_is none = compared_all (sum_to p) (tail m.digits.now p) (ten p) over seen h none ∙ all_read

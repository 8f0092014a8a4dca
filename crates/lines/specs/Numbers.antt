-- What a number writes. The rest of what is said of numbers stands in `Digits`.
use Rattle.std.specs.Prelude.{ℕ, ◌≡◌}
use Rattle.meaning.specs.Lines.{decimal}
use Rattle.lines.specs.declared.number.Number.{Number}
unfoldable pub use Rattle.lines.specs.Digits.{digits_of, digit_at, capped, grown}
pub use Rattle.lines.specs.Digits.{huge, tenth, digit_past, digit_none, digit_low, digit_high, digit_of_digit, digit_is, a_digit, no_digit, grown_capped, decimal_more, slice_more, all_more, Begun, begun, begun_more, begun_whole}

-- the number that its digits write
unfoldable pub worth : Number → ℕ
worth x = decimal x.digits.now

-- its value is that, as far as it is below the bound
pub value_is : (x : Number) → x.value ≡ capped (worth x)
unfolding worth
value_is x = x.valued

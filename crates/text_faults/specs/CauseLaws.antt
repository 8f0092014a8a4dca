-- Laws by which causes are found: a line of so many numbers, and the counts of a header.
use Rattle.std.specs.Prelude.{ℕ, ◌+◌, ◌≤◌, ◌<◌, ◌≡◌, Bool, true, false, ◌&&◌, cond, List, length, refl, Option, Some, None, is_some}
use Rattle.std.proofs.Common.{ap, ◌∙◌, arith, ltb-true, le-leb}
use Rattle.meaning.specs.File.{between}
use Rattle.meaning.specs.Lines.{line_at, ended, next_line, words, of_numbers}
use Rattle.laws.specs.Basics.{and_left, and_right}
use Rattle.lines.specs.Past.{line_past}
use Rattle.sections.specs.Split.{numbers_count, numbers_all}
use Rattle.symbols.specs.Symbols.{LineTo}
use Rattle.circuit_text.specs.Header.{WidthIs}
use Rattle.text_faults.specs.Causes.{numbered, five_to_nine, Row}

-- a place after a line of so many numbers tells that it is one
pub numbered_is : (width : ℕ) (text : List ℕ) (at : ℕ) (r : Option ℕ) → r ≡ line_past width text at → is_some r ≡ numbered width text at
unfolding numbered line_past
numbered_is width text at r is = ap is_some is ∙ go (ended text at && of_numbers width (line_at text at))
  where
    go : (b : Bool) → is_some (cond b (Some (next_line text at)) None) ≡ b
    go true = refl
    go false = refl

pub row_of : (text : List ℕ) (at width : ℕ) → at < length text → numbered width text at ≡ true → Row text at width
unfolding numbered
row_of text at width inside h =
    let line = line_at text at in
    let numbers = and_right (ended text at) (of_numbers width line) h in
    record {
      inside = inside;
      closed = and_left (ended text at) (of_numbers width line) h;
      numbers = numbers_all width line numbers;
      many = omega (arith, numbers_count width line numbers);
    }

-- the numbers that a line has more may be left alone
pub row_part : {text : List ℕ} {at width : ℕ} (less : ℕ) → less ≤ width → Row text at width → Row text at less
row_part less h row =
    record { inside = row.inside; closed = row.closed; numbers = row.numbers; many = omega (arith, h, row.many) }

-- how many numbers follow 'aag' and its space
pub some_numbers : (text : List ℕ) (r : Option ℕ) → WidthIs text r → is_some r ≡ true → five_to_nine text ≡ true
unfolding five_to_nine between
some_numbers text None is some = absurd (cc)
some_numbers text (Some r) is some =
    let line = line_at text 4 in
    let n = length (words line) in
    let count = numbers_count r line is.numbers in
    let low : 5 ≤ n = omega (arith, count, is.least) in
    let high : n ≤ 9 = omega (arith, count, is.few) in
    rw (is.closed, le-leb 5 n low, le-leb n 9 high) (numbers_all r line is.numbers)

pub no_numbers : (text : List ℕ) (r : Option ℕ) → WidthIs text r → is_some r ≡ false → five_to_nine text ≡ false
unfolding five_to_nine
no_numbers text None is none = is
no_numbers text (Some r) is none = absurd (cc)

-- a line that is ended ends before the text does
pub closed_end : (text : List ℕ) (at end : ℕ) → LineTo text at end → ended text at ≡ true → end < length text
unfolding ended
closed_end text at end line h = omega (arith, line.is, ltb-true (at + length (line_at text at)) (length text) h)

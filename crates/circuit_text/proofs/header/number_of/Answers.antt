use native.Mathlib.Omega.{arith}
use Rattle.lines.specs.Digits.{none_stand}
use Rattle.sections.specs.Split.{numbers_all, numbers_count}
use Rattle.circuit_text.specs.Header.{number_left_out}
use Rattle.circuit_text.proofs.header.number_of.Goals as goal

pub nth-requires-clause-at_value_2 : goal.nth-requires-clause-at_value_2
nth-requires-clause-at_value_2 c =
    let p = c.requires in
    numbers_all _ _ p.text_value_2

pub nth-requires-clause-j_in_bounds : goal.nth-requires-clause-j_in_bounds
nth-requires-clause-j_in_bounds c =
    let p = c.requires in
    omega (arith, numbers_count _ _ p.text_value_2, c.if-j-width.true)

pub returns-clause-number : goal.returns-clause-number
returns-clause-number c = number_left_out _ _ _ c.requires.text_value_2 c.if-j-width.false _ c.no_number.ensures

pub returns-clause-stands : goal.returns-clause-stands
returns-clause-stands c = rw c.no_number.ensures (none_stand _)

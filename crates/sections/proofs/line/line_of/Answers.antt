use native.Mathlib.Omega.{arith}
use mathlib.Core.Path.{ap, ◌∙◌}
use Rattle.std.specs.Prelude.{Some}
use Rattle.sections.specs.Rows.{form_of}
use Rattle.sections.specs.LineOf.{line_not_numbers, line_literals_wrong, line_start_wrong, line_all_right}
use Rattle.sections.proofs.line.line_of.Goals as goal

pub returns-in_err-width : goal.returns-in_err-width
returns-in_err-width c = rw c.from_residual.ensures (line_not_numbers _ _ _ _ _ _ c.in_err-width.ensures, tt)

pub literals_right-requires-clause-le_width : goal.literals_right-requires-clause-le_width
unfolding form_of
literals_right-requires-clause-le_width c = omega (arith, c.in_ok-width.ensures.least)

pub start_right-requires-clause-le_width : goal.start_right-requires-clause-le_width
unfolding form_of
start_right-requires-clause-le_width c = omega (arith, c.in_ok-width.ensures.least)

pub start_right-requires-clause-width_le_width : goal.start_right-requires-clause-width_le_width
unfolding form_of
start_right-requires-clause-width_le_width c = c.in_ok-width.ensures.least

pub returns-then-not-literals_right : goal.returns-then-not-literals_right
returns-then-not-literals_right c =
    (line_literals_wrong _ _ _ _ _ _ _ c.in_ok-width.ensures _ c.literals_right.ensures c.if-not-literals_right.true, tt)

pub returns-then-not-start_right : goal.returns-then-not-start_right
returns-then-not-start_right c =
    (line_start_wrong _ _ _ _ _ _ _ c.in_ok-width.ensures _ c.literals_right.ensures c.if-not-literals_right.false _ c.start_right.ensures c.if-not-start_right.true, tt)

pub returns : goal.returns
returns c =
    let right = line_all_right _ _ _ _ _ _ _ c.in_ok-width.ensures _ c.literals_right.ensures c.if-not-literals_right.false _ c.start_right.ensures c.if-not-start_right.false in
    (ap Some c.next_line.ensures.0 ∙ right, c.next_line.ensures.1)

use native.Mathlib.Omega.{arith}
use Rattle.sections.specs.Whole.{lines_of}
use Rattle.uses.specs.Passing.{passing_start, passing_row, passing_wrong, passing_next, passing_end}
use Rattle.uses.specs.Stuck.{mark_stuck, mark_works}
use Rattle.uses.proofs.stuck.first_stuck.Goals as goal

pub loop-i-init : goal.loop-i-init
loop-i-init c = passing_start _ _ _ _ _ c.requires.whole.gates.inside c.requires.whole.gates.rows

pub returns-then-done-i-eq0 : goal.returns-then-done-i-eq0
unfolding lines_of
returns-then-done-i-eq0 c =
    let g = c.loop-i.invariant in
    passing_wrong _ _ _ _ _ g (omega arith) (mark_stuck _ c.args.c _ c.requires.marks_are _ _ (omega arith) g.place c.if-done-i-eq0.true)

pub next_line-p-requires-clause-at_value : goal.next_line-p-requires-clause-at_value
next_line-p-requires-clause-at_value c = (passing_row _ _ _ _ _ c.loop-i.invariant (omega arith)).closed

pub loop-i-preserved : goal.loop-i-preserved
loop-i-preserved c =
    let g = c.loop-i.invariant in
    passing_next _ _ _ _ _ g (omega arith)
    (mark_works _ c.args.c _ c.requires.marks_are _ _ (omega arith) g.place c.if-done-i-eq0.false) _ c.next_line-p.ensures.0

pub returns : goal.returns
unfolding lines_of
returns c = passing_end _ _ _ _ _ c.loop-i.invariant (omega arith)

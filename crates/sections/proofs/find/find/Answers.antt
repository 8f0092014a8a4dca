use native.Mathlib.Omega.{arith}
use Rattle.sections.specs.Lists.{variables_of, found_below, found_past}
use Rattle.sections.specs.Seek.{seek_end, seek_here, seek_ended, seek_next}
use Rattle.sections.proofs.find.find.Goals as goal

pub returns-then-same_variable : goal.returns-then-same_variable
unfolding variables_of
returns-then-same_variable c =
    let y = c.number_at-y.ensures in
    let here = seek_here c.loop-i.invariant (omega arith) c.number_at-y.result y.digits _ c.same_variable.ensures c.if-same_variable.true in
    (found_below _ _ _ _ here.0 (omega arith), omega arith)

pub next_line-p-requires-clause-at_value : goal.next_line-p-requires-clause-at_value
next_line-p-requires-clause-at_value c =
    let y = c.number_at-y.ensures in
    seek_ended c.loop-i.invariant (omega arith) c.number_at-y.result y.digits _ c.same_variable.ensures

pub loop-i-preserved : goal.loop-i-preserved
loop-i-preserved c =
    let y = c.number_at-y.ensures in
    seek_next c.loop-i.invariant (omega arith) c.number_at-y.result y.digits _ c.same_variable.ensures c.if-same_variable.false _ c.next_line-p.ensures.0 c.next_line-p.ensures.1

pub returns : goal.returns
unfolding variables_of
returns c =
    let end = seek_end c.loop-i.invariant (omega arith) in
    (found_past _ _ _ _ end.0 (omega arith), tt)

use native.Mathlib.Omega.{arith}
use Rattle.clause_count.specs.Rows.{cursor_start, cursor_next}
use Rattle.clause_count.specs.Tally.{tallied_none, tallied_next, tallied_all, tally_of}
use Rattle.clause_count.proofs.count.lines_clauses.Goals as goal

pub loop-init : goal.loop-init
loop-init c = (cursor_start _ _ _ _ c.requires.rows_at.inside c.requires.rows_at.rows, tallied_none _ _ _ _)

pub loop-preserved : goal.loop-preserved
loop-preserved c =
    let turn = c.loop.invariant in
    let counted = c.line_clauses-sum.ensures in
    let next = c.next_line-line.ensures.0 in
    (cursor_next turn.0 (omega arith) _ next, tallied_next turn.1 (omega arith) _ _ counted.0 counted.1 next)

pub returns : goal.returns
unfolding tally_of
returns c =
    let turn = c.loop.invariant.1 in
    (tallied_all turn (omega arith), omega (arith, turn.small, turn.low, c.requires.count_bound))

-- `built::latches::put_latch` meets its contract: the edge is that of the line's second number. Assumes nothing.
use Rattle.records.specs.Puts.{puts_is, room_is}
use Rattle.built.specs.Sections.{latch_as}
use mathlib.Core.Path.{sym}
use Rattle.built.proofs.latches.put_latch.Goals as goal

pub put_same-requires-clause-x_in_bounds : goal.put_same-requires-clause-x_in_bounds
put_same-requires-clause-x_in_bounds c =
    room_is (sym (latch_as c.args.text.now c.args.c c.args.i _ _ c.edge_at-x.ensures.0)) c.requires.line_in_bounds

pub returns : goal.returns
returns c = puts_is (latch_as c.args.text.now c.args.c c.args.i _ _ c.edge_at-x.ensures.0) c.put_same.ensures

-- `built::gates::put_gate` meets its contract: the edges are those of the line's numbers. Assumes nothing.
use Rattle.records.specs.Puts.{puts_is, room_is}
use Rattle.built.specs.Sections.{gate_as}
use mathlib.Core.Path.{sym}
use Rattle.built.proofs.gates.put_gate.Goals as goal

pub put_and-requires-clause-b_in_bounds : goal.put_and-requires-clause-b_in_bounds
put_and-requires-clause-b_in_bounds c =
    room_is (sym (gate_as _ _ _ _ _ _ c.edge_at-g.ensures.0 c.edge_at-a.ensures.0 c.edge_at-b.ensures.0)) c.requires.line_in_bounds

pub returns : goal.returns
returns c = puts_is (gate_as _ _ _ _ _ _ c.edge_at-g.ensures.0 c.edge_at-a.ensures.0 c.edge_at-b.ensures.0) c.put_and.ensures

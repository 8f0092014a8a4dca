use native.Mathlib.Omega.{arith}
use Rattle.built.specs.Turns.{turn_start, turn_room, turn_next, turn_end}
use Rattle.clause_count.specs.Rows.{cursor_start, cursor_row, cursor_next}
use Rattle.built.proofs.walk.put_lines.Goals as goal

pub loop-i-init : goal.loop-i-init
loop-i-init g c = (λ w. cursor_start _ _ _ _ w.rows.inside w.rows.rows, λ part room writes. turn_start _ _ room)

pub put-requires : goal.put-requires
put-requires g c =
    let w = c.requires in
    let here = c.loop-i.invariant.0 w in
    w.may _ _ _ (omega arith) here.place (cursor_row here (omega arith))
    (turn_room (c.loop-i.invariant.1 w.part w.room w.writes) (omega arith))

pub next_line-line-requires-clause-at_in_bounds : goal.next_line-line-requires-clause-at_in_bounds
next_line-line-requires-clause-at_in_bounds g c = (c.loop-i.invariant.0 c.requires).inside

pub next_line-line-requires-clause-at_value : goal.next_line-line-requires-clause-at_value
next_line-line-requires-clause-at_value g c = (cursor_row (c.loop-i.invariant.0 c.requires) (omega arith)).closed

pub loop-i-preserved : goal.loop-i-preserved
loop-i-preserved g c = (
  λ w. cursor_next (c.loop-i.invariant.0 w) (omega arith) _ c.next_line-line.ensures.0,
  λ part room writes.
      turn_next (c.loop-i.invariant.1 part room writes) (omega arith)
      (writes _ _ _ _ _ (c.loop-i.invariant.0 c.requires).place c.put.ensures),
)

pub returns : goal.returns
returns g c = λ part room writes. turn_end (c.loop-i.invariant.1 part room writes) (omega arith)

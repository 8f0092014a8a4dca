-- `built::put_end` meets its contract: a head with no body. Assumes nothing.
use mathlib.Core.Path.{sym}
use Rattle.records.specs.Puts.{puts_is, room_is}
use Rattle.built.specs.Problem.{end_is, head_room}
use Rattle.built.proofs.put_end.Goals as goal

pub put_head-requires-clause-at_in_bounds : goal.put_head-requires-clause-at_in_bounds
put_head-requires-clause-at_in_bounds c = head_room 0 6 (room_is (sym end_is) c.requires)

pub returns : goal.returns
returns c = puts_is end_is c.put_head.ensures

-- `built::clause::put_edge` meets its contract: a constant writes nothing. Assumes nothing.
use Rattle.records.specs.Puts.{puts_none}
use Rattle.built.specs.Clause.{edge_bytes, named_room}
use Rattle.built.proofs.clause.put_edge.Goals as goal

pub returns-in-Constant : goal.returns-in-Constant
unfolding edge_bytes
returns-in-Constant c = rw c.in-Constant.is (puts_none _)

pub put_literal-requires-clause-at_in_bounds : goal.put_literal-requires-clause-at_in_bounds
put_literal-requires-clause-at_in_bounds c = named_room _ (rw c.in-Named.is at c.requires.e_in_bounds)

pub returns-in-Named : goal.returns-in-Named
unfolding edge_bytes
returns-in-Named c = rw c.in-Named.is c.put_literal.ensures

-- `built::edge::Edge::is_true` meets its contract: for a constant and for a literal. Assumes nothing.
use mathlib.Core.Path.{sym}
use Rattle.clause_count.specs.Lengths.{is_true}
use Rattle.built.proofs.edge.Edge.is_true.Goals as goal

pub returns-in-Constant : goal.returns-in-Constant
unfolding is_true
returns-in-Constant c = sym (rw c.in-Constant.is)

pub returns-in-Named : goal.returns-in-Named
unfolding is_true
returns-in-Named c = sym (rw c.in-Named.is)

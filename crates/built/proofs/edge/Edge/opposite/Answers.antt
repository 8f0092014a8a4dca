-- `built::edge::Edge::opposite` meets its contract: the sign turns, the variable stays. Assumes nothing.
use mathlib.Core.Path.{refl}
use Rattle.meaning.specs.Built.{opposite}
use Rattle.built.specs.Edges.{opposite_named}
use Rattle.built.proofs.edge.Edge.opposite.Goals as goal

pub returns-in-Constant : goal.returns-in-Constant
unfolding opposite
returns-in-Constant c = rw c.in-Constant.is (refl, refl)

pub returns-in-Named : goal.returns-in-Named
returns-in-Named c = rw c.in-Named.is (opposite_named _ _ _ refl, refl)

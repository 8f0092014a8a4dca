-- `branches::nodes::lowest` meets its contract: no position before d is in the one and not in the other. Assumes nothing.
use Rattle.sets.specs.Asks.{marks_at}
use Rattle.branches.specs.ListingSets.{LowestLeft}
use Rattle.branches.proofs.nodes.lowest.Given as goal

abbrev pub invariant-loop-d : goal.invariant-loop-d
invariant-loop-d l = LowestLeft (marks_at l.of.problem.k l.a) (marks_at l.of.problem.k l.s) l.d

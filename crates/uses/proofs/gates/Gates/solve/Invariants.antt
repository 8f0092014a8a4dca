use Prim.Native.Nat.{◌-◌}
use lib.ListN.{length}
use Rattle.uses.specs.Solve.{Rounds, ones}
use Rattle.uses.proofs.gates.Gates.solve.Given as goal

abbrev pub invariant-loop : goal.invariant-loop
invariant-loop l = Rounds l.self.left.now l.self.right.now l.self.count l.initial.done l.done

abbrev pub decreases-loop : goal.decreases-loop
decreases-loop l = length l.initial.done - ones l.done

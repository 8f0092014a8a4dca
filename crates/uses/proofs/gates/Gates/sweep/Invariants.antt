use Rattle.uses.specs.Solve.{Sweeping}
use Rattle.uses.proofs.gates.Gates.sweep.Given as goal

abbrev pub invariant-loop-i : goal.invariant-loop-i
invariant-loop-i l = Sweeping l.self.left.now l.self.right.now l.self.count l.initial.done l.done l.i l.made

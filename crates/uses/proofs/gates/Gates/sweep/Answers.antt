use native.Mathlib.Omega.{arith}
use Rattle.uses.specs.Solve.{sweeping_next}
use Rattle.uses.proofs.gates.Gates.sweep.Goals as goal

pub loop-i-preserved : goal.loop-i-preserved
loop-i-preserved c = sweeping_next c.loop-i.invariant (omega arith) (omega (arith, c.args.self.now.few)) _ _ c.step-made.ensures.0 c.step-made.ensures.1

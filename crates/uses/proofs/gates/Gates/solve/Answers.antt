use native.Mathlib.Omega.{arith}
use Rattle.uses.specs.Solve.{rounds_next, rounds_end, ones_most}
use Rattle.uses.proofs.gates.Gates.solve.Goals as goal

pub loop-smaller : goal.loop-smaller
loop-smaller c =
    let s = c.sweep.ensures in
    let r = c.loop.invariant in
    omega (arith, s.more, s.long, r.long, ones_most c.sweep.new.done)

pub loop-preserved : goal.loop-preserved
loop-preserved c = rounds_next c.loop.invariant c.sweep.ensures

pub returns : goal.returns
returns c = rounds_end c.loop.invariant c.sweep.ensures (omega arith)

use Prim.Native.Nat.{◌≤◌}
use Rattle.lines.specs.Sums.{ComparedTo}
use Rattle.lines.proofs.compare.compare.Given as goal

abbrev pub invariant-loop-p : goal.invariant-loop-p
invariant-loop-p l = ComparedTo l.a l.b l.c l.m l.carry l.p l.over l.seen × (l.over ≤ 9) × (l.p ≤ l.width)

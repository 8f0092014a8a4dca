use Prim.Native.Nat.{◌-◌}
use Rattle.lines.specs.Numbers.{worth}
use Rattle.sections.specs.Split.{Ranged}
use Rattle.sections.proofs.line.rest_right.Given as goal

abbrev pub invariant-loop : goal.invariant-loop
invariant-loop l = Ranged l.text (worth l.m) l.end l.left l.p (l.left - l.counter)

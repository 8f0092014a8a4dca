use mathlib.Core.Bool.{true}
use Rattle.uses.specs.Passing.{Passing}
use Rattle.uses.specs.Fill.{Filled}
use Rattle.uses.proofs.stuck.fill.Given as goal

abbrev pub invariant-loop-i : goal.invariant-loop-i
invariant-loop-i l = Filled l.text l.c l.j l.out l.i × Passing (λ l. true) l.text 3 l.c.gates.at l.c.gates.count l.p l.i

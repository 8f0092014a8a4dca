use Rattle.sections.specs.Whole.{circuit_at}
use Rattle.uses.specs.Passing.{Passing}
use Rattle.uses.specs.Stuck.{gate_passes}
use Rattle.uses.proofs.stuck.first_stuck.Given as goal

abbrev pub invariant-loop-i : goal.invariant-loop-i
invariant-loop-i l = Passing (gate_passes (circuit_at l.text l.fn.c)) l.text 3 l.fn.c.gates.at l.fn.c.gates.count l.p l.i

use Prim.Native.Nat.{suc}
use Rattle.sections.specs.Whole.{circuit_at}
use Rattle.uses.specs.Passing.{Passing, known_number}
use Rattle.uses.proofs.first.first_unknown.Given as goal

abbrev pub invariant-loop : goal.invariant-loop
invariant-loop l = Passing (known_number (circuit_at l.text l.c) l.j) l.text (suc l.j) l.fn.s.at l.fn.s.count l.p l.counter

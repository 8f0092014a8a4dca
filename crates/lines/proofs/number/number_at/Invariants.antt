-- `lines::number::number_at` meets its contract. The loop's invariant: the digits up to here are read, and the others follow. Assumes nothing.
use Rattle.lines.specs.Digits.{Begun}
use Rattle.lines.proofs.number.number_at.Given as goal

abbrev pub invariant-loop-end : goal.invariant-loop-end
invariant-loop-end l = Begun l.text l.at l.end l.value

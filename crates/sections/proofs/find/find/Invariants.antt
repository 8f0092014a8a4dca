use Rattle.meaning.specs.Circuit.{var}
use Rattle.lines.specs.Numbers.{worth}
use Rattle.sections.specs.Seek.{Seeking}
use Rattle.sections.proofs.find.find.Given as goal

abbrev pub invariant-loop-i : goal.invariant-loop-i
invariant-loop-i l = Seeking l.text (var (worth l.x)) l.initial.p l.i-end l.p l.i

use Prim.Native.Nat.{◌<◌}
use mathlib.Core.Path.{◌≡◌}
use lib.ListN.{length, get_or}
use Rattle.meaning.specs.Lines.{line_at, words}
use Rattle.meaning.specs.CircuitText.{numbers_at}
use Rattle.lines.specs.Digits.{StandIn}
use Rattle.lines.specs.Numbers.{worth}
use Rattle.sections.specs.Nth.{Reached}
use Rattle.sections.proofs.nth.nth.Given as goal

abbrev pub invariant-loop : goal.invariant-loop
invariant-loop l =
    Reached l.text l.at (length (words (line_at l.text l.at))) l.counter l.p l.x × (l.j < length (words (line_at l.text l.at)))
    × (worth l.x ≡ get_or (numbers_at l.text l.at) l.counter 0) × StandIn l.text l.x.digits.now

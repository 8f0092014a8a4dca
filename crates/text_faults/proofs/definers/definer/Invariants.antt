-- `text_faults::definers::definer` meets its contract. The loop's invariant: what is left to walk finds what the whole walk does. Assumes nothing.
use Prim.Native.Nat.{◌-◌}
use lib.ListN.{length}
use Rattle.meaning.specs.Circuit.{var}
use Rattle.lines.specs.Numbers.{worth}
use Rattle.text_faults.specs.Definers.{Walked}
use Rattle.text_faults.proofs.definers.definer.Given as goal

abbrev pub invariant-loop-p : goal.invariant-loop-p
invariant-loop-p l = Walked l.text (var (worth l.x)) l.from l.to l.p

abbrev pub decreases-loop-p : goal.decreases-loop-p
decreases-loop-p l = length l.text - l.p

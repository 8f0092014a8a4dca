-- `text_faults::limits::long_lemma` meets its contract. The loop's invariant: what is left to walk finds what the whole walk does. Assumes nothing.
use Prim.Native.Nat.{◌-◌}
use lib.ListN.{length}
use Rattle.text_faults.specs.LimitLaws.{Sought}
use Rattle.text_faults.proofs.limits.long_lemma.Given as goal

abbrev pub invariant-loop-p : goal.invariant-loop-p
invariant-loop-p l = Sought l.text l.p

abbrev pub decreases-loop-p : goal.decreases-loop-p
decreases-loop-p l = length l.text - l.p

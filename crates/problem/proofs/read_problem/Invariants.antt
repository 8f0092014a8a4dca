-- `read_problem` goes from record to record. The invariant: what is read so far and the rest of the walk make the whole, and each section's
-- place is right (`Reached`). The measure is what is left of the file.
use Prim.Native.Nat.{◌-◌}
use lib.ListN.{length}
use Rattle.problem.specs.Records.{reader_of}
use Rattle.problem.specs.Reading.{Reached}
use Rattle.problem.proofs.read_problem.Given as goal

abbrev pub invariant-loop-w : goal.invariant-loop-w
invariant-loop-w l = Reached l.file (reader_of l.w) l.s

abbrev pub decreases-loop-w : goal.decreases-loop-w
decreases-loop-w l = length l.file - l.w.at

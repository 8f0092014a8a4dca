-- `Telling::sets`: each set starts within the lent bytes.
use Rattle.std.proofs.Common.{◌≤◌, length}
use Rattle.trim.proofs.telling.Telling.sets.Given as goal

abbrev pub invariant-loop-told : goal.invariant-loop-told
invariant-loop-told l = l.start ≤ length l.lent

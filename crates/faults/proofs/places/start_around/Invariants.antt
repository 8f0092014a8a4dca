-- `faults::places::start_around` meets its contract: the walk from here on ends at the same record. Assumes nothing.
use Rattle.std.proofs.Common.{◌-◌, ◌≤◌, ◌≡◌, length}
use Rattle.faults.specs.Places.{start_around, walk}
use Rattle.faults.proofs.places.start_around.Given as goal

abbrev pub invariant-loop-passed : goal.invariant-loop-passed
invariant-loop-passed l = (l.s.position ≤ l._passed) × (start_around l.file l.place ≡ walk (length l.file - l._passed) l.file l.place l.s)

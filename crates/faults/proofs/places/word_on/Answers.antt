-- `faults::places::word_on` meets its contract: past the end, or before it. Assumes nothing.
use native.Mathlib.Omega.{arith}
use Rattle.faults.specs.PlaceLaws.{two_past}
use Prim.Native.Nat.{◌+◌}
use Rattle.faults.proofs.places.word_on.Goals as goal

pub returns-then-file-at : goal.returns-then-file-at
returns-then-file-at c = let a = c.args in (two_past a.file.now (a.at + a.by) (omega arith), omega arith)

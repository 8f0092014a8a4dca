-- `faults::places::word_at` meets its contract: past the end, at the last byte, or before it. Assumes nothing.
use native.Mathlib.Omega.{arith}
use Rattle.faults.specs.PlaceLaws.{two_past, two_last}
use Rattle.faults.proofs.places.word_at.Goals as goal

pub returns-then-file-at : goal.returns-then-file-at
returns-then-file-at c = (two_past c.args.file.now c.args.at c.if-file-at.true, omega arith)

pub returns-then-file-at-eq1 : goal.returns-then-file-at-eq1
returns-then-file-at-eq1 c =
    let a = c.args in (
      two_last a.file.now a.at c.if-file-at-eq1.true,
      omega (arith, c.type_inv.file a.at),
    )

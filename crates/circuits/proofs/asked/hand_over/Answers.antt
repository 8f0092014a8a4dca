use mathlib.Core.Path.{refl}
use Rattle.circuits.specs.Handed.{handed_short, handed_fits}
use Rattle.circuits.proofs.asked.hand_over.Goals as goal

pub returns-then-file-own : goal.returns-then-file-own
returns-then-file-own c = handed_short _ _ _ c.if-file-own.true c.from.ensures

pub returns : goal.returns
returns c =
    let zeros = c.default.ensures in
    rw (zeros.0, zeros.1.0, zeros.1.1.0) (handed_fits _ _ _ _ _ c.if-file-own.false refl c.check-checked.ensures (rw c.copy_from_slice.ensures.after))

-- `faults::wrong::cut` meets its contract: of the head too few bytes are left, or of the body. Assumes nothing.
use Prim.Native.Nat.{ℕ, ◌-◌}
use native.Mathlib.Omega.{arith}
use mathlib.Core.Path.{ap, ap₂}
use lib.ListN.{length}
use borrow.Author.Tests.{lt-ltb, le-ltb}
use Rattle.faults.specs.Faults.{cut}
use Rattle.faults.specs.declared.wrong.Fault.TheVariants.{HeadCut, BodyCut}
use Rattle.faults.proofs.wrong.cut.Goals as goal

pub returns-then-left-lt4 : goal.returns-then-left-lt4
unfolding cut
returns-then-left-lt4 c =
    let a = c.args in
    let e = c.left_from-left.ensures in
    rw (lt-ltb (length a.file.now - a.place) 4 (omega (arith, e))) (ap HeadCut e)

pub returns : goal.returns
unfolding cut
returns c =
    let a = c.args in
    let e = c.left_from-left.ensures in
    rw (le-ltb (length a.file.now - a.place) 4 (omega (arith, e))) (ap₂ BodyCut c.word_at.ensures.0 (ap (λ (n : ℕ). n - 4) e))

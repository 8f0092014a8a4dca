use Prim.Native.Nat.{◌-◌, ◌+◌}
use mathlib.Core.Path.{◌≡◌, subst}
use native.Mathlib.Omega.{arith}
use Rattle.sections.specs.Split.{Ranged, ranged_start, ranged_not, ranged_next, ranged_end}
use Rattle.sections.proofs.line.rest_right.Goals as goal

pub loop-init : goal.loop-init
loop-init c = ranged_start _ c.requires

pub returns-then-not-used_right : goal.returns-then-not-used_right
returns-then-not-used_right c =
    let x = c.number_at-x.ensures in
    ranged_not c.number_at-x.result x.digits _ c.used_right.ensures _ (omega arith) c.loop.invariant c.if-not-used_right.true

pub loop-preserved : goal.loop-preserved
loop-preserved c =
    let x = c.number_at-x.ensures in
    let one_less : c.args.left - c.loop.counter - 1 ≡ c.args.left - (c.loop.counter + 1) = omega arith in
    subst (Ranged _ _ _ _ _) one_less
    (ranged_next c.number_at-x.result x.digits _ c.used_right.ensures _ (omega arith) c.loop.invariant c.if-not-used_right.false)

pub returns : goal.returns
returns c = ranged_end _ (omega arith) c.loop.invariant

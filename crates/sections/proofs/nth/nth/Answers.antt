use mathlib.Core.Path.{refl}
use native.Mathlib.Omega.{arith}
use Rattle.lines.specs.Digits.{stand_at}
use Rattle.sections.specs.Split.{of_all}
use Rattle.sections.specs.Nth.{reached_first, reached_next, reached_is}
use Rattle.sections.proofs.nth.nth.Goals as goal

pub loop-init : goal.loop-init
loop-init c =
    let start = c.requires in
    let y = c.number_at-x.ensures in
    let first = reached_first c.args.text.now c.args.at _ c.number_at-x.result start.at_value (of_all _ start.at_value_2) (omega arith) y.digits in
    (first, start.j_in_bounds, reached_is _ _ _ _ _ _ _ refl first, stand_at _ _ _ y.digits y.inside)

pub loop-preserved : goal.loop-preserved
loop-preserved c =
    let h = c.loop.invariant in
    let y = c.number_at-x-in-loop.ensures in
    let next = reached_next _ _ _ _ _ _ (omega arith) h.0 c.number_at-x-in-loop.result y.digits in
    (next, h.1, reached_is _ _ _ _ _ _ _ refl next, stand_at _ _ _ y.digits y.inside)

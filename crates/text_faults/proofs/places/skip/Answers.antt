use Prim.Native.Nat.{◌-◌, ◌+◌, suc, ℕ}
use mathlib.Core.Path.{◌≡◌, sym, ap, ◌∙◌}
use native.Mathlib.Omega.{arith}
use Rattle.text_faults.specs.Places.{skip}
use Rattle.text_faults.proofs.places.skip.Goals as goal

pub loop-done-preserved : goal.loop-done-preserved
unfolding skip
loop-done-preserved c =
    let l = c.loop-done in
    let t = c.args.text.now in
    let n = c.args.count in
    let less : n - l.done ≡ suc (n - (l.done + 1)) = omega arith in (
      l.invariant.0 ∙ ap (λ (m : ℕ). skip m t l.p) less ∙ ap (skip (n - (l.done + 1)) t) (sym c.after_line-p.ensures.0),
      c.after_line-p.ensures.1,
    )

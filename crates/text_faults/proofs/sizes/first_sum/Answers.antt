use Prim.Native.Nat.{ℕ, suc, ◌+◌, ◌-◌}
use mathlib.Core.Path.{◌≡◌, sym, ap, ◌∙◌}
use native.Mathlib.Omega.{arith}
use Rattle.lines.specs.Numbers.{capped}
use Rattle.text_faults.specs.Sizes.{first_sum, sum_end, sum_done, first_is, sum_on}
use Rattle.text_faults.proofs.sizes.first_sum.Goals as goal

pub returns-then-text-p : goal.returns-then-text-p
returns-then-text-p c =
    let l = c.loop-done in
    sum_done l.sum _ _ (sum_end (c.args.count - l.done) c.args.text.now l.p (omega arith)) l.invariant.2 l.invariant.0

pub loop-done-preserved : goal.loop-done-preserved
loop-done-preserved c =
    let l = c.loop-done in
    let t = c.args.text.now in
    let n = c.args.count in
    let x = c.number_at in
    let less : n - l.done ≡ suc (n - (l.done + 1)) = omega arith in
    let is = sym (ap (λ (m : ℕ). capped (l.sum + first_sum m t l.p)) less) ∙ l.invariant.0 in (
      sum_on (n - (l.done + 1)) t l.p l.sum _ _ _ _ is (first_is t x.result l.p x.ensures.digits) c.after_line-p.ensures.0 c.added-sum.ensures.0,
      c.after_line-p.ensures.1,
      c.added-sum.ensures.1,
    )

pub returns : goal.returns
unfolding first_sum
returns c =
    let l = c.loop-done in
    let none : c.args.count - l.done ≡ 0 = omega arith in
    sum_done l.sum _ _ (ap (λ (n : ℕ). first_sum n c.args.text.now l.p) none) l.invariant.2 l.invariant.0

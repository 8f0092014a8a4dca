use Prim.Native.Nat.{ℕ, suc, ◌+◌, ◌-◌}
use mathlib.Core.Path.{◌≡◌, refl, sym, ap, ◌∙◌}
use native.Mathlib.Omega.{arith}
use Rattle.lines.specs.Past.{line_past}
use Rattle.lines.proofs.line.line_past.Goals as goal

pub loop-init : goal.loop-init
loop-init c =
    let all : c.args.width ≡ suc (c.args.width - 1) = omega arith in
    (ap (λ (k : ℕ). line_past k c.args.text.now c.args.at) all, c.requires.at_in_bounds, c.requires.le_width)

pub past_number-requires : goal.past_number-requires
past_number-requires c = c.loop.invariant.1

pub returns-in_err-p : goal.returns-in_err-p
returns-in_err-p c =
    let h = c.loop.invariant in
    let k = c.args.width - c.loop.counter - 1 in
    let more : c.args.width - c.loop.counter ≡ suc k = omega arith in
    rw c.from_residual.ensures
    (c.in_err-p.ensures.spaced refl k ∙ ap (λ (j : ℕ). line_past (suc j) c.args.text.now c.loop.p) (sym more) ∙ sym h.0, tt)

pub loop-preserved : goal.loop-preserved
loop-preserved c =
    let h = c.loop.invariant in
    let k = c.args.width - c.loop.counter - 1 in
    let more : c.args.width - c.loop.counter ≡ suc k = omega arith in
    let next : k ≡ c.args.width - (c.loop.counter + 1) = omega arith in (
      h.0 ∙ ap (λ (j : ℕ). line_past (suc j) c.args.text.now c.loop.p) more
          ∙ sym (c.in_ok-p.ensures.spaced refl k)
          ∙ ap (λ (j : ℕ). line_past (suc j) c.args.text.now c.in_ok-p.p) next,
      c.in_ok-p.ensures.inside,
      omega arith,
    )

pub past_number-requires-2 : goal.past_number-requires-2
past_number-requires-2 c = c.loop.invariant.1

pub returns : goal.returns
returns c =
    let h = c.loop.invariant in
    let last : c.args.width - c.loop.counter ≡ 0 = omega arith in (
      c.past_number-2.ensures.closed refl ∙ ap (λ (j : ℕ). line_past (suc j) c.args.text.now c.loop.p) (sym last) ∙ sym h.0,
      c.past_number-2.ensures.inside,
    )

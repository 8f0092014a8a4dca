use mathlib.Core.Path.{sym, ap, subst⁻¹, ◌∙◌}
use native.Mathlib.Omega.{arith}
use Prim.Native.Nat.{ℕ, ◌+◌, ◌-◌}
use Rattle.std.specs.Prelude.{◌≡◌, length, take, drop}
use Rattle.std.proofs.lemmas.List.{drop-take}
use Rattle.lines.specs.Digits.{Begun, begun, begun_more, begun_whole, digit_past}
use Rattle.lines.proofs.number.number_at.Goals as goal

pub loop-end-init : goal.loop-end-init
loop-end-init c = begun _ _ c.requires

pub loop-end-preserved : goal.loop-end-preserved
loop-end-preserved c =
    subst⁻¹ (Begun _ _ _) c.grown-value.ensures (begun_more _ c.loop-end.invariant (sym c.in-Some.ensures.0) c.in-Some.ensures.1)

pub returns-in_default-clause-digits : goal.returns-in_default-clause-digits
returns-in_default-clause-digits c =
    let h = c.loop-end.invariant in
    let whole : c.args.at + (c.loop-end.end - c.args.at) ≡ c.loop-end.end = omega (arith, h.rises) in
    sym (drop-take c.args.at (c.loop-end.end - c.args.at) c.args.text.now)
    ∙ ap (λ (k : ℕ). drop c.args.at (take k c.args.text.now)) whole
    ∙ begun_whole h (sym c.in_default.ensures.0)

pub returns-clause-digits : goal.returns-clause-digits
returns-clause-digits c =
    let h = c.loop-end.invariant in
    let whole : c.args.at + (length c.args.text.now - c.args.at) ≡ c.loop-end.end = omega (arith, h.rises, h.inside) in
    sym (drop-take c.args.at (length c.args.text.now - c.args.at) c.args.text.now)
    ∙ ap (λ (k : ℕ). drop c.args.at (take k c.args.text.now)) whole
    ∙ begun_whole h (digit_past _ _ c.loop-end-test.false)

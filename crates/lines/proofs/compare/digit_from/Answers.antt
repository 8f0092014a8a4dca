use Prim.Native.Nat.{ℕ, ◌≤◌}
use mathlib.Core.Path.{sym, subst⁻¹, ◌∙◌}
use native.Mathlib.Omega.{arith}
use Rattle.lines.specs.Literals.{digit_least}
use Rattle.lines.specs.Tails.{from_small}
use Rattle.lines.specs.Sums.{from_past, from_at}
use Rattle.lines.proofs.compare.digit_from.Goals as goal

pub returns-then-x-p : goal.returns-then-x-p
returns-then-x-p c = (sym (from_past _ _ (omega arith)), omega arith)

pub overflow_sub-x-3 : goal.overflow_sub-x-3
overflow_sub-x-3 c = digit_least _ (from_at _ _ c.args.x.now.digital (omega arith)).1

pub returns : goal.returns
returns c =
    let same = c.from.ensures ∙ sym (from_at _ _ c.args.x.now.digital (omega arith)).0 in
    (same, subst⁻¹ (λ (d : ℕ). d ≤ 9) same (from_small _ c.args.x.now.digital _))

-- `lines::literal::same_far` meets its contract: equal, or one more than an even one. Assumes nothing.
use mathlib.Core.Path.{sym, ◌∙◌}
use Rattle.lines.specs.Literals.{far_even, far_odd, far_even_other}
use Rattle.lines.proofs.literal.same_far.Goals as goal

pub returns-then-is_even : goal.returns-then-is_even
returns-then-is_even c =
    far_even _ _ _ c.is_sum.ensures c.if-is_sum.false (sym c.is_even.ensures ∙ c.if-is_even.true) _ c.is_sum-then-is_even.ensures

pub returns-then-is_even-2 : goal.returns-then-is_even-2
returns-then-is_even-2 c =
    far_even_other _ _ _ c.is_sum.ensures c.if-is_sum.false (sym c.is_even-2.ensures ∙ c.if-is_even-2.true) _ c.is_sum-then-is_even-2.ensures

pub returns-else-is_even-2 : goal.returns-else-is_even-2
returns-else-is_even-2 c =
    c.if-is_even-2.false
    ∙ sym (far_odd _ _ _ c.is_sum.ensures c.if-is_sum.false (sym c.is_even.ensures ∙ c.if-is_even.false) (sym c.is_even-2.ensures ∙ c.if-is_even-2.false))

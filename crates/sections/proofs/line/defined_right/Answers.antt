use mathlib.Core.Path.{sym, ap, ◌∙◌}
use mathlib.Core.Bool.{not}
use native.Mathlib.Omega.{arith}
use Rattle.sections.specs.Rows.{odd_not, small_not, wide_not, not_judged, judged_new, value_small, value_least}
use Rattle.sections.proofs.line.defined_right.Goals as goal

pub returns-then-not-is_even : goal.returns-then-not-is_even
returns-then-not-is_even c = odd_not _ _ _ _ (sym c.is_even.ensures ∙ c.if-not-is_even.true)

pub returns-then-l-lt2 : goal.returns-then-l-lt2
returns-then-l-lt2 c = small_not _ _ _ _ (sym c.is_even.ensures ∙ c.if-not-is_even.false) (value_small _ c.if-l-lt2.true)

pub returns-then-not-used_right : goal.returns-then-not-used_right
returns-then-not-used_right c = wide_not _ _ _ _ (sym c.is_even.ensures ∙ c.if-not-is_even.false) (value_least _ (omega arith)) (sym c.used_right.ensures ∙ c.if-not-used_right.true)

pub returns-then-not-judged : goal.returns-then-not-judged
returns-then-not-judged c =
    ap not c.if-not-judged.true
    ∙ not_judged _ _ _ _ (sym c.is_even.ensures ∙ c.if-not-is_even.false) (value_least _ (omega arith))
    (sym c.used_right.ensures ∙ c.if-not-used_right.false) c.if-not-judged.true

pub returns-else-not-judged : goal.returns-else-not-judged
returns-else-not-judged c =
    judged_new _ _ _ _ (sym c.is_even.ensures ∙ c.if-not-is_even.false) (value_least _ (omega arith))
    (sym c.used_right.ensures ∙ c.if-not-used_right.false) c.if-not-judged.false _ c.seen.ensures

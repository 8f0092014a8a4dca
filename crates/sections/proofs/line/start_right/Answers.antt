use borrow.Author.Tests.{not-true, not-false}
use native.Mathlib.Omega.{arith}
use Rattle.sections.specs.Split.{numbers_all, numbers_count}
use Rattle.sections.specs.LineOf.{starts_not, starts_none, starts_constant, starts_own}
use Rattle.sections.proofs.line.start_right.Goals as goal
use Rattle.sections.proofs.line.start_right.Goals.{then-not-form-via-then-not-form, then-not-form-via-else-not-form+then-form-width}

pub returns-then-not-form : goal.returns-then-not-form
returns-then-not-form c =
    elim c.then-not-form.branch [
      | then-not-form-via-then-not-form w ↦ starts_not _ _ _ 0 (not-true _ w.if-not-form.true)
      | then-not-form-via-else-not-form+then-form-width w ↦
          starts_none _ _ _ _ (not-false _ w.if-not-form.false) c.requires.at_value_2 w.if-form-width.true
    ]

pub nth-start-requires-clause-at_value_2 : goal.nth-start-requires-clause-at_value_2
nth-start-requires-clause-at_value_2 c = numbers_all _ _ c.requires.at_value_2

pub nth-start-requires-clause-j_in_bounds : goal.nth-start-requires-clause-j_in_bounds
nth-start-requires-clause-j_in_bounds c =
    omega (arith, numbers_count _ _ c.requires.at_value_2, c.requires.width_le_width, c.if-form-width.false)

pub returns-then-start-lt2 : goal.returns-then-start-lt2
returns-then-start-lt2 c = starts_constant _ _ _ 0 (not-false _ c.if-not-form.false) _ c.nth-start.ensures.0 c.if-start-lt2.true

pub nth-requires-clause-at_value_2 : goal.nth-requires-clause-at_value_2
nth-requires-clause-at_value_2 c = numbers_all _ _ c.requires.at_value_2

pub nth-requires-clause-j_in_bounds : goal.nth-requires-clause-j_in_bounds
nth-requires-clause-j_in_bounds c =
    omega (arith, numbers_count _ _ c.requires.at_value_2, c.requires.le_width)

pub returns : goal.returns
returns c = starts_own _ _ _ 0 (not-false _ c.if-not-form.false) _ c.nth-start.ensures.0 c.if-start-lt2.false _ c.nth.ensures.0 _ c.is_sum.ensures

-- `rows::found::row_of` meets its contract: each answer of the smaller sets is one law of a listing. Assumes nothing.
use native.Mathlib.Omega.{arith}
use mathlib.Core.Path.{refl, ap, subst, ◌∙◌}
use Rattle.std.specs.Prelude.{Ok}
use Rattle.meaning.specs.Rules.{smaller}
use Rattle.sets.specs.Asks.{marks_at}
use Rattle.sets.specs.Told.{told_by}
use Rattle.rows.specs.declared.found.Progress.{Progress}
use Rattle.rows.specs.ListingProgress.{FedBy, one_row}
use Rattle.rows.specs.ListingRow.{row_spent, row_smaller, row_found}
use Rattle.rows.proofs.found.row_of.Goals as goal

pub after-requires : goal.after-requires
after-requires c =
    let told = told_by _ _ c.in-Ok-Yes.ensures (ap Ok c.in-Ok-Yes.field-0-is) in
    omega (arith, told.fits, c.ranges.budget, c.requires.in_budget)

pub after-requires-in-Ok-No : goal.after-requires-in-Ok-No
after-requires-in-Ok-No c =
    let told = told_by _ _ c.in-Ok-No.ensures (ap Ok c.in-Ok-No.field-0-is) in
    omega (arith, told.fits, c.ranges.budget, c.requires.in_budget)

pub returns-in-Err : goal.returns-in-Err
unfolding smaller
returns-in-Err c = record {
  is = row_spent _ _ _ _ _ _ c.requires.in_budget _ (told_by _ _ c.in-Err.ensures refl);
  sound = tt;
}

pub returns-in-Ok-Yes : goal.returns-in-Ok-Yes
unfolding smaller
returns-in-Ok-Yes c =
    let told = told_by _ _ c.in-Ok-Yes.ensures (ap Ok c.in-Ok-Yes.field-0-is) in
    rw c.after.ensures
    (record {
      is = row_smaller _ _ _ _ _ _ c.requires.in_budget _ _ told;
      sound = (omega (arith, told.fits, c.requires.in_budget), c.requires.fits);
    })

pub returns-in-Ok-No : goal.returns-in-Ok-No
unfolding smaller
returns-in-Ok-No c =
    let a = c.args in
    let told = told_by _ _ c.in-Ok-No.ensures (ap Ok c.in-Ok-No.field-0-is) in
    let used = ap (λ (at : Progress). at.used) c.after-in-Ok-No.ensures in
    let put =
    subst (λ (at : Progress). FedBy a.of.now.problem.k a.budget (one_row (marks_at a.of.now.problem.k a.s)) at a.rows.now c.put_row.new.rows c.put_row.result)
    c.after-in-Ok-No.ensures
    (c.put_row.ensures a.budget (omega (arith, used, told.fits, c.requires.in_budget))) in
    record { is = put.is ∙ row_found _ _ _ _ _ _ c.requires.in_budget _ _ told; sound = put.sound }

-- `sets::questions::failing` meets its contract: the steps, and then the safety. Assumes nothing.
use native.Mathlib.Omega.{arith}
use mathlib.Core.Path.{ap, ◌∙◌}
use Rattle.std.specs.Prelude.{Ok, Err}
use Rattle.std.proofs.lemmas.Result.{err_from_is_err_and}
use Rattle.sets.specs.Asks.{asks, marks_at}
use Rattle.meaning.specs.Rules.{failing}
use Rattle.sets.specs.Told.{told_by}
use Rattle.sets.specs.ListingFound.{ends_not_no, after_fits, or_ends, or_other}
use Rattle.sets.proofs.questions.failing.Goals as goal

pub returns-in_err-a : goal.returns-in_err-a
unfolding failing
returns-in_err-a c =
    let p = err_from_is_err_and c.from_residual.result c.from_residual.ensures.1 in
    rw p.1 (or_ends _ _ _ _ tt c.in_err-a.ensures)

pub returns-in_default : goal.returns-in_default
unfolding failing
returns-in_default c = or_ends _ _ _ _ (ends_not_no _ c.in_default.not-No) c.in_ok-a.ensures

pub overflow_sub-left : goal.overflow_sub-left
overflow_sub-left c = (told_by _ _ c.in_ok-a.ensures (ap Ok c.in-No.is)).fits

pub returns-in_err-b : goal.returns-in_err-b
unfolding failing asks marks_at
returns-in_err-b c =
    let p = err_from_is_err_and c.from_residual-in_err-b.result c.from_residual-in_err-b.ensures.1 in
    rw p.1
    (or_other _ _ _ _ (Err c.in_err-b.field-0.0) (told_by _ _ c.in_ok-a.ensures (ap Ok c.in-No.is)) c.in_err-b.ensures)

pub after-requires : goal.after-requires
after-requires c =
    let told = told_by _ _ c.in_ok-a.ensures (ap Ok c.in-No.is) in
    after_fits c.args.left c.in-No.used _ told.fits (omega (arith, c.ranges.left)) c.in_ok-b.ensures

pub returns : goal.returns
unfolding failing asks marks_at
returns c =
    ap Ok c.after.ensures
    ∙ or_other _ _ _ _ (Ok c.in_ok-b.b) (told_by _ _ c.in_ok-a.ensures (ap Ok c.in-No.is)) c.in_ok-b.ensures

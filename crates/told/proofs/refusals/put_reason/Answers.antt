-- `told::refusals::put_reason` meets its contract: by the number. Assumes nothing.
use Rattle.std.proofs.Common.{arith, sym, ◌≡◌}
use Rattle.std.proofs.lemmas.Grind.{common_steps}
use Rattle.problem.specs.Answers.{report_of}
use Rattle.text.specs.Ascii.{ascii}
use Rattle.text.specs.Pages.{puts_is, puts_both}
use Rattle.told.specs.Refusals.{reason_text}
use Rattle.told.proofs.refusals.put_reason.Goals as goal

pub returns-in-9 : goal.returns-in-9
unfolding reason_text
returns-in-9 c = rw c.in-9.is c.put_all.ensures

pub returns-in-10 : goal.returns-in-10
unfolding reason_text
returns-in-10 c =
    rw c.in-10.is
    (puts_both c.put_spent.ensures c.put_kept.ensures)

pub returns-in-11 : goal.returns-in-11
unfolding reason_text
returns-in-11 c =
    rw c.in-11.is
    (puts_both c.put_filled.ensures c.put_all-in-11.ensures)

pub returns-in-12 : goal.returns-in-12
unfolding reason_text
returns-in-12 c =
    rw c.in-12.is
    (puts_both c.put_filled-in-12.ensures c.put_kept-in-12.ensures)

pub returns-in_default : goal.returns-in_default
unfolding reason_text
returns-in_default c =
    let e : reason_text c.args.job (report_of c.args.r) c.args.budget c.args.space ≡ ascii "no refusal that this program knows\n" = grind (arith, common_steps) in
    puts_is (sym e) c.put_all-in_default.ensures

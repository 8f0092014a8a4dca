-- `check` reports what `read_problem` answers.
use mathlib.Core.Path.{◌∙◌}
use Rattle.meaning.specs.Calls.{refusal}
use Rattle.problem.specs.Refusals.{number_of}
use Rattle.problem.specs.Checks.{accepted_report, refused_report}
use Rattle.problem.proofs.check.Goals as goal

pub returns-in-Ok : goal.returns-in-Ok
returns-in-Ok c =
    let zeros = c.default.ensures in
    rw (zeros.0, zeros.1.0, zeros.1.1.0, zeros.1.1.1.0) (accepted_report c.args.file.now c.in-Ok.p c.in-Ok.ensures.0)

pub returns-in-Err : goal.returns-in-Err
unfolding refusal
returns-in-Err c =
    c.from.ensures ∙ refused_report c.args.file.now (number_of c.in-Err.r.rule) c.in-Err.r.place c.in-Err.ensures.0

-- `jobs::marks::marked` meets its contract. Assumes nothing.
use mathlib.Core.Path.{refl, ap, ◌∙◌}
use Rattle.std.proofs.lemmas.Fn.{gave_at}
use Rattle.problem.specs.declared.Report.{Report}
use Rattle.jobs.specs.Outcome.{outcome_of, report_refused}
use Rattle.jobs.specs.Calling.{call_accepted, call_refused}
use Rattle.jobs.proofs.marks.marked.Goals as goal

pub returns-in-Err : goal.returns-in-Err
returns-in-Err g c =
    λ job does. call_refused c.args.file.now job c.args.marks.now _ c.read_problem-read.ensures.0 _ _ c.in-Err.is c.from.ensures

pub returns-then-marks-problem : goal.returns-then-marks-problem
returns-then-marks-problem g c =
    λ job does.
    ap (λ (r : Report). outcome_of r c.args.marks.now) c.reported.ensures
    ∙ report_refused 9 0 0 0 c.args.marks.now
    ∙ (does (record { file = c.args.file; problem = c.in-Ok.problem; placed = c.in-Ok.ensures.1 })).0 c.if-marks-problem.true
    ∙ call_accepted c.args.file.now job c.args.marks.now _ c.read_problem-read.ensures.0 _ c.in-Ok.is

pub returns-else-marks-problem : goal.returns-else-marks-problem
returns-else-marks-problem g c =
    λ job does.
    c.leave.ensures
    ∙ (does _).1 c.if-marks-problem.false _ (gave_at g.F.FnOnce c.find.ensures refl)
    ∙ call_accepted c.args.file.now job c.args.marks.now _ c.read_problem-read.ensures.0 _ c.in-Ok.is

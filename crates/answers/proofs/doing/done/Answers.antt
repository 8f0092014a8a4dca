-- `answers::doing::done` goes by the job, as the definition does. Assumes nothing.
use mathlib.Core.Path.{sym}
use Rattle.problem.specs.Checks.{check_outcome}
use Rattle.answers.proofs.doing.done.Goals as goal

pub returns-in-Check : goal.returns-in-Check
returns-in-Check c =
    let a = c.args in
    rw c.in-Check.is (sym (check_outcome a.file.now c.check.result c.check.ensures a.budget a.lent.now))

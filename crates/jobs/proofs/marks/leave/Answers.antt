-- `jobs::marks::leave` meets its contract. Assumes nothing.
use Prim.Native.Nat.{ℕ}
use mathlib.Core.Path.{ap, ◌∙◌}
use Rattle.laws.specs.Basics.{true_of_not, false_of_not}
use Rattle.problem.specs.declared.Report.{Report}
use Rattle.jobs.specs.Outcome.{outcome_of, reported_as}
use Rattle.jobs.specs.Leaving.{leave_spent, leave_none, leave_some}
use Rattle.jobs.proofs.marks.leave.Goals as goal

pub returns-in_default : goal.returns-in_default
returns-in_default c =
    rw c.in_default.is
    (ap (λ (r : Report). outcome_of r c.args.marks.now) (c.reported.ensures ∙ ap (λ (n : ℕ). reported_as 10 0 n 0) c.from.ensures)
    ∙ leave_spent c.args.of.now.problem.k c.args.budget c.args.marks.now)

pub returns-then-not-x : goal.returns-then-not-x
returns-then-not-x c =
    rw c.in-Ok.is
    (ap (λ (r : Report). outcome_of r c.args.marks.now) c.reported-then-not-x.ensures
    ∙ leave_none c.args.of.now.problem.k c.args.budget c.args.marks.now c.in-Ok.x (false_of_not _ c.if-not-x.true))

pub returns : goal.returns
returns c =
    rw c.in-Ok.is
    (ap (λ (r : Report). outcome_of r c.write_row.new.row) c.reported-2.ensures
    ∙ leave_some c.args.of.now.problem.k c.args.budget c.args.marks.now c.in-Ok.x _ (true_of_not _ c.if-not-x.false) c.write_row.ensures)

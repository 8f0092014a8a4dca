-- `jobs::listing::list_placed` meets its contract: the call by how its largest set was judged. Assumes nothing.
use Prim.Native.Nat.{suc}
use native.Mathlib.Numerals.{add-one}
use mathlib.Core.Path.{ap, ◌∙◌}
use mathlib.Core.Bool.{false}
use Rattle.laws.specs.Feed.{finish}
use Rattle.problem.specs.declared.Report.{Report}
use Rattle.sets.specs.Asks.{marks_at}
use Rattle.sets.specs.SetLaws.{every_mark}
use Rattle.jobs.specs.Outcome.{outcome_of, report_refused}
use Rattle.jobs.specs.ListingCall.{report_finish, call_spent, call_unsafe, call_safe}
use Rattle.jobs.proofs.listing.list_placed.Goals as goal

pub returns-in_default : goal.returns-in_default
returns-in_default c =
    ap (λ (r : Report). outcome_of r c.args.rows.now) c.reported.ensures
    ∙ report_refused 10 0 c.args.budget 0 c.args.rows.now
    ∙ call_spent _ _ _ _ c.in_default.ensures

pub returns-then-not-top : goal.returns-then-not-top
returns-then-not-top c =
    ap (λ (r : Report). outcome_of r c.args.rows.now) c.reported-then-not-top.ensures
    ∙ report_refused 11 0 c.in-Ok.top.used 0 c.args.rows.now
    ∙ call_unsafe _ _ _ _ _ c.in-Ok.ensures c.if-not-top.true

pub returns : goal.returns
unfolding marks_at
returns c =
    ap (λ (r : Report). outcome_of r c.node-end.new.rows) c.finish.ensures
    ∙ report_finish c.args.budget c.node-end.new.rows c.node-end.result
    ∙ ap finish c.node-end.ensures.is
    ∙ call_safe _ _ _ _ _ c.in-Ok.ensures c.if-not-top.false _ _
    (add-one _ ∙ ap suc c.count-fuel.ensures.0)
    (every_mark _ _ false c.none.ensures c.args.of.now.placed.k_in)

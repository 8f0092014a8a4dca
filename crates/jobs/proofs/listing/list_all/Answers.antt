-- `jobs::listing::list_all` meets its contract: a file that is read, and the listing of its problem. Assumes nothing.
use mathlib.Core.Path.{◌∙◌}
use Rattle.meaning.specs.Calls.{list_call, list_job}
use Rattle.jobs.specs.Calling.{call_accepted, call_refused, list_job_at}
use Rattle.jobs.proofs.listing.list_all.Goals as goal

pub returns-in-Ok : goal.returns-in-Ok
unfolding list_call
returns-in-Ok c =
    let a = c.args in
    rw c.from.ensures at c.list_placed.ensures
    ∙ list_job_at a.file.now _ a.budget a.rows.now
    ∙ call_accepted a.file.now (list_job a.budget) a.rows.now _ c.read_problem-read.ensures.0 _ c.in-Ok.is

pub returns-in-Err : goal.returns-in-Err
unfolding list_call
returns-in-Err c =
    call_refused c.args.file.now (list_job c.args.budget) c.args.rows.now _ c.read_problem-read.ensures.0 _ _ c.in-Err.is c.from-in-Err.ensures

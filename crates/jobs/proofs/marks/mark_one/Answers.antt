-- `jobs::marks::mark_one` meets its contract: what it looks for does the job. Assumes nothing.
use mathlib.Core.Path.{◌∙◌}
use Rattle.meaning.specs.Calls.{one_call, one_job}
use borrow.Author.Rules.{rules}
use Rattle.sets.specs.Single.{SingleIs}
use Rattle.sets.specs.Asks.{asks_of}
use Rattle.jobs.specs.Leaving.{no_room, one_left}
use Rattle.jobs.specs.Calling.{one_job_at}
use Rattle.jobs.proofs.marks.mark_one.Goals as goal

pub returns : goal.returns
unfolding one_call
returns c =
    let a = c.args in
    c.marked.ensures (one_job a.budget)
    (λ of. (
      λ short. no_room of.problem.k _ _ _ _ short ∙ one_job_at of.file.now of.problem a.budget a.marks.now,
      λ room x found.
          let is : SingleIs (asks_of of) of.problem.k a.budget x = search rules in
          one_left (asks_of of) of.problem.k a.budget a.marks.now room x is ∙ one_job_at of.file.now of.problem a.budget a.marks.now,
    ))

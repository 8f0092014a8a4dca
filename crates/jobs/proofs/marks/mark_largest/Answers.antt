-- `jobs::marks::mark_largest` meets its contract: what it looks for does the job. Assumes nothing.
use mathlib.Core.Path.{◌∙◌}
use Rattle.meaning.specs.Calls.{largest_call, largest_job}
use borrow.Author.Rules.{rules}
use Rattle.meaning.specs.Rules.{largest}
use Rattle.sets.specs.Asks.{asks_of}
use Rattle.jobs.specs.Leaving.{WholeIs, no_room, largest_left}
use Rattle.jobs.specs.Calling.{largest_job_at}
use Rattle.jobs.proofs.marks.mark_largest.Goals as goal

pub returns : goal.returns
unfolding largest_call
returns c =
    let a = c.args in
    c.marked.ensures (largest_job a.budget)
    (λ of. (
      λ short. no_room of.problem.k _ _ _ _ short ∙ largest_job_at of.file.now of.problem a.budget a.marks.now,
      λ room x found.
          let is : WholeIs of.problem.k a.budget (largest (asks_of of) of.problem.k) x = search rules in
          largest_left (asks_of of) of.problem.k a.budget a.marks.now room x is ∙ largest_job_at of.file.now of.problem a.budget a.marks.now,
    ))

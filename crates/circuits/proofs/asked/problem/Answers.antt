use mathlib.Core.Path.{refl, ◌∙◌, ◌≡◌}
use borrow.Author.Rules.{rules}
use Rattle.jobs.specs.Outcome.{outcome_of}
use Rattle.meaning.specs.Circuits.{circuit_problem_call, problem_job}
use Rattle.circuits.specs.Handed.{handed_over, handed_asked}
use Rattle.circuits.proofs.asked.problem.Goals as goal

pub returns : goal.returns
unfolding circuit_problem_call
returns c =
    c.asked.ensures problem_job
    (λ out len w file before r after file_is lent_is gave.
    let gives : outcome_of r after.now ≡ handed_over file.now before.now = search rules in
    handed_asked _ _ _ _ _ w _ (gives ∙ rw (file_is, lent_is) refl))

use mathlib.Core.Path.{refl, ◌∙◌, ◌≡◌}
use borrow.Author.Rules.{rules}
use Rattle.jobs.specs.Outcome.{outcome_of}
use Rattle.meaning.specs.Calls.{largest_call, largest_job}
use Rattle.meaning.specs.Circuits.{circuit_largest_call}
use Rattle.circuits.specs.Asked.{largest_asked}
use Rattle.circuits.proofs.asked.mark_largest.Goals as goal

pub returns : goal.returns
unfolding circuit_largest_call
returns c =
    c.asked.ensures (largest_job c.args.budget)
    (λ out len w file before r after file_is lent_is gave.
    let gives : outcome_of r after.now ≡ largest_call file.now c.args.budget before.now = search rules in
    largest_asked _ _ _ _ w _ _ _ (gives ∙ rw (file_is, lent_is) refl))

use mathlib.Core.Path.{refl, ◌∙◌, ◌≡◌}
use borrow.Author.Rules.{rules}
use Rattle.jobs.specs.Outcome.{outcome_of}
use Rattle.meaning.specs.Calls.{one_call, one_job}
use Rattle.meaning.specs.Circuits.{circuit_one_call}
use Rattle.circuits.specs.Asked.{one_asked}
use Rattle.circuits.proofs.asked.mark_one.Goals as goal

pub returns : goal.returns
unfolding circuit_one_call
returns c =
    c.asked.ensures (one_job c.args.budget)
    (λ out len w file before r after file_is lent_is gave.
    let gives : outcome_of r after.now ≡ one_call file.now c.args.budget before.now = search rules in
    one_asked _ _ _ _ w _ _ _ (gives ∙ rw (file_is, lent_is) refl))

use mathlib.Core.Path.{refl, ◌∙◌, ◌≡◌}
use borrow.Author.Rules.{rules}
use Rattle.jobs.specs.Outcome.{outcome_of}
use Rattle.meaning.specs.Calls.{list_call, list_job}
use Rattle.meaning.specs.Circuits.{circuit_list_call}
use Rattle.circuits.specs.Asked.{list_asked}
use Rattle.circuits.proofs.asked.list_all.Goals as goal

pub returns : goal.returns
unfolding circuit_list_call
returns c =
    c.asked.ensures (list_job c.args.budget)
    (λ out len w file before r after file_is lent_is gave.
    let gives : outcome_of r after.now ≡ list_call file.now c.args.budget before.now = search rules in
    list_asked _ _ _ _ w _ _ _ (gives ∙ rw (file_is, lent_is) refl))

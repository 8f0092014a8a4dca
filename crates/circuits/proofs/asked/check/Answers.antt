use mathlib.Core.Path.{refl, ◌∙◌, ◌≡◌}
use mathlib.Core.List.{[]}
use borrow.Author.Rules.{rules}
use Rattle.std.proofs.Math.Path.{ap}
use Rattle.problem.specs.Answers.{report_of}
use Rattle.meaning.specs.Calls.{Outcome, checked, check_call}
use Rattle.meaning.specs.Circuits.{circuit_check_call}
use Rattle.circuits.specs.Asked.{check_does}
use Rattle.circuits.proofs.asked.check.Goals as goal

pub returns : goal.returns
unfolding circuit_check_call
returns c =
    ap (λ (o : Outcome). o.report)
    (c.asked.ensures checked
    (λ out len w file before r after file_is lent_is gave.
    let told : report_of r ≡ (check_call file.now 0 []).report = search rules in
    let stays : after.now ≡ before.now = search rules in
    check_does _ _ _ _ w _ _ _ (told ∙ rw file_is refl) (stays ∙ lent_is)))

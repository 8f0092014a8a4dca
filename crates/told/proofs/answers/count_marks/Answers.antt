-- `told::answers::count_marks` meets its contract: the chain counts the marks that are 1. Assumes nothing.
use Rattle.std.proofs.Common.{rules, ◌∙◌, ◌≡◌}
use Rattle.std.specs.Prelude.{count_by, ◌==◌}
use Rattle.told.specs.AnswerLaws.{counted}
use Rattle.told.proofs.answers.count_marks.Goals as goal

pub returns : goal.returns
returns c =
    let chain : c.count.result ≡ count_by (λ mark. mark == 1) c.args.marks.now = search rules in
    chain ∙ counted c.args.marks.now

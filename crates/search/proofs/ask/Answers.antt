-- `ask` meets its contract: the search of the question's clauses from the setting in which all is unset.
use mathlib.Core.Path.{ap, ◌∙◌}
use Rattle.meaning.specs.Search.{Setting}
use Rattle.meaning.specs.Rules.{answer}
use Rattle.search.specs.Forms.{marks_at, question_of, bounded}
use Rattle.search.specs.Places.{parts_clauses}
use Rattle.search.specs.Engine.{search_at}
use Rattle.search.proofs.QuestionLaws.{asked_here}
use Rattle.search.proofs.ask.Goals as goal

pub returns : goal.returns
returns c =
    let cs = parts_clauses c.args.of.now.file.now c.args.s.on c.parts_of.result in
    c.decide.ensures ∙
    ap (λ (v : Setting). bounded c.args.left (answer (search_at cs v))) c.none_set.ensures ∙
    ap (bounded c.args.left)
    (asked_here c.args.of.now.file.now c.args.of.now.problem c.args.of.now.placed (marks_at c.args.of.now.problem.k c.args.s) (question_of c.args.q) cs
    (c.parts_of.ensures.same c.args.s.on))

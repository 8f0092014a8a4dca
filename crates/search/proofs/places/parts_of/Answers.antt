-- `parts_of` meets its contract: the parts of each of the three questions.
use mathlib.Core.Path.{subst}
use Rattle.search.specs.Forms.{Among}
use Rattle.search.proofs.QuestionLaws.{initiation_parts, step_parts, safety_parts}
use Rattle.search.proofs.places.parts_of.Goals as goal

pub lemma_at-requires : goal.lemma_at-requires
lemma_at-requires c = subst (Among c.args.of.now.problem.k) c.in-Initiation.is c.requires

pub lemma_at-requires-in-Step : goal.lemma_at-requires-in-Step
lemma_at-requires-in-Step c = subst (Among c.args.of.now.problem.k) c.in-Step.is c.requires

pub returns-in-Initiation : goal.returns-in-Initiation
returns-in-Initiation c = rw c.in-Initiation.is (initiation_parts c.args.of.now.file.now c.args.of.now.problem c.args.of.now.placed c.in-Initiation.d _ c.lemma_at.ensures)

pub returns-in-Step : goal.returns-in-Step
returns-in-Step c = rw c.in-Step.is (step_parts c.args.of.now.file.now c.args.of.now.problem c.args.of.now.placed c.in-Step.d _ c.lemma_at-in-Step.ensures)

pub returns-in-Safety : goal.returns-in-Safety
returns-in-Safety c = rw c.in-Safety.is (safety_parts c.args.of.now.file.now c.args.of.now.problem c.args.of.now.placed)

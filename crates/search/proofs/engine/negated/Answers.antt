-- `negated` meets its contract.
use Rattle.meaning.specs.Clauses.{negation}
use Rattle.search.proofs.engine.negated.Goals as goal

pub returns-in-Pos : goal.returns-in-Pos
unfolding negation
returns-in-Pos c = rw c.in-Pos.is

pub returns-in-Neg : goal.returns-in-Neg
unfolding negation
returns-in-Neg c = rw c.in-Neg.is

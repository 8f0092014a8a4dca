-- `denial` meets its contract.
use native.Mathlib.Omega.{arith}
use Rattle.meaning.specs.Clauses.{variable, negation}
use Rattle.meaning.specs.Rules.{next}
use Rattle.passes.proofs.clauses.denial.Goals as goal

pub overflow_add-result : goal.overflow_add-result
unfolding variable
overflow_add-result c = let h = rw c.in-Pos.is at c.requires in record { fits = omega (arith, h) }

pub overflow_add-result-in-Neg : goal.overflow_add-result-in-Neg
unfolding variable
overflow_add-result-in-Neg c = let h = rw c.in-Neg.is at c.requires in record { fits = omega (arith, h) }

pub returns-in-Pos : goal.returns-in-Pos
unfolding negation next
returns-in-Pos c = rw c.in-Pos.is

pub returns-in-Neg : goal.returns-in-Neg
unfolding negation next
returns-in-Neg c = rw c.in-Neg.is

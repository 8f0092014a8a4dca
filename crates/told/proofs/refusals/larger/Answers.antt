-- `told::refusals::larger` meets its contract: none, or the smaller of ten times as large and the largest. Assumes nothing.
use borrow.Author.Tests.{eq-eqb, ne_eqb}
use Rattle.told.specs.Refusals.{larger}
use Rattle.told.proofs.refusals.larger.Goals as goal

pub returns-then-budget-eq0 : goal.returns-then-budget-eq0
unfolding larger
returns-then-budget-eq0 c = rw (eq-eqb c.args.budget 0 c.if-budget-eq0.true)

pub returns : goal.returns
unfolding larger
returns c = rw (ne_eqb c.args.budget 0 c.if-budget-eq0.false) c.min.ensures

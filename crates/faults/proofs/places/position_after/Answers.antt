-- `faults::places::position_after` meets its contract: the same kind, or another. Assumes nothing.
use native.Mathlib.Omega.{arith}
use mathlib.Core.Path.{sym, ◌∙◌}
use borrow.Author.Tests.{eq-eqb, ne_eqb}
use Rattle.faults.specs.Places.{kind_there}
use Rattle.faults.proofs.places.position_after.Goals as goal

pub returns-then-word_on : goal.returns-then-word_on
unfolding kind_there
returns-then-word_on c = (rw (eq-eqb _ _ (sym c.word_on.ensures.0 ∙ c.if-word_on.true ∙ c.word_on-2.ensures.0)), omega arith)

pub returns : goal.returns
unfolding kind_there
returns c = (rw (ne_eqb _ _ (λ e. c.if-word_on.false (c.word_on.ensures.0 ∙ e ∙ sym c.word_on-2.ensures.0))), omega arith)

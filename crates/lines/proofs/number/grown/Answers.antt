-- `lines::number::grown` meets its contract, by the definition's test. Assumes nothing.
use borrow.Author.Tests.{le-leb, lt-leb}
use Rattle.lines.specs.Digits.{grown}
use Rattle.lines.proofs.number.grown.Goals as goal

pub returns-then-value : goal.returns-then-value
unfolding grown
returns-then-value c = rw (le-leb _ _ c.if-value.true)

pub returns : goal.returns
unfolding grown
returns c = rw (lt-leb _ _ c.if-value.false)

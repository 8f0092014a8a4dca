-- `faults::wrong::variable_of` meets its contract: by the sign. Assumes nothing.
use borrow.Author.Tests.{lt-ltb, le-ltb}
use Rattle.meaning.specs.Clauses.{variable}
use Rattle.meaning.specs.File.{signed}
use Rattle.faults.proofs.wrong.variable_of.Goals as goal

pub returns-then-u-lt32768 : goal.returns-then-u-lt32768
unfolding variable signed
returns-then-u-lt32768 c = rw (lt-ltb c.args.u 32768 c.if-u-lt32768.true)

pub returns : goal.returns
unfolding variable signed
returns c = rw (le-ltb c.args.u 32768 c.if-u-lt32768.false)

-- `told::refusals::put_head` meets its contract: with the place, or without. Assumes nothing.
use borrow.Author.Tests.{lt-ltb, le-ltb}
use Rattle.told.specs.Refusals.{head_text}
use Rattle.told.proofs.refusals.put_head.Goals as goal

pub returns-then-number-lt9 : goal.returns-then-number-lt9
unfolding head_text
returns-then-number-lt9 c =
    rw (lt-ltb c.args.number 9 c.if-number-lt9.true)
    c.put_filled.ensures

pub returns : goal.returns
unfolding head_text
returns c =
    rw (le-ltb c.args.number 9 c.if-number-lt9.false)
    c.put_filled-2.ensures

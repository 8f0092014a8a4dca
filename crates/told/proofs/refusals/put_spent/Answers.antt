-- `told::refusals::put_spent` meets its contract: there is a larger budget, or not. Assumes nothing.
use borrow.Author.Tests.{lt-ltb, le-ltb}
use Rattle.told.specs.Refusals.{spent_text}
use Rattle.told.proofs.refusals.put_spent.Goals as goal

pub returns-then-budget-lt4294967295 : goal.returns-then-budget-lt4294967295
unfolding spent_text
returns-then-budget-lt4294967295 c =
    let a = c.args in
    let n = c.larger.ensures in
    rw (lt-ltb a.budget 4294967295 c.if-budget-lt4294967295.true, ← n) c.put_filled.ensures

pub returns : goal.returns
unfolding spent_text
returns c =
    let a = c.args in
    rw (le-ltb a.budget 4294967295 c.if-budget-lt4294967295.false) c.put_filled-2.ensures

-- `told::refusals::put_where` meets its contract: nothing, or the clause around the place. Assumes nothing.
use borrow.Author.Tests.{eq-eqb, ne_eqb}
use Rattle.told.specs.Refusals.{where_text}
use Rattle.told.proofs.refusals.put_where.Goals as goal

pub returns-then-number-ne6 : goal.returns-then-number-ne6
unfolding where_text
returns-then-number-ne6 c =
    let a = c.args in
    rw (ne_eqb a.number 6 c.if-number-ne6.true) c.put_all.ensures

pub returns : goal.returns
unfolding where_text
returns c =
    let a = c.args in
    let s = c.around-s.ensures in
    rw (eq-eqb a.number 6 c.if-number-ne6.false, ← s) c.put_clause_place.ensures

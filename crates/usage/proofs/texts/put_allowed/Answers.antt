-- `usage::texts::put_allowed` goes by how many words are named. Assumes nothing.
use borrow.Author.Tests.{eq-eqb, ne_eqb}
use Rattle.usage.specs.Texts.{allowed}
use Rattle.usage.proofs.texts.put_allowed.Goals as goal

pub returns-then-named-eq1 : goal.returns-then-named-eq1
unfolding allowed
returns-then-named-eq1 c = rw (eq-eqb _ 1 c.if-named-eq1.true) c.put_all.ensures

pub returns : goal.returns
unfolding allowed
returns c = rw (ne_eqb _ 1 c.if-named-eq1.false) c.put_all-2.ensures

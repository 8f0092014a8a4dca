use mathlib.Core.Path.{sym}
use Rattle.sections.specs.Reading.{own_count}
use Rattle.sections.proofs.read.own_count.Goals as goal

pub returns-then-defines : goal.returns-then-defines
unfolding own_count
returns-then-defines c = sym (rw c.if-defines.true)

pub returns-else-defines : goal.returns-else-defines
unfolding own_count
returns-else-defines c = sym (rw c.if-defines.false)

-- `spelling::number::read_number` meets its contract: no number, or its value. Assumes nothing.
use mathlib.Core.Path.{sym, ◌∙◌}
use Rattle.spelling.specs.Numbers.{number_of}
use Rattle.spelling.proofs.number.read_number.Goals as goal

pub returns-then-not-is_number : goal.returns-then-not-is_number
unfolding number_of
returns-then-not-is_number c = rw (sym c.is_number.ensures ∙ c.if-not-is_number.true)

pub returns : goal.returns
unfolding number_of
returns c = rw (sym c.is_number.ensures ∙ c.if-not-is_number.false) c.up_to.ensures

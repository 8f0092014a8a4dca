-- `lines::number::no_number` meets its contract: no digits are digits, and they write 0. Assumes nothing.
use mathlib.Core.Path.{refl}
use Rattle.meaning.specs.Clauses.{all}
use Rattle.meaning.specs.Lines.{decimal, decimal_on}
use Rattle.lines.specs.Digits.{capped}
use Rattle.lines.proofs.number.no_number.Goals as goal

pub invariant_of-result : goal.invariant_of-result
unfolding all decimal decimal_on capped
invariant_of-result c = record { digital = refl; valued = refl }

-- `lines::compare::is_sum` meets its contract: by the order of the sum and the other number. Assumes nothing.
use mathlib.Core.Path.{◌∙◌}
use Rattle.lines.specs.Literals.{nothing_worth, sum_order}
use Rattle.lines.proofs.compare.is_sum.Goals as goal

pub returns : goal.returns
returns c =
    let none = nothing_worth _ c.no_number-none.ensures in
    c.is_eq.ensures ∙ sum_order _ _ _ _ _ _ none none c.compare.ensures

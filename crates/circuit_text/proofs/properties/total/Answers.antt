use Rattle.lines.specs.Numbers.{value_is}
use mathlib.Core.Path.{refl, sym}
use native.Mathlib.Omega.{arith}
use Rattle.sections.specs.Lists.{first_number_is}
use Rattle.uses.specs.Passing.{passing_start, passing_row, passing_next}
use Rattle.circuit_text.specs.Sums.{counted_none, counted_more, counted_all, at_most_huge}
use Rattle.circuit_text.proofs.properties.total.Goals as goal

pub loop-init : goal.loop-init
loop-init c = (counted_none _ _, passing_start _ _ _ _ _ c.requires.inside c.requires.rows)

pub sum-all-requires-clause-a_le_huge : goal.sum-all-requires-clause-a_le_huge
sum-all-requires-clause-a_le_huge c =
    at_most_huge _ _ c.loop.invariant.0

pub sum-all-requires-clause-b_le_huge : goal.sum-all-requires-clause-b_le_huge
sum-all-requires-clause-b_le_huge c =
    at_most_huge _ _ (value_is c.number_at-x.result)

pub loop-preserved : goal.loop-preserved
loop-preserved c =
    let h = c.loop.invariant in
    let y = c.number_at-x.ensures in
    let row = passing_row _ _ _ _ _ h.1 (omega arith) in (
      counted_more _ _ _ _ _ _ _ _ h.1.place (sym (first_number_is _ _ c.number_at-x.result y.digits row.numbers)) (value_is c.number_at-x.result) h.0 c.sum-all.ensures,
      passing_next _ _ _ _ _ h.1 (omega arith) refl _ c.next_line-p.ensures.0,
    )

pub returns : goal.returns
returns c = let h = c.loop.invariant in counted_all _ _ _ _ _ h.1.low (omega arith) h.0

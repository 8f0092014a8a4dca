use Rattle.circuit_text.specs.Sums.{sum_huge, sum_small}
use Rattle.circuit_text.proofs.properties.sum.Goals as goal

pub returns-then-a-b : goal.returns-then-a-b
returns-then-a-b c = sum_huge _ _ c.requires.a_le_huge c.if-a-b.true

pub returns : goal.returns
returns c = sum_small _ _ c.requires.a_le_huge c.if-a-b.false

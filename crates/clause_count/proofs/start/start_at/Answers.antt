-- `clause_count::start::start_at` meets its contract: a line of two numbers exactly lacks the third. Assumes nothing.
use native.Mathlib.Omega.{arith}
use Rattle.clause_count.specs.Start.{third_lacks, third_stands, start_at_0, start_at_1, start_free, start_in}
use Rattle.clause_count.proofs.start.start_at.Goals as goal

pub returns-then-is_some : goal.returns-then-is_some
returns-then-is_some c = third_lacks _ _ c.requires _ c.line_past.ensures.0 _ c.is_some.ensures c.if-is_some.true

pub value_at-requires : goal.value_at-requires
value_at-requires c = third_stands _ _ c.requires _ c.line_past.ensures.0 _ c.is_some.ensures c.if-is_some.false

pub returns-in-0 : goal.returns-in-0
unfolding start_in
returns-in-0 c = start_at_0 _ _ c.value_at.ensures c.in-0.is

pub returns-in-1 : goal.returns-in-1
unfolding start_in
returns-in-1 c = start_at_1 _ _ c.value_at.ensures c.in-1.is

pub returns-in_default : goal.returns-in_default
unfolding start_in
returns-in_default c = start_free _ _ c.value_at.ensures (λ e. omega (arith, e)) (λ e. omega (arith, e))

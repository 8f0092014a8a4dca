-- `past` is what the definition knows after a record.
use mathlib.Core.Path.{◌∙◌}
use native.Mathlib.Omega.{arith}
use borrow.Author.Tests.{eq-eqb, ne_eqb}
use Rattle.problem.specs.Steps.{headed_small, ends_inside, counts_inside, past_here}
use Rattle.problem.proofs.rules.past.Goals as goal

pub of-requires : goal.of-requires
of-requires c = headed_small c.requires.headed

pub overflow_add-next : goal.overflow_add-next
overflow_add-next c = omega (arith, ends_inside c.requires.headed)

pub two_at-requires : goal.two_at-requires
two_at-requires c = omega (arith, counts_inside c.requires.headed c.if-kind-eq1.true)

pub two_at-requires-then-kind-eq1 : goal.two_at-requires-then-kind-eq1
two_at-requires-then-kind-eq1 c = omega (arith, counts_inside c.requires.headed c.if-kind-eq1.true)

pub returns-then-kind-eq1 : goal.returns-then-kind-eq1
returns-then-kind-eq1 c =
    let one = eq-eqb _ 1 c.if-kind-eq1.true in
    past_here c.requires.headed c.of.ensures c.same_kind.ensures c.one_if_clause.ensures.0
    (c.two_at.ensures.0 ∙ rw one)
    (c.two_at-then-kind-eq1.ensures.0 ∙ rw one)

pub returns : goal.returns
returns c =
    let other = ne_eqb _ 1 c.if-kind-eq1.false in
    past_here c.requires.headed c.of.ensures c.same_kind.ensures c.one_if_clause.ensures.0
    (rw other)
    (rw other)

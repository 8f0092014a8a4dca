-- `lines::literal::same_variable` meets its contract: by the values where they fit a word. Assumes nothing.
use mathlib.Core.Path.{sym, ◌∙◌}
use Rattle.lines.specs.Literals.{huge_some, same_quick, same_not, same_sym}
use Rattle.lines.proofs.literal.same_variable.Goals as goal

pub returns-in-true-true : goal.returns-in-true-true
returns-in-true-true c =
    same_quick _ _ c.in-true-true.is-0 c.in-true-true.is-1

pub same_far-requires-clause-a_has_digits : goal.same_far-requires-clause-a_has_digits
same_far-requires-clause-a_has_digits c = huge_some c.args.a.now c.in-false-false.is-0

pub same_far-requires-clause-b_has_digits : goal.same_far-requires-clause-b_has_digits
same_far-requires-clause-b_has_digits c = huge_some c.args.b.now c.in-false-false.is-1

pub returns-in-true-false : goal.returns-in-true-false
returns-in-true-false c = sym (same_not _ _ c.in-true-false.is-0 c.in-true-false.is-1)

pub returns-in-false-true : goal.returns-in-false-true
returns-in-false-true c = sym (same_sym _ _ ∙ same_not _ _ c.in-false-true.is-1 c.in-false-true.is-0)

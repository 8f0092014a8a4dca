use Rattle.meaning.specs.CircuitText.{first_unknown}
use mathlib.Core.Path.{sym, ◌∙◌}
use native.Mathlib.Omega.{arith}
use Rattle.sections.specs.Whole.{lines_of}
use Rattle.uses.specs.Passing.{known_number, passing_start, passing_wrong, passing_next, passing_end, known_here}
use Rattle.uses.proofs.first.first_unknown.Goals as goal

pub loop-init : goal.loop-init
loop-init c =
    passing_start _ _ _ _ _ c.requires.rows_at.inside c.requires.rows_at.rows

pub returns-then-not-is_known : goal.returns-then-not-is_known
unfolding lines_of first_unknown known_number
returns-then-not-is_known c =
    passing_wrong _ _ _ _ _ c.loop.invariant (omega arith)
    (sym (known_here _ _ _ _ _ _ c.nth-x.ensures.0 c.is_known.ensures) ∙ c.if-not-is_known.true)

pub loop-preserved : goal.loop-preserved
loop-preserved c =
    passing_next _ _ _ _ _ c.loop.invariant (omega arith)
    (sym (known_here _ _ _ _ _ _ c.nth-x.ensures.0 c.is_known.ensures) ∙ c.if-not-is_known.false) _ c.next_line-p.ensures.0

pub returns : goal.returns
unfolding lines_of first_unknown known_number
returns c =
    passing_end _ _ _ _ _ c.loop.invariant (omega arith)

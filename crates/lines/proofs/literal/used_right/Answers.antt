-- `lines::literal::used_right` meets its contract: by the values where they fit a word, else digit by digit. Assumes nothing.
use mathlib.Core.Path.{◌∙◌}
use native.Mathlib.Omega.{arith}
use Rattle.lines.specs.Literals.{nothing_worth, used_quick, used_far}
use Rattle.lines.proofs.literal.used_right.Goals as goal

pub returns-then-l-lt-HUGE : goal.returns-then-l-lt-HUGE
returns-then-l-lt-HUGE c = used_quick _ _ (omega arith)

pub returns : goal.returns
returns c = c.is_ge.ensures ∙ used_far _ _ _ _ (nothing_worth _ c.no_number.ensures) c.compare.ensures

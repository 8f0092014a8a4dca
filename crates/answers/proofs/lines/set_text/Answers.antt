use mathlib.Core.Path.{sym, ◌∙◌}
use Rattle.text.specs.PageLaws.{holds_none}
use Rattle.answers.specs.Lines.{set_text}
use Rattle.answers.proofs.lines.set_text.Goals as goal

pub returns-then-not-is_list : goal.returns-then-not-is_list
unfolding set_text
returns-then-not-is_list c = rw (c.if-marks.false, sym c.is_list.ensures ∙ c.if-not-is_list.true) (holds_none _)

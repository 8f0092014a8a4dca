use borrow.Author.Tests.{eq-eqb}
use Rattle.text.specs.PageLaws.{holds_none}
use Rattle.answers.specs.Lines.{error_text}
use Rattle.answers.proofs.lines.error_text.Goals as goal

pub returns-then-r-eq0 : goal.returns-then-r-eq0
unfolding error_text
returns-then-r-eq0 c = rw (eq-eqb _ 0 c.if-r-eq0.true) (holds_none _)

-- `symbols::line::begins_comment` meets its contract. Assumes nothing.
use mathlib.Core.Path.{◌∙◌}
use borrow.Author.Tests.{ne_eqb}
use Rattle.symbols.specs.Form.{no_comment, comment_is}
use Rattle.symbols.proofs.line.Line.begins_comment.Goals as goal

pub returns-then-self : goal.returns-then-self
returns-then-self c = comment_is _ _ _ c.args.self.now.line_to c.args.self.now.closed c.if-self.true

pub returns-else-self : goal.returns-else-self
returns-else-self c = ne_eqb _ _ c.if-self.false ∙ no_comment _ _ _ c.args.self.now.line_to c.args.self.now.closed c.if-self.false

-- `symbols::symbol::Position::is_named` meets its contract. Assumes nothing.
use mathlib.Core.Path.{◌∙◌}
use borrow.Author.Tests.{ne_eqb}
use Rattle.symbols.specs.Before.{compared, other_letter}
use Rattle.symbols.proofs.symbol.Position.is_named.Goals as goal

pub returns-then-self-text : goal.returns-then-self-text
returns-then-self-text c = compared _ _ _ _ _ c.position_at.ensures _ c.eq.ensures

pub returns-else-self-text : goal.returns-else-self-text
returns-else-self-text c =
    ne_eqb _ _ c.if-self-text.false ∙ other_letter _ _ c.requires.named _ c.args.self.place c.if-self-text.false

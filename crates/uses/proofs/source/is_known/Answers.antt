use mathlib.Core.Path.{ap, ◌∙◌}
use Rattle.std.specs.Prelude.{is_some}
use Rattle.uses.specs.Sources.{source_known}
use Rattle.uses.proofs.source.is_known.Goals as goal

pub returns : goal.returns
returns c = c.is_some.ensures ∙ ap is_some c.source.ensures.0 ∙ source_known _ _

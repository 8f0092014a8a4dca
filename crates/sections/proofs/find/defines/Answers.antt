use mathlib.Core.Path.{ap, ◌∙◌}
use Rattle.std.specs.Prelude.{is_some}
use Rattle.sections.specs.Lists.{found_among}
use Rattle.sections.proofs.find.defines.Goals as goal

pub returns : goal.returns
returns c = c.is_some.ensures ∙ ap is_some c.find.ensures.0 ∙ found_among _ _

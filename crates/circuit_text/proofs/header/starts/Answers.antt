use mathlib.Core.Path.{◌∙◌}
use Rattle.circuit_text.specs.Header.{starts_is}
use Rattle.circuit_text.proofs.header.starts.Goals as goal

pub returns : goal.returns
returns c = c.starts_with.ensures.value ∙ starts_is _

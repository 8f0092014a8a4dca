use mathlib.Core.Path.{ap, ◌∙◌}
use Rattle.lines.specs.Numbers.{capped, worth}
use Rattle.clause_count.proofs.start.value_at.Goals as goal

pub returns : goal.returns
unfolding worth
returns c = c.nth.result.valued ∙ ap capped c.nth.ensures.0

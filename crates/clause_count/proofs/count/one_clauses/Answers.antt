-- `clause_count::count::one_clauses` meets its contract. Assumes nothing.
use native.Mathlib.Omega.{arith}
use mathlib.Core.Path.{◌∙◌}
use Rattle.clause_count.specs.Lengths.{one_counted}
use Rattle.clause_count.proofs.count.one_clauses.Goals as goal

pub returns : goal.returns
returns c = (c.unless.ensures.0 ∙ one_counted _ _ c.value_at-l.ensures, omega arith)

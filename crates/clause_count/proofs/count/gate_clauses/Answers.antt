-- `clause_count::count::gate_clauses` meets its contract. Assumes nothing.
use native.Mathlib.Omega.{arith}
use Rattle.meaning.specs.CircuitText.{numbers_at}
use Rattle.clause_count.specs.Lengths.{gate_counted}
use Rattle.clause_count.proofs.count.gate_clauses.Goals as goal

pub returns : goal.returns
returns c = (omega (arith, gate_counted (numbers_at c.args.text.now c.args.line) _ _ _ c.value_at-g.ensures c.value_at-a.ensures c.value_at-b.ensures), omega arith)

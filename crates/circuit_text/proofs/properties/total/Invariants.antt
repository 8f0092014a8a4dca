use mathlib.Core.Path.{◌≡◌}
use mathlib.Core.Bool.{true}
use Rattle.lines.specs.Numbers.{capped}
use Rattle.uses.specs.Passing.{Passing}
use Rattle.circuit_text.specs.Sums.{counted}
use Rattle.circuit_text.proofs.properties.total.Given as goal

abbrev pub invariant-loop : goal.invariant-loop
invariant-loop l = (l.all ≡ capped (counted l.text l.fn.counts.at l.counter)) × Passing (λ l. true) l.text 1 l.fn.counts.at l.fn.counts.count l.p l.counter

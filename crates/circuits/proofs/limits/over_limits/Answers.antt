use native.Mathlib.Omega.{arith}
use Rattle.std.proofs.lemmas.Grind.{common_steps}
use Rattle.std.proofs.lemmas.Bool.Decides.{nat_tests}
use Rattle.circuits.specs.Limits.{over_counts}
use Rattle.circuits.proofs.limits.over_limits.Goals as goal

pub returns-then-x-gt128 : goal.returns-then-x-gt128
unfolding over_counts
returns-then-x-gt128 c = grind (arith, nat_tests, common_steps)

pub returns-else-x-gt128 : goal.returns-else-x-gt128
unfolding over_counts
returns-else-x-gt128 c = grind (arith, nat_tests, common_steps)

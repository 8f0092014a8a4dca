use native.Mathlib.Omega.{arith}
use Rattle.std.proofs.lemmas.Grind.{common_steps}
use Rattle.std.proofs.lemmas.Bool.Decides.{nat_tests}
use Rattle.circuits.specs.Limits.{liveness}
use Rattle.circuits.proofs.reading.has_liveness.Goals as goal

pub returns-then-p-gt0 : goal.returns-then-p-gt0
unfolding liveness
returns-then-p-gt0 c = grind (arith, nat_tests, common_steps)

pub returns-else-p-gt0 : goal.returns-else-p-gt0
unfolding liveness
returns-else-p-gt0 c = grind (arith, nat_tests, common_steps)

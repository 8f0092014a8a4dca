-- `spelling::number::up_to` meets its contract: the value so far, and the digits from the index on. Assumes nothing.
use Prim.Native.Nat.{◌≤◌}
use mathlib.Core.Path.{◌≡◌}
use lib.ListN.{drop}
use Rattle.spelling.specs.Numbers.{value, value_after}
use Rattle.spelling.proofs.number.up_to.Given as goal

abbrev pub invariant-loop-b : goal.invariant-loop-b
invariant-loop-b l = (l.v ≤ l.most) × (value l.word ≡ value_after l.v (drop l.b-index l.word))

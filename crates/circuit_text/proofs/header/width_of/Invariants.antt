use Prim.Native.Nat.{◌≤◌}
use Rattle.circuit_text.specs.Header.{Tried}
use Rattle.circuit_text.proofs.header.width_of.Given as goal

abbrev pub invariant-loop-width : goal.invariant-loop-width
invariant-loop-width l = (5 ≤ l.width) × Tried l.text l.width

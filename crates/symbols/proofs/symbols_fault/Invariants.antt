-- `symbols::symbols_fault` meets its contract. The loop's invariant: no line so far is at fault, and what is left decides. Assumes nothing.
use Prim.Native.Nat.{◌-◌}
use lib.ListN.{length}
use Rattle.symbols.specs.Read.{Read}
use Rattle.symbols.proofs.symbols_fault.Given as goal

abbrev pub invariant-loop-p : goal.invariant-loop-p
invariant-loop-p l = Read l.text l.counts l.judged l.at l.p

abbrev pub decreases-loop-p : goal.decreases-loop-p
decreases-loop-p l = length l.text - l.p

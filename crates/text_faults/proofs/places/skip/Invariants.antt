-- `text_faults::places::skip` meets its contract. The loop's invariant: what is left to skip from here leads where all does. Assumes nothing.
use Prim.Native.Nat.{◌-◌, ◌≤◌}
use mathlib.Core.Path.{◌≡◌}
use lib.ListN.{length}
use Rattle.text_faults.specs.Places.{skip}
use Rattle.text_faults.proofs.places.skip.Given as goal

abbrev pub invariant-loop-done : goal.invariant-loop-done
invariant-loop-done l = (skip l.count l.text l.at ≡ skip (l.count - l.done) l.text l.p) × (l.p ≤ length l.text)

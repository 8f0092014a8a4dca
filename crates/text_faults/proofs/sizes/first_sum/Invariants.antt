-- `text_faults::sizes::first_sum` meets its contract. The loop's invariant: the sum so far, and what the lines that are left add, are all together what is asked. Assumes nothing.
use Prim.Native.Nat.{◌+◌, ◌-◌, ◌≤◌}
use mathlib.Core.Path.{◌≡◌}
use lib.ListN.{length}
use Rattle.lines.specs.Numbers.{huge, capped}
use Rattle.text_faults.specs.Sizes.{first_sum}
use Rattle.text_faults.proofs.sizes.first_sum.Given as goal

abbrev pub invariant-loop-done : goal.invariant-loop-done
invariant-loop-done l =
    (capped (l.sum + first_sum (l.count - l.done) l.text l.p) ≡ capped (first_sum l.count l.text l.at)) × (l.p ≤ length l.text) × (l.sum ≤ huge)

use Prim.Native.Nat.{◌≤◌}
use mathlib.Core.Path.{◌≡◌}
use mathlib.Core.Bool.{true}
use lib.ListN.{length}
use Rattle.meaning.specs.Lines.{ended, next_line}
use Rattle.lines.proofs.line.next_line.Given as goal

abbrev pub invariant-loop-p : goal.invariant-loop-p
invariant-loop-p l = (next_line l.text l.at ≡ next_line l.text l.p) × (ended l.text l.p ≡ true) × (l.p ≤ length l.text) × (l.at ≤ l.p)

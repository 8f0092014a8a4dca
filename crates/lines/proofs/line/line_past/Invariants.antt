use Prim.Native.Nat.{suc, ◌-◌, ◌≤◌}
use mathlib.Core.Path.{◌≡◌}
use lib.ListN.{length}
use Rattle.lines.specs.Past.{line_past}
use Rattle.lines.proofs.line.line_past.Given as goal

abbrev pub invariant-loop : goal.invariant-loop
invariant-loop l = (line_past l.width l.text l.at ≡ line_past (suc (l.width - l.counter)) l.text l.p) × (l.p ≤ length l.text) × (l.counter ≤ l.width)

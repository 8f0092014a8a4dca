-- `symbols::line::line_end` meets its contract. The loop's invariant: the line from here on ends where the line does. Assumes nothing.
use Prim.Native.Nat.{◌≤◌}
use mathlib.Core.Path.{◌≡◌}
use lib.ListN.{length}
use Rattle.meaning.specs.Lines.{next_line}
use Rattle.symbols.proofs.line.line_end.Given as goal

abbrev pub invariant-loop-p : goal.invariant-loop-p
invariant-loop-p l = (next_line l.text l.at ≡ next_line l.text l.p) × (l.p ≤ length l.text)

-- `lemma_text::line::line_at` meets its contract. The loop's invariant: what the line says is what its rest says, after so many literals.
-- The measure is what is left of the text. Assumes nothing.
use Prim.Native.Nat.{◌-◌, ◌≤◌}
use mathlib.Core.Path.{◌≡◌}
use lib.ListN.{length}
use Rattle.lemma_text.specs.Line.{line_from}
use Rattle.lemma_text.proofs.line.line_at.Given as goal

abbrev pub invariant-loop-x : goal.invariant-loop-x
invariant-loop-x l = (line_from l.latches l.text 0 l.at ≡ line_from l.latches l.text l.count l.p) × (l.p ≤ length l.text) × (l.count ≤ l.p)

abbrev pub decreases-loop-x : goal.decreases-loop-x
decreases-loop-x l = length l.text - l.p

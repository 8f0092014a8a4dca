-- `lemma_text::literals::put_literals` meets its contract. The loop's invariant: the rest of the line is a lemma, and its literals are what is
-- left to write. The measure is what is left of the text. Assumes nothing.
use Prim.Native.Nat.{◌-◌, ◌≤◌}
use lib.ListN.{length}
use Rattle.lemma_text.specs.Written.{Writable, lemma_bytes}
use Rattle.records.specs.Puts.{Left}
use Rattle.lemma_text.proofs.literals.put_literals.Given as goal

abbrev pub invariant-loop-x : goal.invariant-loop-x
invariant-loop-x l = Writable l.text l.p × (l.p ≤ length l.text) × Left (lemma_bytes l.text l.from) l.initial.out (lemma_bytes l.text l.p) l.out

abbrev pub decreases-loop-x : goal.decreases-loop-x
decreases-loop-x l = length l.text - l.p

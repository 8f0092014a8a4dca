-- `text_faults::lemmas::words_cause` meets its contract. The loop's invariant: what is wrong from here on is what is wrong. Assumes nothing.
use Prim.Native.Nat.{◌+◌, ◌-◌, ◌≤◌}
use mathlib.Core.Path.{◌≡◌}
use mathlib.Core.Bool.{true}
use lib.ListN.{length}
use Rattle.meaning.specs.Lines.{line_at, ended, words}
use Rattle.text_faults.specs.Lemmas.{words_cause}
use Rattle.text_faults.proofs.lemmas.words_cause.Given as goal

abbrev pub invariant-loop-x : goal.invariant-loop-x
invariant-loop-x l = (words_cause l.latches 1 (words (line_at l.text l.at)) ≡ words_cause l.latches l.j (words (line_at l.text l.p)))
    × (ended l.text l.p ≡ true) × (l.p ≤ length l.text) × (l.j ≤ l.p + 1)

abbrev pub decreases-loop-x : goal.decreases-loop-x
decreases-loop-x l = length l.text - l.p

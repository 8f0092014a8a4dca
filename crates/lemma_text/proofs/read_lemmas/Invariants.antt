-- `lemma_text::read_lemmas` meets its contract. The loop's invariant: what is told of the text is what is told of the lines from here on,
-- after so many lemmas. The measure is what is left of the text. Assumes nothing.
use Prim.Native.Nat.{◌-◌, ◌≤◌}
use mathlib.Core.Path.{◌≡◌}
use lib.ListN.{length}
use Rattle.meaning.specs.LemmaText.{read_lemma_text}
use Rattle.lemma_text.specs.Rest.{summary_of, summary_on, lemmas_on}
use Rattle.lemma_text.proofs.read_lemmas.Given as goal

abbrev pub invariant-loop-at : goal.invariant-loop-at
invariant-loop-at l = (summary_of (read_lemma_text l.latches l.text) ≡ summary_on l.count l.longest (lemmas_on l.latches l.text l.at)) × (l.at ≤ length l.text) × (l.count ≤ l.at)

abbrev pub decreases-loop-at : goal.decreases-loop-at
decreases-loop-at l = length l.text - l.at

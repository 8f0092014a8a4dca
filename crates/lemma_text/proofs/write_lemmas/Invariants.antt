-- `lemma_text::write_lemmas` meets its contract. The loop's invariant: the records of the lines from here on are what is left to write. The
-- measure is what is left of the text. Assumes nothing.
use Prim.Native.Nat.{◌-◌, ◌≤◌}
use lib.ListN.{length}
use Rattle.meaning.specs.LemmaText.{read_lemma_text}
use Rattle.meaning.specs.Filed.{clause_records}
use Rattle.lemma_text.specs.Rest.{lemmas_of, lemmas_on}
use Rattle.records.specs.Puts.{Left}
use Rattle.lemma_text.specs.Recorded.{Fine, records_on}
use Rattle.lemma_text.proofs.write_lemmas.Given as goal

abbrev pub invariant-loop-line : goal.invariant-loop-line
invariant-loop-line l = Fine (lemmas_on l.latches l.text l.from) × (l.from ≤ length l.text)
    × Left (clause_records 5 (lemmas_of (read_lemma_text l.latches l.text))) l.initial.out (records_on l.latches l.text l.from) l.out

abbrev pub decreases-loop-line : goal.decreases-loop-line
decreases-loop-line l = length l.text - l.from

-- `sweep_marked` meets its contract. The loop's invariant: the whole pass comes to the pass over the lemmas left, from where it stands.
use Prim.Native.Nat.{◌-◌}
use mathlib.Core.Path.{◌≡◌}
use Rattle.meaning.specs.Meaning.{at_marks}
use Rattle.format.specs.Section.{section}
use Rattle.passes.specs.Sweep.{sweep}
use Rattle.passes.specs.Forms.{entries, tally_at}
use Rattle.passes.specs.Places.{Records}
use Rattle.passes.proofs.TurnLaws.{lemmas_from}
use Rattle.passes.proofs.clauses.sweep_marked.Given as goal

abbrev pub invariant-loop-i : goal.invariant-loop-i
invariant-loop-i l = record {
  left : Records l.file l.at (l.count - l.i);
  so_far : sweep (at_marks l.on (section l.file l.start l.count)) (tally_at l.initial.tally (entries l.initial.values))
      ≡ sweep (lemmas_from l.file l.on l.at l.count l.i) (tally_at l.tally (entries l.values));
}

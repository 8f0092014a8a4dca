-- `sweep_records` meets its contract. The loop's invariant: the whole pass comes to the pass over the records left, from where it stands.
use Prim.Native.Nat.{◌-◌}
use mathlib.Core.Path.{◌≡◌}
use Rattle.format.specs.Section.{section}
use Rattle.passes.specs.Sweep.{sweep}
use Rattle.passes.specs.Forms.{entries, tally_at}
use Rattle.passes.specs.Places.{Records}
use Rattle.passes.proofs.clauses.sweep_records.Given as goal

abbrev pub invariant-loop-i : goal.invariant-loop-i
invariant-loop-i l = record {
  left : Records l.file l.at (l.count - l.i);
  so_far : sweep (section l.file l.start l.count) (tally_at l.initial.tally (entries l.initial.values))
      ≡ sweep (section l.file l.at (l.count - l.i)) (tally_at l.tally (entries l.values));
}

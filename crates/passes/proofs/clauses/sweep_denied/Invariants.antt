-- `sweep_denied` meets its contract. The loop's invariant: the whole pass comes to the pass over the literals left, from where it stands.
use Prim.Native.Nat.{◌+◌, ◌-◌, ◌*◌}
use mathlib.Core.Path.{◌≡◌}
use mathlib.Core.List.{map}
use Rattle.meaning.specs.Rules.{denied, next}
use Rattle.meaning.specs.File.{literals}
use Rattle.passes.specs.Sweep.{sweep}
use Rattle.passes.specs.Forms.{entries, tally_at}
use Rattle.passes.specs.Places.{Denials}
use Rattle.passes.proofs.TurnLaws.{denied_from}
use Rattle.passes.proofs.clauses.sweep_denied.Given as goal

abbrev pub invariant-loop-i : goal.invariant-loop-i
invariant-loop-i l = record {
  left : Denials l.file (l.start + 2 * l.i) (l.count - l.i) l.added;
  so_far : sweep (denied (map (next l.added) (literals l.file l.start l.count))) (tally_at l.initial.tally (entries l.initial.values))
      ≡ sweep (denied_from l.file l.start l.count l.added l.i) (tally_at l.tally (entries l.values));
}

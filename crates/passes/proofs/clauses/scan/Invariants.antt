-- `scan` meets its contract. The loop's invariant: the status of the whole clause is that of the literals left, after what was seen.
use Prim.Native.Nat.{◌+◌, ◌-◌, ◌*◌}
use mathlib.Core.Path.{◌≡◌}
use Rattle.meaning.specs.File.{literals}
use Rattle.passes.specs.Sweep.{status, status_from}
use Rattle.passes.specs.Seen.{FirstInside, seen_places}
use Rattle.passes.specs.Forms.{entries}
use Rattle.passes.specs.Places.{Literals}
use Rattle.passes.proofs.clauses.scan.Given as goal

abbrev pub invariant-loop-i : goal.invariant-loop-i
invariant-loop-i l = record {
  left : Literals l.file (l.start + 2 * l.i) (l.count - l.i);
  so_far : status (entries l.values) (literals l.file l.start l.count)
      ≡ status_from (entries l.values) (seen_places l.file l.places l.first) (literals l.file (l.start + 2 * l.i) (l.count - l.i));
  first : FirstInside l.file l.places l.first;
}

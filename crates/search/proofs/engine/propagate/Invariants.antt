-- `propagate` meets its contract. The loop's invariant: the search from where it stands is the search from the start.
use Prim.Native.Nat.{◌≤◌}
use mathlib.Core.Path.{◌≡◌}
use lib.ListN.{length}
use Rattle.laws.specs.Setting.{unset_count}
use Rattle.passes.specs.Forms.{entries}
use Rattle.search.specs.Engine.{clauses_of, search_at}
use Rattle.search.proofs.engine.propagate.Given as goal

abbrev pub invariant-loop-next : goal.invariant-loop-next
invariant-loop-next l = (search_at (clauses_of l.q) (entries l.initial.values) ≡ search_at (clauses_of l.q) (entries l.values))
    × (unset_count (entries l.values) ≤ unset_count (entries l.initial.values))
    × (length l.values ≡ 513)

abbrev pub decreases-loop-next : goal.decreases-loop-next
decreases-loop-next l = unset_count (entries l.values)

-- `sets::rounds::rounds` meets its contract: what is left to do is the rounds of the set at hand. Assumes nothing.
use Prim.Native.Nat.{◌≤◌, ◌-◌}
use Rattle.sets.specs.Asks.{marks_at, asks_of}
use Rattle.sets.specs.Keeping.{RoundsLeft}
use Rattle.sets.proofs.rounds.rounds.Given as goal

abbrev pub invariant-loop : goal.invariant-loop
invariant-loop l =
    RoundsLeft (asks_of l.of) (marks_at l.of.problem.k l.initial.set) l.used (l.fuel - l.counter) (marks_at l.of.problem.k l.set) × (l.used ≤ l.left)

-- `sets::questions::first_yes` meets its contract: no position before d was satisfiable. Assumes nothing.
use Prim.Native.Nat.{◌≤◌}
use Rattle.sets.specs.Asks.{marks_at, asks_of}
use Rattle.sets.specs.ListingForms.{each_asks}
use Rattle.sets.specs.ListingFirst.{FirstLeft}
use Rattle.sets.proofs.questions.first_yes.Given as goal

abbrev pub invariant-loop-d : goal.invariant-loop-d
invariant-loop-d l = FirstLeft (each_asks (asks_of l.of) (marks_at l.of.problem.k l.s) l.each) (marks_at l.of.problem.k l.s) l.used l.d × (l.used ≤ l.left)

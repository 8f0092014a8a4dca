-- `clause_count::count::lines_clauses` meets its contract. The loop's invariant: the line of this turn starts here, and the sum is that of the
-- lines before it. Assumes nothing.
use Rattle.clause_count.specs.Lengths.{width_of}
use Rattle.clause_count.specs.Rows.{Cursor}
use Rattle.clause_count.specs.Tally.{Tallied}
use Rattle.clause_count.proofs.count.lines_clauses.Given as goal

abbrev pub invariant-loop : goal.invariant-loop
invariant-loop l =
    Cursor l.text (width_of l.kind) l.initial.line l.end l.line l.counter × Tallied l.kind l.text l.initial.line l.end l.counter l.line l.sum

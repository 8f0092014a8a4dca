-- `built::walk::put_lines` meets its contract. The loop's invariant: line i starts here, and the parts of the lines before it are written. Assumes nothing.
use Rattle.std.specs.Prelude.{ℕ, List}
use Rattle.records.specs.Puts.{HasRoom}
use Rattle.built.specs.Turns.{Turn, parts}
use Rattle.built.specs.Walk.{Walk, Writes}
use Rattle.clause_count.specs.Rows.{Cursor}
use Rattle.built.proofs.walk.put_lines.Given as goal

abbrev pub invariant-loop-i : goal.invariant-loop-i
invariant-loop-i g l =
    ((w : Walk l.text l.fn.s l.initial.out (goal.F-pre g l.put) (goal.F-post g l.put)) → Cursor l.text w.width l.fn.s.at l.i-end l.line l.i)
    × ((part : ℕ → List ℕ) → HasRoom (parts part 0 l.i-end) l.initial.out → Writes l.text l.fn.s part (goal.F-post g l.put)
    → Turn part l.i-end l.initial.out l.i l.out)

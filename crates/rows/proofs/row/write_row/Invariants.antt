-- `rows::row::write_row` meets its contract: the marks before d are written. Assumes nothing.
use mathlib.Core.Path.{◌≡◌}
use lib.ListN.{length, take}
use Rattle.meaning.specs.Calls.{written}
use Rattle.rows.proofs.row.write_row.Given as goal

abbrev pub invariant-loop-d : goal.invariant-loop-d
invariant-loop-d l = (l.row ≡ written 0 (take l.d l.fn.s.on) l.initial.row) × (length l.row ≡ length l.initial.row)

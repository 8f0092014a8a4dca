-- `text::listing::put_rows` meets its contract: the rows after those done are left to write.
use Rattle.std.proofs.Common.{◌≤◌, ◌-◌, length, drop}
use Rattle.text.specs.Listing.{row_lines}
use Rattle.text.specs.Pages.{Left}
use Rattle.text.proofs.listing.put_rows.Given as goal

abbrev pub invariant-loop-done : goal.invariant-loop-done
invariant-loop-done l = (l.start ≤ length l.marks)
    × Left (row_lines l.rows l.k l.marks) l.initial.page (row_lines (l.rows - l._done) l.k (drop l.start l.marks)) l.page

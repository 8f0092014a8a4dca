-- `text::page::Page::put_filled` meets its contract: the form from this byte on is left to write, with the numbers that are left.
use Rattle.std.proofs.Common.{◌≤◌, length, drop, get_or}
use Rattle.text.specs.Filled.{filled}
use Rattle.text.specs.Pages.{Left}
use Rattle.text.proofs.page.Page.put_filled.Given as goal

abbrev pub invariant-loop-byte : goal.invariant-loop-byte
invariant-loop-byte l = (length l.left.rest.now ≤ 3)
    × Left (filled l.form (get_or l.numbers 0 0) (get_or l.numbers 1 0) (get_or l.numbers 2 0)) l.initial.self
    (filled (drop l.byte-index l.form) (get_or l.left.rest.now 0 0) (get_or l.left.rest.now 1 0) (get_or l.left.rest.now 2 0)) l.self

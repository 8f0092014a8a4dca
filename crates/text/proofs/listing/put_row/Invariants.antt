-- `text::listing::put_row` meets its contract: the marks before this one are written.
use Rattle.std.proofs.Common.{map, take}
use Rattle.text.specs.Listing.{mark_digit}
use Rattle.text.specs.Pages.{Puts}
use Rattle.text.proofs.listing.put_row.Given as goal

abbrev pub invariant-loop-mark : goal.invariant-loop-mark
invariant-loop-mark l = Puts (map mark_digit (take l.mark-index l.row)) l.initial.page l.page

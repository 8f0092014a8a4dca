use Rattle.std.proofs.Common.{arith}
use Rattle.text.specs.Listing.{mark_digit}
use Rattle.text.specs.Numbers.{digit}
use Rattle.text.specs.LineLaws.{mapped_more}
use Rattle.text.specs.Pages.{puts_is, puts_both}
use Rattle.text.proofs.listing.put_row.Goals as goal

pub loop-mark-preserved : goal.loop-mark-preserved
unfolding mark_digit digit
loop-mark-preserved c =
    puts_is (mapped_more mark_digit _ c.loop-mark.mark-index (omega arith)) (puts_both c.loop-mark.invariant c.put.ensures)

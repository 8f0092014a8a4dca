-- `text::listing::put_listed` meets its contract: the first line, then the rows. Assumes nothing.
use Rattle.text.specs.Listing.{listed}
use Rattle.text.specs.Pages.{puts_both}
use Rattle.text.proofs.listing.put_listed.Goals as goal

pub returns : goal.returns
unfolding listed
returns c = puts_both c.put_line.ensures c.put_rows.ensures

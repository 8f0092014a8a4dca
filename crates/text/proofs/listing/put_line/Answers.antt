-- `text::listing::put_line` meets its contract: the word, then a form. Assumes nothing.
use Rattle.text.specs.Filled.{filled}
use Rattle.text.specs.Listing.{first_line}
use Rattle.text.specs.Pages.{puts_both}
use Rattle.text.proofs.listing.put_line.Goals as goal

pub returns : goal.returns
unfolding first_line filled
returns c = puts_both c.put_all.ensures c.put_filled.ensures

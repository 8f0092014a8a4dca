-- `usage::texts::put_around` meets its contract: part after part. Assumes nothing.
use Rattle.text.specs.Pages.{puts_both}
use Rattle.usage.specs.Texts.{around}
use Rattle.usage.proofs.texts.put_around.Goals as goal

pub returns : goal.returns
unfolding around
returns c = puts_both c.put_all.ensures (puts_both c.put_word.ensures c.put_all-2.ensures)

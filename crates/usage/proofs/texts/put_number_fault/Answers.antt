-- `usage::texts::put_number_fault` meets its contract: the word, then what is allowed. Assumes nothing.
use Rattle.text.specs.Pages.{puts_both}
use Rattle.usage.specs.Texts.{number_text}
use Rattle.usage.proofs.texts.put_number_fault.Goals as goal

pub returns : goal.returns
unfolding number_text
returns c = puts_both c.put_around.ensures c.put_allowed.ensures

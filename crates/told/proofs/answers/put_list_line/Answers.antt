-- `told::answers::put_list_line` meets its contract: its word, then one form. Assumes nothing.
use Rattle.text.specs.Pages.{puts_both}
use Rattle.told.specs.Answers.{list_line}
use Rattle.told.proofs.answers.put_list_line.Goals as goal

pub returns : goal.returns
unfolding list_line
returns c = puts_both c.put_word.ensures c.put_filled.ensures

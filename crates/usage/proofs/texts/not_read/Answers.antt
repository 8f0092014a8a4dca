-- `usage::texts::not_read` meets its contract: one text around the word. Assumes nothing.
use Rattle.std.proofs.Common.{rules}
use Rattle.text.specs.Pages.{puts_out}
use Rattle.usage.specs.Texts.{not_read}
use Rattle.usage.proofs.texts.not_read.Goals as goal

pub returns : goal.returns
unfolding not_read
returns c =
    let wrote = c.put_around.ensures in
    puts_out c.new-page.ensures wrote (search (rules, wrote.lent, c.new-page.ensures.lent))

-- `usage::texts::help_text` meets its contract: one text. Assumes nothing.
use Rattle.std.proofs.Common.{rules}
use Rattle.text.specs.Pages.{puts_out}
use Rattle.usage.specs.Texts.{help_text}
use Rattle.usage.proofs.texts.help_text.Goals as goal

pub returns : goal.returns
unfolding help_text
returns c =
    let wrote = c.put_all.ensures in
    puts_out c.new-page.ensures wrote (search (rules, wrote.lent, c.new-page.ensures.lent))

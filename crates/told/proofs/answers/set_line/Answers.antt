-- `told::answers::set_line` meets its contract: one form. Assumes nothing.
use Rattle.std.proofs.Common.{rules}
use Rattle.text.specs.Pages.{puts_out}
use Rattle.told.specs.Answers.{set_line}
use Rattle.told.proofs.answers.set_line.Goals as goal

pub returns : goal.returns
unfolding set_line
returns c =
    let wrote = c.put_filled.ensures in
    puts_out c.new-page.ensures wrote (search (rules, wrote.lent, c.new-page.ensures.lent))

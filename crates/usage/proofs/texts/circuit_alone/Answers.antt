-- `usage::texts::circuit_alone` meets its contract: the word between two texts. Assumes nothing.
use Rattle.std.proofs.Common.{rules}
use Rattle.text.specs.Pages.{puts_out}
use Rattle.usage.specs.Texts.{circuit_alone}
use Rattle.usage.proofs.texts.circuit_alone.Goals as goal

pub returns : goal.returns
unfolding circuit_alone
returns c =
    let wrote = c.put_around.ensures in
    puts_out c.new-page.ensures wrote (search (rules, wrote.lent, c.new-page.ensures.lent))

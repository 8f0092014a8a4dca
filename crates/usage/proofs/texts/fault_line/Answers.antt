-- `usage::texts::fault_line` meets its contract: one text. Assumes nothing.
use Rattle.std.proofs.Common.{rules}
use Rattle.text.specs.Pages.{puts_out}
use Rattle.usage.proofs.texts.fault_line.Goals as goal

pub returns : goal.returns
returns c =
    let wrote = c.put_fault.ensures in
    puts_out c.new-page.ensures wrote (search (rules, wrote.lent, c.new-page.ensures.lent))

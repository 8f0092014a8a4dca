-- `told::answers::marks_line` meets its contract: one row. Assumes nothing.
use Rattle.std.proofs.Common.{rules}
use Rattle.text.specs.Pages.{puts_out}
use Rattle.told.specs.Answers.{marks_line}
use Rattle.told.proofs.answers.marks_line.Goals as goal

pub returns : goal.returns
unfolding marks_line
returns c =
    let wrote = c.put_row.ensures in
    puts_out c.new-page.ensures wrote (search (rules, wrote.lent, c.new-page.ensures.lent))

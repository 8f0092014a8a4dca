-- `told_texts::liveness::liveness_line` meets its contract: part after part. Assumes nothing.
use Rattle.std.proofs.Common.{rules}
use Rattle.text.specs.Pages.{puts_both, puts_out}
use Rattle.told_texts.specs.Liveness.{liveness_line}
use Rattle.told_texts.proofs.liveness.liveness_line.Goals as goal

pub returns : goal.returns
unfolding liveness_line
returns c =
    let wrote = puts_both (puts_both c.put_all.ensures c.put_word.ensures) c.put_filled.ensures in
    puts_out c.new-page.ensures wrote (search (rules, wrote.lent, c.new-page.ensures.lent))

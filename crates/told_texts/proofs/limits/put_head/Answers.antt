-- `told_texts::limits::put_head` meets its contract: by which text it is. Assumes nothing.
use Rattle.text.specs.Pages.{puts_both}
use Rattle.told_texts.specs.Limits.{limit_head}
use Rattle.told_texts.proofs.limits.put_head.Goals as goal

pub returns-then-of : goal.returns-then-of
unfolding limit_head
returns-then-of c =
    rw c.if-of.true (puts_both c.put_all.ensures c.put_word.ensures)

pub returns : goal.returns
unfolding limit_head
returns c =
    rw c.if-of.false (puts_both c.put_all-2.ensures c.put_word-2.ensures)

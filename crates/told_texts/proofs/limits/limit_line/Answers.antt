-- `told_texts::limits::limit_line` meets its contract: part after part. Assumes nothing.
use Rattle.std.proofs.Common.{rules}
use mathlib.Core.Bool.{Bool}
use mathlib.Core.Path.{ap}
use mathlib.Core.List.{◌++◌}
use Rattle.text.specs.Pages.{puts_is, puts_both, puts_out}
use Rattle.told_texts.specs.Limits.{limit_head, limit_text, limit_line}
use Rattle.told_texts.proofs.limits.limit_line.Goals as goal

pub returns : goal.returns
unfolding limit_line
returns c =
    let a = c.args in
    let is = ap (λ (b : Bool). limit_head b a.circuit.now a.lemmas.now ++ limit_text a.limit) c.of_lemmas.ensures in
    let wrote = puts_is is (puts_both c.put_head.ensures c.put_limit.ensures) in
    puts_out c.new-page.ensures wrote (search (rules, wrote.lent, c.new-page.ensures.lent))

use Rattle.circuit_text.specs.Uses.{not_judged_right, uses_are, few_gates}
use Rattle.circuit_text.proofs.read.read_uses.Goals as goal

pub returns-then-not-judged : goal.returns-then-not-judged
returns-then-not-judged c = not_judged_right _ _ _ c.if-not-judged.true

pub uses_fault-requires-clause-count_bound : goal.uses_fault-requires-clause-count_bound
uses_fault-requires-clause-count_bound c =
    let start = c.requires in
    let j = c.if-not-judged.false in
    few_gates _ _ start.whole (start.text_len_bound j)

pub returns : goal.returns
returns c = uses_are _ _ _ c.if-not-judged.false _ c.uses_fault.ensures

-- `lone` meets its contract: the clause's status goes by the one literal's value.
use mathlib.Core.Path.{sym, ap, ◌∙◌}
use mathlib.Core.List.{[]}
use Rattle.format.specs.Forms.{literal_of}
use Rattle.passes.specs.Sweep.{failed, seen, status, status_from}
use Rattle.passes.specs.Forms.{entry, entries}
use Rattle.passes.proofs.EntryLaws.{entry_false}
use Rattle.passes.proofs.StatusLaws.{status_true, status_false, status_unset}
use Rattle.passes.proofs.clauses.lone.Goals as goal

pub returns-then-v-eq0 : goal.returns-then-v-eq0
unfolding status status_from seen entry
returns-then-v-eq0 c =
    let worth = c in
    let start = worth in
    sym (status_unset (entries start.args.values.now) failed (literal_of start.args.l) [] (sym worth.worth-v.ensures ∙ ap entry c.if-v-eq0.true))

pub returns-then-v-eq1 : goal.returns-then-v-eq1
unfolding status status_from entry
returns-then-v-eq1 c =
    let worth = c in
    let start = worth in
    sym (status_true (entries start.args.values.now) failed (literal_of start.args.l) [] (sym worth.worth-v.ensures ∙ ap entry c.if-v-eq1.true))

pub returns-else-v-eq1 : goal.returns-else-v-eq1
unfolding status status_from
returns-else-v-eq1 c =
    let worth = c in
    let start = worth in
    sym (status_false (entries start.args.values.now) failed (literal_of start.args.l) []
    (sym worth.worth-v.ensures ∙ entry_false worth.worth-v.result c.if-v-eq0.false c.if-v-eq1.false))

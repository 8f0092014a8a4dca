-- `worth` meets its contract: the entry of the literal's variable, turned round for a negation.
use mathlib.Core.Path.{◌∙◌}
use Rattle.passes.proofs.EntryLaws.{pos_range, neg_range, pos_value, neg_value, turned_unset, turned_true, turned_false}
use Rattle.passes.proofs.values.worth.Goals as goal

pub bounds-values-x : goal.bounds-values-x
bounds-values-x c =
    let start = c in
    pos_range start.args.l c.in-Pos.x c.in-Pos.is start.requires

pub bounds-values-x-in-Neg : goal.bounds-values-x-in-Neg
bounds-values-x-in-Neg c =
    let start = c in
    neg_range start.args.l c.in-Neg.x c.in-Neg.is start.requires

pub returns-then-v-eq0 : goal.returns-then-v-eq0
returns-then-v-eq0 c =
    let start = c in
    turned_unset _ c.if-v-eq0.true ∙
    neg_value start.args.values.now start.args.l _ c.in-Neg.is

pub returns-then-v-eq1 : goal.returns-then-v-eq1
returns-then-v-eq1 c =
    let start = c in
    turned_true _ c.if-v-eq1.true ∙
    neg_value start.args.values.now start.args.l _ c.in-Neg.is

pub returns-in-Pos : goal.returns-in-Pos
returns-in-Pos c =
    let start = c in
    pos_value start.args.values.now start.args.l _ c.in-Pos.is

pub returns-else-v-eq1 : goal.returns-else-v-eq1
returns-else-v-eq1 c =
    let start = c in
    turned_false _ c.if-v-eq0.false c.if-v-eq1.false ∙
    neg_value start.args.values.now start.args.l _ c.in-Neg.is

use mathlib.Core.List.{[]}
use Rattle.sections.specs.LineOf.{literals_counts, line_split, literals_first, literals_rest}
use Rattle.sections.proofs.line.literals_right.Goals as goal

pub returns-then-form : goal.returns-then-form
returns-then-form c = let p = c.requires in literals_counts _ _ _ _ _ _ _ p.at_value p.at_value_2 p.le_width c.if-form.true

pub first_right-requires-clause-l_has_digits : goal.first_right-requires-clause-l_has_digits
first_right-requires-clause-l_has_digits c =
    let p = c.requires in
    let y = c.number_at-first.ensures in
    let cut = line_split c.args.form c.args.judged 0 [] _ _ _ p.at_value p.at_value_2 p.le_width c.number_at-first.result y.digits in
    cut.some

pub returns-then-not-first_right : goal.returns-then-not-first_right
returns-then-not-first_right c =
    let p = c.requires in
    let y = c.number_at-first.ensures in
    literals_first _ _ _ _ _ _ _ p.at_value p.at_value_2 p.le_width c.number_at-first.result y.digits c.if-form.false _ c.first_right.ensures c.if-not-first_right.true

pub rest_right-requires : goal.rest_right-requires
rest_right-requires c =
    let p = c.requires in
    let y = c.number_at-first.ensures in
    let cut = line_split c.args.form c.args.judged 0 [] _ _ _ p.at_value p.at_value_2 p.le_width c.number_at-first.result y.digits in
    cut.rest

pub returns : goal.returns
returns c =
    let p = c.requires in
    let y = c.number_at-first.ensures in
    literals_rest _ _ _ _ _ _ _ p.at_value p.at_value_2 p.le_width c.number_at-first.result y.digits c.if-form.false _ c.first_right.ensures c.if-not-first_right.false _ c.rest_right.ensures

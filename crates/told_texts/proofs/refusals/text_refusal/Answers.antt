-- `told_texts::refusals::text_refusal` goes by the number, and by the text that 13 is of. Assumes nothing.
use mathlib.Core.Path.{ap}
use borrow.Author.Tests.{eq-eqb, ne_eqb}
use Rattle.text.specs.PageLaws.{holds_is}
use Rattle.told_texts.specs.Limits.{limit_line}
use Rattle.told_texts.specs.Liveness.{liveness_line}
use Rattle.told_texts.specs.Refusals.{text_refusal}
use Rattle.told_texts.proofs.refusals.text_refusal.Goals as goal

pub returns-then-number-eq15 : goal.returns-then-number-eq15
unfolding text_refusal
returns-then-number-eq15 c =
    let a = c.args in
    rw (eq-eqb a.number 15 c.if-number-eq15.true) (holds_is (ap (liveness_line a.name.now) c.liveness_of.ensures) c.liveness_line.ensures)

pub returns-then-number-ne13 : goal.returns-then-number-ne13
unfolding text_refusal
returns-then-number-ne13 c =
    let a = c.args in
    rw (ne_eqb c.args.number 15 c.if-number-eq15.false, ne_eqb a.number 13 c.if-number-ne13.true) (holds_is (ap (limit_line a.name.now a.other.now) c.limit_of.ensures) c.limit_line.ensures)

pub returns-then-first : goal.returns-then-first
unfolding text_refusal
returns-then-first c =
    rw (ne_eqb c.args.number 15 c.if-number-eq15.false, eq-eqb c.args.number 13 c.if-number-ne13.false, c.if-first.true) c.circuit_line.ensures

pub returns : goal.returns
unfolding text_refusal
returns c =
    rw (ne_eqb c.args.number 15 c.if-number-eq15.false, eq-eqb c.args.number 13 c.if-number-ne13.false, c.if-first.false) c.lemma_line.ensures

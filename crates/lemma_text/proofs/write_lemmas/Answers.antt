use mathlib.Core.Path.{sym, ◌∙◌}
use native.Mathlib.Omega.{arith}
use Rattle.meaning.specs.LemmaText.{read_lemma_text}
use Rattle.records.specs.Puts.{left_all, left_none}
use Rattle.lemma_text.specs.Rest.{lemmas_on}
use Rattle.lemma_text.specs.Recorded.{fine_all, fine_end, records_on, records_none, lemma_read, writable, next_inside, head_small, head_room, body_room, record_more}
use Rattle.lemma_text.proofs.write_lemmas.Goals as goal

pub loop-line-init : goal.loop-line-init
unfolding records_on lemmas_on read_lemma_text
loop-line-init c = (fine_all _ _ c.requires.text_value, omega arith, left_all c.requires.text_in_bounds)

pub overflow_mul-line : goal.overflow_mul-line
overflow_mul-line c =
    let l = lemma_read _ _ _ _ (sym c.in-Some.is ∙ c.line_at.ensures) c.loop-line.invariant.0 in
    omega (arith, head_small l c.loop-line.invariant.2)

pub put_head-requires-clause-at_in_bounds : goal.put_head-requires-clause-at_in_bounds
put_head-requires-clause-at_in_bounds c =
    head_room (lemma_read _ _ _ _ (sym c.in-Some.is ∙ c.line_at.ensures) c.loop-line.invariant.0) c.loop-line.invariant.2

pub put_head-requires-clause-len_bound : goal.put_head-requires-clause-len_bound
put_head-requires-clause-len_bound c =
    head_small (lemma_read _ _ _ _ (sym c.in-Some.is ∙ c.line_at.ensures) c.loop-line.invariant.0) c.loop-line.invariant.2

pub put_literals-requires-clause-writable : goal.put_literals-requires-clause-writable
put_literals-requires-clause-writable c =
    writable (lemma_read _ _ _ _ (sym c.in-Some.is ∙ c.line_at.ensures) c.loop-line.invariant.0) c.requires.latches_bound

pub put_literals-requires-clause-from_in_bounds_2 : goal.put_literals-requires-clause-from_in_bounds_2
put_literals-requires-clause-from_in_bounds_2 c =
    let l = lemma_read _ _ _ _ (sym c.in-Some.is ∙ c.line_at.ensures) c.loop-line.invariant.0 in
    body_room l c.loop-line.invariant.2 c.put_head.ensures

pub loop-line-smaller : goal.loop-line-smaller
loop-line-smaller c =
    let next = next_inside (lemma_read _ _ _ _ (sym c.in-Some.is ∙ c.line_at.ensures) c.loop-line.invariant.0) in
    omega (arith, next.0, next.1)

pub loop-line-preserved : goal.loop-line-preserved
loop-line-preserved c =
    let l = lemma_read _ _ _ _ (sym c.in-Some.is ∙ c.line_at.ensures) c.loop-line.invariant.0 in
    (l.rest, (next_inside l).0, record_more l c.loop-line.invariant.2 c.put_head.ensures c.put_literals.ensures)

pub returns : goal.returns
returns c =
    let turn = c.loop-line.invariant in
    left_none turn.2 (records_none _ _ _ (fine_end _ _ _ (sym c.in_default.is ∙ c.line_at.ensures) turn.0))

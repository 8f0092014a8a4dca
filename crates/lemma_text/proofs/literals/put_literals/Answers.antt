use native.Mathlib.Omega.{arith}
use Rattle.records.specs.Puts.{left_all, left_is, left_none, left_room, left_more}
use Rattle.lemma_text.specs.Words.{word_rises}
use Rattle.lemma_text.specs.Written.{byte_after, bytes_last, literal_at, literal_room}
use Rattle.lemma_text.proofs.literals.put_literals.Goals as goal

pub loop-x-init : goal.loop-x-init
loop-x-init c = (c.requires.writable, c.requires.from_in_bounds, left_all c.requires.from_in_bounds_2)

pub bounds-text-end : goal.bounds-text-end
bounds-text-end c = byte_after _ _ _ c.word_at-x.ensures c.loop-x.invariant.0

pub returns-then-text-end-eq10 : goal.returns-then-text-end-eq10
returns-then-text-end-eq10 c =
    let turn = c.loop-x.invariant in
    left_none turn.2 (bytes_last _ _ _ c.word_at-x.ensures turn.0 c.if-text-end-eq10.true)

pub put_literal-requires-clause-at_in_bounds : goal.put_literal-requires-clause-at_in_bounds
put_literal-requires-clause-at_in_bounds c =
    let turn = c.loop-x.invariant in
    let here = literal_at _ _ _ c.word_at-x.ensures turn.0 c.if-text-end-eq10.false in
    literal_room _ (left_room _ _ (left_is turn.2 here.bytes))

pub put_literal-requires-clause-le_variable : goal.put_literal-requires-clause-le_variable
put_literal-requires-clause-le_variable c = (literal_at _ _ _ c.word_at-x.ensures c.loop-x.invariant.0 c.if-text-end-eq10.false).low

pub put_literal-requires-clause-variable_bound : goal.put_literal-requires-clause-variable_bound
put_literal-requires-clause-variable_bound c = (literal_at _ _ _ c.word_at-x.ensures c.loop-x.invariant.0 c.if-text-end-eq10.false).high

pub loop-x-smaller : goal.loop-x-smaller
loop-x-smaller c =
    let w = c.word_at-x.ensures in
    omega (arith, byte_after _ _ _ w c.loop-x.invariant.0, word_rises _ _ _ w)

pub loop-x-preserved : goal.loop-x-preserved
loop-x-preserved c =
    let turn = c.loop-x.invariant in
    let here = literal_at _ _ _ c.word_at-x.ensures turn.0 c.if-text-end-eq10.false in
    let inside = byte_after _ _ _ c.word_at-x.ensures turn.0 in
    (here.next, omega (arith, inside), left_more _ _ (left_is turn.2 here.bytes) c.put_literal.ensures)

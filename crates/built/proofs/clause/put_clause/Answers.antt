use Rattle.std.specs.Prelude.{◌*◌}
use Rattle.std.proofs.Math.Path.{sym, ap, ◌∙◌}
use Rattle.records.specs.Puts.{puts_none, puts_is, room_is, left_is, left_none, left_room, left_more}
use Rattle.built.specs.Clause.{any_is, dropped, kept, bytes_length, bytes_none, bytes_next, head_room, after_head}
use Rattle.built.proofs.clause.put_clause.Goals as goal

pub returns-then-has_true : goal.returns-then-has_true
returns-then-has_true c =
    puts_is (sym (dropped _ _ (sym (any_is _) ∙ sym c.has_true.ensures ∙ c.if-has_true.true))) (puts_none _)

pub put_head-requires-clause-at_in_bounds : goal.put_head-requires-clause-at_in_bounds
put_head-requires-clause-at_in_bounds c =
    let same = kept c.args.kind c.args.edges.now (sym (any_is _) ∙ sym c.has_true.ensures ∙ c.if-has_true.false) in
    head_room _ _ (room_is (sym same) c.requires.edges_in_bounds) _ (ap (λ k. 2 * k) c.named.ensures ∙ bytes_length _)

pub loop-e-init : goal.loop-e-init
loop-e-init c =
    let same = kept c.args.kind c.args.edges.now (sym (any_is _) ∙ sym c.has_true.ensures ∙ c.if-has_true.false) in
    after_head _ _ (room_is (sym same) c.requires.edges_in_bounds) _ (ap (λ k. 2 * k) c.named.ensures ∙ bytes_length _)
    c.put_head.ensures

pub put_edge-requires-clause-e_in_bounds : goal.put_edge-requires-clause-e_in_bounds
put_edge-requires-clause-e_in_bounds c = left_room _ _ (left_is c.loop-e.invariant (bytes_next _ _ _ c.loop-e-test.true c.e-item.is))

pub loop-e-preserved : goal.loop-e-preserved
loop-e-preserved c =
    left_more _ _ (left_is c.loop-e.invariant (bytes_next _ _ _ c.loop-e-test.true c.e-item.is)) c.put_edge.ensures

pub returns : goal.returns
returns c =
    let same = kept c.args.kind c.args.edges.now (sym (any_is _) ∙ sym c.has_true.ensures ∙ c.if-has_true.false) in
    puts_is same (left_none c.loop-e.invariant (bytes_none _ _ c.loop-e-test.false))

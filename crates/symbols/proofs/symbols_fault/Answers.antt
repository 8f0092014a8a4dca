use mathlib.Core.Path.{sym, ap, ◌∙◌}
use lib.ListN.{length}
use native.Mathlib.Omega.{arith}
use Rattle.meaning.specs.CircuitText.{begins_comment}
use Rattle.symbols.specs.Read.{read_none, read_all, cut_here, comment_ends, wrong_line, read_more, same_line, same_next, right_there}
use Rattle.symbols.proofs.symbols_fault.Goals as goal

pub loop-p-init : goal.loop-p-init
loop-p-init c = read_none _ _ _ _ c.requires.at_in_bounds

pub returns-in_default : goal.returns-in_default
returns-in_default c = cut_here _ _ _ _ _ c.loop-p.invariant (omega arith) c.in_default.ensures.is_ended

pub returns-then-begins_comment : goal.returns-then-begins_comment
returns-then-begins_comment c =
    let there = c.in-Some.ensures.is_there in
    comment_ends _ _ _ _ _ c.loop-p.invariant (omega arith) c.in-Some.ensures.is_ended
    (sym c.if-begins_comment.true ∙ c.begins_comment.ensures ∙ ap begins_comment (same_line there.0 there.1))

pub returns-then-not-is_right : goal.returns-then-not-is_right
returns-then-not-is_right c =
    let there = c.in-Some.ensures.is_there in
    wrong_line _ _ _ _ _ c.loop-p.invariant (omega arith) c.in-Some.ensures.is_ended
    (sym c.if-begins_comment.false ∙ c.begins_comment.ensures ∙ ap begins_comment (same_line there.0 there.1)) _
    (right_there there.0 there.1 _ _ _ _ c.is_right.ensures) c.if-not-is_right.true

pub loop-p-preserved : goal.loop-p-preserved
loop-p-preserved c =
    let there = c.in-Some.ensures.is_there in
    read_more _ _ _ _ _ c.loop-p.invariant (omega arith) c.in-Some.ensures.is_ended
    (sym c.if-begins_comment.false ∙ c.begins_comment.ensures ∙ ap begins_comment (same_line there.0 there.1)) _
    (right_there there.0 there.1 _ _ _ _ c.is_right.ensures) c.if-not-is_right.false c.requires.small _
    (same_next there.0 there.1 _ c.in-Some.line.line_to) (omega (arith, c.in-Some.line.closed, ap length there.0))

pub returns : goal.returns
returns c = read_all _ _ _ _ _ c.loop-p.invariant (omega arith)

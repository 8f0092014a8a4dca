use Rattle.std.specs.Prelude.{Err}
use Rattle.std.proofs.Common.{ap, ◌∙◌}
use Rattle.std.proofs.lemmas.Result.{err_from_is_err_and}
use Rattle.std.proofs.lemmas.Option.{MatchOption-at_some}
use native.Mathlib.Omega.{arith}
use Rattle.sections.specs.Reading.{going_start, going_end, section_wrong, section_next, fault_none, fault_some, all_lines, capped_most, capped_self, own_placed}
use Rattle.sections.proofs.read.read_section.Goals as goal

pub loop-i-init : goal.loop-i-init
loop-i-init c = λ n is. going_start _ _ _ _ _ _ n c.requires.at_in_bounds

pub line_of-requires-clause-at_in_bounds : goal.line_of-requires-clause-at_in_bounds
line_of-requires-clause-at_in_bounds c =
    let g = c.loop-i.invariant _ (capped_self _ c.requires.count_le_huge) in
    g.inside

pub line_of-requires-clause-before_placed : goal.line_of-requires-clause-before_placed
line_of-requires-clause-before_placed c =
    let start = c.requires in
    let g = c.loop-i.invariant _ (capped_self _ start.count_le_huge) in
    record {
      inputs = start.placed;
      latches = start.placed_2;
      own = own_placed _ _ _ _ _ c.own_count-own.ensures start.at_in_bounds g.numbered;
    }

pub returns-in_err-p : goal.returns-in_err-p
returns-in_err-p c =
    let p = err_from_is_err_and c.from_residual.result c.from_residual.ensures.1 in
    let none = fault_none _ _ _ c.in_err-p.ensures.value in
    rw (p.1, p.2)
    (λ n is.
    ap Err none.1
    ∙ section_wrong _ _ _ _ _ _ _ _ _ _ _ c.own_count-own.ensures c.line_of.ensures.0 n (omega (arith, is, capped_most n)) (c.loop-i.invariant n is)
    none.0)

pub loop-i-preserved : goal.loop-i-preserved
loop-i-preserved c =
    let some = fault_some _ _ _ c.in_ok-p.ensures.value in
    λ n is.
    section_next _ _ _ _ _ _ _ _ _ _ _ c.own_count-own.ensures c.line_of.ensures.0 n (omega (arith, is, capped_most n)) (c.loop-i.invariant n is)
    c.requires.le_width _ some (MatchOption-at_some _ _ _ some c.line_of.ensures.1)

pub returns : goal.returns
returns c =
    λ n is.
    let g = c.loop-i.invariant n is in
    going_end _ _ _ _ _ _ g (all_lines _ _ _ _ is g.far (omega arith) g.low (omega arith))

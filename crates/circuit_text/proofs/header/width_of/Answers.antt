use native.Mathlib.Omega.{arith}
use Rattle.circuit_text.specs.Header.{tried_more, width_found, width_none}
use Rattle.circuit_text.proofs.header.width_of.Goals as goal

pub returns-then-is_some : goal.returns-then-is_some
returns-then-is_some c = width_found _ _ _ c.line_past.ensures.0 _ c.is_some.ensures c.if-is_some.true c.loop-width.invariant.0 (omega arith)

pub loop-width-preserved : goal.loop-width-preserved
loop-width-preserved c =
    let h = c.loop-width.invariant in
    (omega (arith, h.0), tried_more _ _ _ c.line_past.ensures.0 _ c.is_some.ensures c.if-is_some.false h.1)

pub returns : goal.returns
returns c = let h = c.loop-width.invariant in width_none _ _ (omega arith) h.1

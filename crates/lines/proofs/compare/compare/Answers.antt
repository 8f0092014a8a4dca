use mathlib.Core.Path.{subst⁻¹, ap, ◌∙◌}
use Rattle.std.specs.declared.cmp.Ordering.{Ordering}
use Rattle.std.specs.Ordering.{ordering_then}
use native.Mathlib.Omega.{arith}
use Rattle.lines.specs.Sums.{none_read, read_more, over_is, seen_is}
use Rattle.lines.specs.Order.{Compared, then_seen}
use Rattle.lines.proofs.compare.compare.Goals as goal

pub loop-p-init : goal.loop-p-init
loop-p-init c = (none_read _ _ _ _ _, omega arith, omega arith)

pub loop-p-preserved : goal.loop-p-preserved
loop-p-preserved c =
    let h = c.loop-p.invariant in (
      subst⁻¹ (Compared _ _ _ _)
          (c.then-seen.ensures ∙ ap (λ (o : Ordering). ordering_then o c.loop-p.seen) c.cmp.ensures ∙ then_seen _ _ _)
          (read_more _ _ _ _ _ _ _ _ _ _ _ _ h.0
          c.digit_from.ensures.0
          c.digit_from-in-loop-p.ensures.0
          c.digit_from-in-loop-p-2.ensures.0
          c.digit_from-in-loop-p-3.ensures.0),
      omega arith,
      omega arith,
    )

pub returns-then-over-gt0 : goal.returns-then-over-gt0
returns-then-over-gt0 c =
    let h = c.loop-p.invariant in
    over_is _ _ _ _ _ _ _ _ h.0 (omega arith) (omega arith) (omega arith) (omega arith)
    c.if-over-gt0.true

pub returns : goal.returns
returns c =
    let h = c.loop-p.invariant in
    seen_is _ _ _ _ _ _ _ _ h.0 (omega arith) (omega arith) (omega arith) (omega arith)
    (omega arith)

use native.Mathlib.Omega.{arith}
use Rattle.text_faults.specs.LimitLaws.{seek_start, seek_done, seek_found, seek_on}
use Rattle.text_faults.proofs.limits.long_lemma.Goals as goal

pub loop-p-init : goal.loop-p-init
loop-p-init c =
    seek_start _

pub returns-then-met-gt64 : goal.returns-then-met-gt64
returns-then-met-gt64 c =
    seek_found _ c.loop-p.p c.loop-p.invariant c.loop-p-test.true c.spaces-met.result c.spaces-met.ensures c.if-met-gt64.true c.line_number.result c.line_number.ensures

pub loop-p-preserved : goal.loop-p-preserved
loop-p-preserved c =
    seek_on _ c.loop-p.p c.loop-p.invariant c.loop-p-test.true c.spaces-met.result c.spaces-met.ensures c.if-met-gt64.false _ c.after_line-p.ensures.0 c.after_line-p.ensures.2

pub returns : goal.returns
returns c =
    seek_done c.loop-p.invariant (λ h. omega (arith, h))

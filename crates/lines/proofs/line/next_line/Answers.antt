use Prim.Native.Nat.{◌<◌}
use mathlib.Core.Path.{sym, ◌∙◌}
use mathlib.Core.Bool.{true≢false}
use lib.ListN.{length}
use native.Mathlib.Omega.{arith}
use Rattle.lines.specs.Past.{ended_byte, next_byte, next_newline, not_ended}
use Rattle.lines.proofs.line.next_line.Goals as goal

pub returns-then-text-p-eq10 : goal.returns-then-text-p-eq10
returns-then-text-p-eq10 c =
    let h = c.loop-p.invariant in
    (sym (h.0 ∙ next_newline _ _ (omega arith) c.if-text-p-eq10.true), omega arith, omega arith)

pub loop-p-preserved : goal.loop-p-preserved
loop-p-preserved c =
    let h = c.loop-p.invariant in
    let inside : c.loop-p.p < length c.args.text.now = omega arith in
    (h.0 ∙ next_byte _ _ inside c.if-text-p-eq10.false, sym (ended_byte _ _ inside c.if-text-p-eq10.false) ∙ h.1, omega arith, omega arith)

pub returns : goal.returns
returns c =
    let h = c.loop-p.invariant in
    absurd (true≢false (sym h.1 ∙ not_ended _ _ (omega arith)))

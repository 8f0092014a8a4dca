use mathlib.Core.Path.{◌≡◌, ap, subst, ◌∙◌}
use Rattle.symbols.specs.Symbols.{LineTo}
use lib.ListN.{length}
use native.Mathlib.Omega.{arith}
use Rattle.lines.specs.Past.{line_none, line_past_end, next_byte}
use Rattle.symbols.specs.Walk.{ends_here}
use Rattle.symbols.proofs.line.line_end.Goals as goal

pub returns-then-text-p-eq10 : goal.returns-then-text-p-eq10
returns-then-text-p-eq10 c =
    let h = c.loop-p.invariant in
    ends_here _ _ _ h.0 (ap length (line_none _ _ (omega arith) c.if-text-p-eq10.true)) h.1

pub loop-p-preserved : goal.loop-p-preserved
loop-p-preserved c = let h = c.loop-p.invariant in (h.0 ∙ next_byte _ _ (omega arith) c.if-text-p-eq10.false, omega arith)

pub returns : goal.returns
returns c =
    let h = c.loop-p.invariant in
    let all : c.loop-p.p ≡ length c.args.text.now = omega arith in
    subst (LineTo _ _) all (ends_here _ _ _ h.0 (ap length (line_past_end _ _ (omega arith))) h.1)

use Prim.Native.Nat.{ℕ}
use mathlib.Core.Path.{sym, ap, ◌∙◌}
use mathlib.Core.Bool.{not}
use lib.ListN.{get_or}
use lib.Dec.{eqb}
use borrow.Author.Tests.{eq-eqb}
use Rattle.uses.specs.Solve.{not_ready_done, not_ready_left, ready_right}
use Rattle.uses.proofs.gates.Gates.is_ready.Goals as goal

pub returns-then-done-i-ne0 : goal.returns-then-done-i-ne0
returns-then-done-i-ne0 c = not_ready_done _ _ _ _ c.if-done-i-ne0.true

pub returns-then-done-from-ne0 : goal.returns-then-done-from-ne0
returns-then-done-from-ne0 c =
    let mark = c.args.done.now in
    ap (λ (k : ℕ). not (eqb (get_or mark k 0) 0)) c.from-then-done-from-ne0.ensures
    ∙ ready_right _ _ _ _ c.if-done-i-ne0.false (λ e. c.if-done-from-ne0.true (ap (λ (k : ℕ). get_or mark k 0) c.from.ensures ∙ e))

pub returns-else-done-from-ne0 : goal.returns-else-done-from-ne0
returns-else-done-from-ne0 c =
    let mark = c.args.done.now in
    ap not (eq-eqb _ _ c.if-done-from-ne0.false)
    ∙ not_ready_left _ _ _ _ (ap (λ (k : ℕ). get_or mark k 0) (sym c.from.ensures) ∙ c.if-done-from-ne0.false)

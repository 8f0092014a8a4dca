use Prim.Native.Nat.{ℕ, ◌<◌}
use native.Mathlib.Omega.{arith}
use mathlib.Core.Path.{◌≡◌, refl, sym, ap₂, subst⁻¹, ◌∙◌}
use mathlib.Core.Bool.{Bool, not, ◌&&◌}
use lib.ListN.{length}
use borrow.Author.Rules.{rules}
use Rattle.meaning.specs.Meaning.{has}
use Rattle.sets.specs.Asks.{marks_at}
use Rattle.sets.specs.SetLaws.{marks_long, has_on}
use Rattle.branches.specs.ListingSets.{lowest_here, lowest_on, lowest_none}
use Rattle.branches.proofs.nodes.lowest.Goals.{After-only, Start}
use Rattle.branches.proofs.nodes.lowest.Goals as goal

here : (s : Start) (d : ℕ) → d < s.args.of.now.problem.k → d < length (marks_at s.args.of.now.problem.k s.args.a)
here s d h = subst⁻¹ (λ (n : ℕ). d < n) (marks_long s.args.of.now.problem.k s.args.a (search rules) s.args.of.now.placed.k_in) h

-- what the test of a position says of the two sets
tested : (c : After-only)
    → (has (marks_at c.args.of.now.problem.k c.args.a) c.loop-d.d
    && not (has (marks_at c.args.of.now.problem.k c.args.s) c.loop-d.d))
    ≡ c.only.result
tested c =
    let a = c.args in
    let below : c.loop-d.d < a.of.now.problem.k = omega arith in
    ap₂ (λ (x y : Bool). x && not y) (has_on a.of.now.problem.k a.a _ _ below refl) (has_on a.of.now.problem.k a.s _ _ below refl) ∙ sym c.only.ensures

pub returns-then-only : goal.returns-then-only
returns-then-only c =
    let s = c in
    let at = c.loop-d in
    (lowest_here _ _ at.d (here (goal.at.returns-then-only c).Start at.d (omega arith)) (tested (goal.at.returns-then-only c).After-only ∙ c.if-only.true) at.invariant, omega arith)

pub loop-d-preserved : goal.loop-d-preserved
loop-d-preserved c =
    let s = c in
    let at = c.loop-d in
    lowest_on _ _ at.d (here (goal.at.loop-d-preserved c).Start at.d (omega arith)) (tested (goal.at.loop-d-preserved c).After-only ∙ c.if-only.false) at.invariant

pub returns : goal.returns
returns c =
    let a = c.args in
    let long = marks_long a.of.now.problem.k a.a (search rules) a.of.now.placed.k_in in
    (lowest_none _ _ c.loop-d.d (omega (arith, long)) c.loop-d.invariant, tt)

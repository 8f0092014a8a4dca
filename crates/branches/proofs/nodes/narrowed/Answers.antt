-- `branches::nodes::narrowed` meets its contract: the other side of a branch. Assumes nothing.
use Prim.Native.Nat.{ℕ, ◌<◌}
use mathlib.Core.Path.{sym, ap, subst, ◌∙◌}
use Rattle.std.specs.Prelude.{Ok}
use Rattle.std.proofs.lemmas.Result.{err_from_is_err_and}
use Rattle.meaning.specs.Meaning
use Rattle.meaning.specs.Rules.{rounds, reduced}
use Rattle.sets.specs.Asks.{marks_at, asks_of}
use Rattle.sets.specs.Forms.{KeptIs}
use Rattle.sets.specs.SetLaws.{less_at}
use Rattle.branches.specs.ListingSide.{side_spent, side_shut, side_judged}
use Rattle.branches.proofs.nodes.narrowed.Goals.{In_ok-x}
use Rattle.branches.proofs.nodes.narrowed.Goals as goal

-- what Rounds of the top without q kept
kept : (c : In_ok-x)
    → KeptIs c.args.of.now.problem.k c.args.left
    (reduced (asks_of c.args.of.now) c.args.q
    (marks_at c.args.of.now.problem.k c.args.top))
    (Ok c.in_ok-x.x)
unfolding reduced
kept c =
    let a = c.args in
    subst (λ (S : Meaning.Marks). KeptIs a.of.now.problem.k a.left (rounds (asks_of a.of.now) S) (Ok c.in_ok-x.x))
    (less_at _ _ _ _ c.requires c.without.ensures) c.in_ok-x.ensures

pub returns-in_err-x : goal.returns-in_err-x
unfolding reduced
returns-in_err-x c =
    let a = c.args in
    let same = ap (λ (S : Meaning.Marks). (rounds (asks_of a.of.now) S).count) (less_at a.of.now.problem.k _ _ _ c.requires c.without.ensures) in
    let p = err_from_is_err_and c.from_residual.result c.from_residual.ensures.1 in
    rw p.1 (side_spent (asks_of a.of.now) a.of.now.problem.k a.left a.q (marks_at a.of.now.problem.k a.base) (marks_at a.of.now.problem.k a.top) (subst (λ (n : ℕ). a.left < n) same c.in_err-x.ensures))

pub returns-then-not-contains : goal.returns-then-not-contains
returns-then-not-contains c =
    side_shut _ _ _ _ _ _ _ (kept (goal.at.returns-then-not-contains c).In_ok-x)
    (sym c.contains.ensures ∙ c.if-not-contains.true)

pub returns : goal.returns
returns c =
    side_judged _ _ _ _ _ _ _ (kept (goal.at.returns c).In_ok-x) _
    (sym c.contains.ensures ∙ c.if-not-contains.false) c.judge.ensures

-- `sets::picks::reduce` meets its contract. Assumes nothing.
use Prim.Native.Nat.{ℕ, ◌<◌}
use mathlib.Core.Path.{ap, subst}
use Rattle.std.specs.Prelude.{Ok}
use Rattle.std.proofs.lemmas.Result.{err_from_is_err_and}
use Rattle.meaning.specs.Meaning
use Rattle.meaning.specs.Rules.{rounds, reduced}
use Rattle.sets.specs.Asks.{asks_of}
use Rattle.sets.specs.Forms.{KeptIs}
use Rattle.sets.specs.SetLaws.{less_at}
use Rattle.sets.specs.Judging.{kept_over, from_kept}
use Rattle.sets.proofs.picks.reduce.Goals as goal

pub returns-in_err-x : goal.returns-in_err-x
unfolding reduced
returns-in_err-x c =
    let a = c.args in
    let same = ap (λ (S : Meaning.Marks). (rounds (asks_of a.of.now) S).count) (less_at a.of.now.problem.k _ _ _ c.requires c.without.ensures) in
    let p = err_from_is_err_and c.from_residual.result c.from_residual.ensures.1 in
    rw p.1 (kept_over (asks_of a.of.now) _ _ (subst (λ (n : ℕ). a.left < n) same c.in_err-x.ensures))

pub returns : goal.returns
unfolding reduced
returns c =
    let a = c.args in
    let kept =
    subst (λ (S : Meaning.Marks). KeptIs a.of.now.problem.k a.left (rounds (asks_of a.of.now) S) (Ok c.in_ok-x.x))
    (less_at _ _ _ _ c.requires c.without.ensures)
    c.in_ok-x.ensures in
    from_kept (asks_of a.of.now) a.of.now.problem.k a.left _ c.in_ok-x.x _ kept.0 c.judge.ensures

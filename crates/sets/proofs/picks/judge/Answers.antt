-- `sets::picks::judge` meets its contract: each return is one way the safety question ends. Assumes nothing.
use native.Mathlib.Omega.{arith}
use mathlib.Core.Path.{refl, ap}
use Rattle.std.specs.Prelude.{Ok}
use Rattle.std.proofs.lemmas.Result.{err_from_is_err_and}
use Rattle.sets.specs.Asks.{marks_at, asks, asks_of}
use Rattle.sets.specs.Told.{told_by}
use Rattle.sets.specs.Judging.{from_spent, from_told}
use Rattle.sets.proofs.picks.judge.Goals as goal

pub overflow_add-result : goal.overflow_add-result
unfolding asks marks_at
overflow_add-result c = let told = told_by _ _ c.in_ok-a.ensures (ap Ok c.in-Yes.is) in
    omega (arith, told.fits, c.ranges.left, c.requires)

pub overflow_add-result-in-No : goal.overflow_add-result-in-No
unfolding asks marks_at
overflow_add-result-in-No c = let told = told_by _ _ c.in_ok-a.ensures (ap Ok c.in-No.is) in
    omega (arith, told.fits, c.ranges.left, c.requires)

pub returns-in_err-a : goal.returns-in_err-a
unfolding asks marks_at
returns-in_err-a c =
    let p = err_from_is_err_and c.from_residual.result c.from_residual.ensures.1 in
    rw p.1 (from_spent (asks_of c.args.of.now) c.args.of.now.problem.k _ c.args.x c.requires (told_by _ _ c.in_err-a.ensures refl))

pub returns-in-Yes : goal.returns-in-Yes
unfolding asks marks_at
returns-in-Yes c = from_told _ _ _ _ c.requires _ _ (told_by _ _ c.in_ok-a.ensures (ap Ok c.in-Yes.is))

pub returns-in-No : goal.returns-in-No
unfolding asks marks_at
returns-in-No c = from_told _ _ _ _ c.requires _ _ (told_by _ _ c.in_ok-a.ensures (ap Ok c.in-No.is))

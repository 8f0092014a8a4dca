-- `sets::picks::largest` meets its contract: the two parts of Largest set. Assumes nothing.
use mathlib.Core.Bool.{true}
use Rattle.std.proofs.lemmas.Result.{err_from_is_err_and}
use Rattle.sets.specs.Asks.{asks_of}
use Rattle.sets.specs.SetLaws.{every_mark}
use Rattle.sets.specs.Judging.{largest_first_over, largest_then_over, largest_then}
use Rattle.sets.proofs.picks.largest.Goals as goal

pub returns-in_err-a : goal.returns-in_err-a
returns-in_err-a c =
    let p = err_from_is_err_and c.from_residual.result c.from_residual.ensures.1 in
    rw p.1 (largest_first_over (asks_of c.args.of.now) _ _ _ (every_mark _ _ true c.all.ensures c.args.of.now.placed.k_in) c.in_err-a.ensures)

pub returns-in_err-r : goal.returns-in_err-r
returns-in_err-r c =
    let p = err_from_is_err_and c.from_residual-in_err-r.result c.from_residual-in_err-r.ensures.1 in
    rw p.1 (largest_then_over (asks_of c.args.of.now) _ _ _ (every_mark _ _ true c.all.ensures c.args.of.now.placed.k_in) _ c.in_ok-a.ensures c.in_err-r.ensures)

pub returns : goal.returns
returns c = largest_then (asks_of c.args.of.now) _ _ _ (every_mark _ _ true c.all.ensures c.args.of.now.placed.k_in) _ c.in_ok-a.ensures _ c.in_ok-r.ensures

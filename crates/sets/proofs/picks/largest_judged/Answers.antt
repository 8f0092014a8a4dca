-- `sets::picks::largest_judged` meets its contract. Assumes nothing.
use Rattle.std.proofs.lemmas.Result.{err_from_is_err_and}
use Rattle.sets.specs.Asks.{asks_of}
use Rattle.sets.specs.Judging.{kept_over, from_kept}
use Rattle.sets.proofs.picks.largest_judged.Goals as goal

pub returns-in_err-x : goal.returns-in_err-x
returns-in_err-x c =
    let p = err_from_is_err_and c.from_residual.result c.from_residual.ensures.1 in
    rw p.1 (kept_over (asks_of c.args.of.now) _ _ c.in_err-x.ensures)

pub returns : goal.returns
returns c = from_kept _ _ _ _ _ _ c.in_ok-x.ensures.0 c.judge.ensures

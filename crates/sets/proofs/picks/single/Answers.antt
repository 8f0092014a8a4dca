-- `sets::picks::single` meets its contract: each return is one way the call ends. Assumes nothing.
use Rattle.std.proofs.lemmas.Result.{err_from_is_err_and}
use Rattle.laws.specs.Basics.{true_of_not, false_of_not}
use Rattle.sets.specs.Asks.{asks_of}
use Rattle.sets.specs.Single.{single_spent, single_none, single_then_spent, single_some}
use Rattle.sets.proofs.picks.single.Goals as goal

pub returns-in_err-b : goal.returns-in_err-b
returns-in_err-b c =
    let p = err_from_is_err_and c.from_residual.result c.from_residual.ensures.1 in
    rw p.1 (single_spent (asks_of c.args.of.now) _ _ c.in_err-b.ensures)

pub returns-then-not-b : goal.returns-then-not-b
returns-then-not-b c = single_none (asks_of c.args.of.now) _ _ _ c.in_ok-b.ensures (false_of_not _ c.if-not-b.true)

pub returns-in_err-r : goal.returns-in_err-r
returns-in_err-r c =
    let p = err_from_is_err_and c.from_residual-in_err-r.result c.from_residual-in_err-r.ensures.1 in
    rw p.1 (single_then_spent (asks_of c.args.of.now) _ _ _ c.in_ok-b.ensures (true_of_not _ c.if-not-b.false) c.in_err-r.ensures)

pub returns : goal.returns
returns c = single_some (asks_of c.args.of.now) _ _ _ c.in_ok-b.ensures (true_of_not _ c.if-not-b.false) _ c.in_ok-r.ensures

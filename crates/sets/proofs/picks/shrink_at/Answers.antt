-- `sets::picks::shrink_at` meets its contract: each return is one law of the shrinking. Assumes nothing.
use Rattle.std.proofs.lemmas.Result.{err_from_is_err_and}
use Rattle.sets.specs.Asks.{asks_of}
use Rattle.sets.specs.SetLaws.{has_on}
use Rattle.sets.specs.Shrinking.{shrink_skip, shrink_spent, shrink_kept, shrink_became}
use Rattle.sets.proofs.picks.shrink_at.Goals as goal

pub returns-then-not-done-q : goal.returns-then-not-done-q
returns-then-not-done-q c = shrink_skip (asks_of c.args.of.now) _ _ _ _ c.requires.q_lt_k c.args.done c.requires.shrunk_upto (has_on _ _ _ _ c.requires.q_lt_k c.if-not-done-q.true)

pub returns-in_err-x : goal.returns-in_err-x
returns-in_err-x c =
    let p = err_from_is_err_and c.from_residual.result c.from_residual.ensures.1 in
    rw p.1
    (shrink_spent (asks_of c.args.of.now) _ _ _ _ c.requires.q_lt_k c.args.done c.requires.shrunk_upto (has_on _ _ _ _ c.requires.q_lt_k c.if-not-done-q.false) c.in_err-x.ensures)

pub returns-then-x : goal.returns-then-x
returns-then-x c = shrink_became (asks_of c.args.of.now) _ _ _ _ c.requires.q_lt_k c.args.done c.requires.shrunk_upto (has_on _ _ _ _ c.requires.q_lt_k c.if-not-done-q.false) _ c.in_ok-x.ensures c.if-x.true

pub returns : goal.returns
returns c = shrink_kept (asks_of c.args.of.now) _ _ _ _ c.requires.q_lt_k c.args.done c.requires.shrunk_upto (has_on _ _ _ _ c.requires.q_lt_k c.if-not-done-q.false) _ c.in_ok-x.ensures c.if-x.false

-- `sets::questions::smaller_at` meets its contract: each return is one way the judged set answers. Assumes nothing.
use Rattle.std.specs.Prelude.{Ok}
use Rattle.std.proofs.lemmas.Result.{err_from_is_err_and}
use Rattle.sets.specs.Asks.{asks_of}
use Rattle.search.specs.declared.Answer.TheVariants.{Yes, No}
use Rattle.sets.specs.ListingFound.{tells_bounded}
use Rattle.sets.specs.ListingForms.{smaller_spent, smaller_told}
use Rattle.sets.proofs.questions.smaller_at.Goals as goal

pub returns-in_err-x : goal.returns-in_err-x
returns-in_err-x c =
    let p = err_from_is_err_and c.from_residual.result c.from_residual.ensures.1 in
    rw p.1 (smaller_spent (asks_of c.args.of.now) c.args.of.now.problem.k _ _ _ c.in_err-x.ensures)

pub returns-then-x : goal.returns-then-x
returns-then-x c = tells_bounded _ _ (Ok (Yes c.in_ok-x.x.used)) (smaller_told _ _ _ _ _ _ c.in_ok-x.ensures _ c.if-x.true)

pub returns : goal.returns
returns c = tells_bounded _ _ (Ok (No c.in_ok-x.x.used)) (smaller_told _ _ _ _ _ _ c.in_ok-x.ensures _ c.if-x.false)

-- `told::refusals::put_clause_place` meets its contract: by the kind. Assumes nothing.
use Rattle.std.proofs.Common.{arith, sym, ◌≡◌}
use Rattle.std.proofs.lemmas.Grind.{common_steps}
use Rattle.text.specs.Ascii.{ascii}
use Rattle.text.specs.Filled.{filled}
use Rattle.text.specs.Pages.{puts_is}
use Rattle.told.specs.Refusals.{clause_place}
use Rattle.told.proofs.refusals.put_clause_place.Goals as goal

pub returns-in-2 : goal.returns-in-2
unfolding clause_place
returns-in-2 c = rw c.in-2.is c.put_filled.ensures

pub returns-in-3 : goal.returns-in-3
unfolding clause_place
returns-in-3 c = rw c.in-3.is c.put_filled-in-3.ensures

pub returns-in-4 : goal.returns-in-4
unfolding clause_place
returns-in-4 c = rw c.in-4.is c.put_filled-in-4.ensures

pub returns-in-5 : goal.returns-in-5
unfolding clause_place
returns-in-5 c = rw c.in-5.is c.put_filled-in-5.ensures

pub returns-in_default : goal.returns-in_default
unfolding clause_place
returns-in_default c =
    let e : clause_place c.args.kind c.args.position ≡ filled (ascii ", in a record of kind #: ") c.args.kind 0 0 = grind (arith, common_steps) in
    puts_is (sym e) c.put_filled-in_default.ensures

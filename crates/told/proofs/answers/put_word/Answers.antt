-- `told::answers::put_word` meets its contract: by the number. Assumes nothing.
use Rattle.std.proofs.Common.{arith, sym, ◌≡◌}
use Rattle.std.proofs.lemmas.Grind.{common_steps}
use Rattle.text.specs.Ascii.{ascii}
use Rattle.text.specs.Pages.{puts_is}
use Rattle.told.specs.Answers.{word}
use Rattle.told.proofs.answers.put_word.Goals as goal

pub returns-in-0 : goal.returns-in-0
unfolding word
returns-in-0 c = rw c.in-0.is c.put_all.ensures

pub returns-in-10 : goal.returns-in-10
unfolding word
returns-in-10 c = rw c.in-10.is c.put_all-in-10.ensures

pub returns-in-11 : goal.returns-in-11
unfolding word
returns-in-11 c = rw c.in-11.is c.put_all-in-11.ensures

pub returns-in-12 : goal.returns-in-12
unfolding word
returns-in-12 c = rw c.in-12.is c.put_all-in-12.ensures

pub returns-in_default : goal.returns-in_default
unfolding word
returns-in_default c =
    let e : word c.args.number ≡ ascii "refused" = grind (arith, common_steps) in
    puts_is (sym e) c.put_all-in_default.ensures

-- `told_lemmas::lemmas::put_clause` meets its contract: a clause of no literals, or of some. Assumes nothing.
use Rattle.text.specs.Pages.{puts_is}
use Rattle.told_lemmas.specs.LemmaLaws.{clause_none, clause_some}
use Rattle.told_lemmas.proofs.lemmas.put_clause.Goals as goal

pub returns-then-count-eq0 : goal.returns-then-count-eq0
returns-then-count-eq0 c =
    let a = c.args in
    puts_is (clause_none a.file.now a.from a.count c.if-count-eq0.true) c.put_all.ensures

pub returns : goal.returns
returns c =
    let a = c.args in
    puts_is (clause_some a.file.now a.from a.count c.if-count-eq0.false) c.put_literals.ensures

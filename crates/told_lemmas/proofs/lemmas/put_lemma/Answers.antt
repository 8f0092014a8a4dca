-- `told_lemmas::lemmas::put_lemma` meets its contract: the record at the position holds its clause. Assumes nothing.
use Prim.Native.Nat.{ℕ, ◌+◌, ◌/◌, ◌≤◌}
use mathlib.Core.Path.{ap, ◌∙◌}
use native.Mathlib.Omega.{arith}
use lib.ListN.{length}
use Rattle.meaning.specs.File.{two_at, literals}
use Rattle.format.specs.Section.{next_record, clause_at}
use Rattle.text.specs.Pages.{puts_is}
use Rattle.told_lemmas.specs.LemmaLaws.{inside_fewer, lemma_there, lemma_missing}
use Rattle.told_lemmas.proofs.lemmas.put_lemma.Goals.{After-record_on-start}
use Rattle.told_lemmas.proofs.lemmas.put_lemma.Goals as goal

-- the lemma's record lies inside the file
fits : (c : After-record_on-start)
    → c.record_on-start.result + 4 + two_at c.args.file.now c.record_on-start.result
    ≤ length c.args.file.now
unfolding next_record
fits c = c.record_on-start.ensures.1

pub returns-then-p-position : goal.returns-then-p-position
returns-then-p-position c =
    let a = c.args in
    puts_is (lemma_missing a.file.now a.p a.position c.if-p-position.true) c.put_all.ensures

pub record_on-start-requires : goal.record_on-start-requires
record_on-start-requires c =
    let a = c.args in
    inside_fewer a.file.now a.p.lemmas_at a.position a.p.k (omega arith) c.requires.lemmas_in

pub overflow_add-start : goal.overflow_add-start
overflow_add-start c = omega (arith, fits (goal.at.overflow_add-start c).After-record_on-start)

pub two_at-requires : goal.two_at-requires
two_at-requires c = omega (arith, fits (goal.at.two_at-requires c).After-record_on-start)

pub put_clause-requires : goal.put_clause-requires
put_clause-requires c = omega (arith, fits (goal.at.put_clause-requires c).After-record_on-start, c.two_at.ensures.0)

pub returns : goal.returns
unfolding clause_at
returns c =
    let a = c.args in
    let start = c.record_on-start in
    puts_is
    (lemma_there a.file.now a.p a.position c.if-p-position.false _
    (ap (λ (n : ℕ). literals a.file.now (start.result + 4) (n / 2)) c.two_at.ensures.0 ∙ start.ensures.0))
    c.put_clause.ensures

-- `faults::wrong::number_fault` meets its contract: the kind of the record around the place, and its position. Assumes nothing.
use Rattle.std.proofs.Common.{inl, inr}
use borrow.Author.Tests.{eq-eqb, ne_eqb}
use Rattle.meaning.specs.File.{lemmas_most}
use Rattle.faults.specs.Faults.{number_fault}
use Rattle.faults.proofs.wrong.number_fault.Goals as goal

pub returns-then-s-eq-LEMMAS_MOST : goal.returns-then-s-eq-LEMMAS_MOST
unfolding number_fault
returns-then-s-eq-LEMMAS_MOST c =
    let s = c.around-s in
    rw (← s.ensures, eq-eqb s.result.kind 5 c.if-s-eq5.true, eq-eqb s.result.position lemmas_most c.if-s-eq-LEMMAS_MOST.true)

pub returns-else-s-eq5 : goal.returns-else-s-eq5
unfolding number_fault
returns-else-s-eq5 c =
    let s = c.around-s in
    elim c.else-s-eq5.either [
      | inl e ↦ rw (← s.ensures, eq-eqb s.result.kind 5 e.0, ne_eqb s.result.position lemmas_most e.1)
      | inr e ↦ rw (← s.ensures, ne_eqb s.result.kind 5 e)
    ]

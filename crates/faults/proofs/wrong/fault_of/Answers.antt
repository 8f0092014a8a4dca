-- `faults::wrong::fault_of` meets its contract: by the number. Assumes nothing.
use Rattle.faults.specs.Places.{kind_there}
use Rattle.faults.specs.Faults.{fault_of}
use Rattle.std.proofs.Common.{arith}
use Rattle.std.proofs.lemmas.Grind.{common_steps}
use Rattle.faults.proofs.wrong.fault_of.Goals as goal

pub returns-in-1 : goal.returns-in-1
unfolding fault_of
returns-in-1 c = rw c.in-1.is

pub returns-in-2 : goal.returns-in-2
unfolding fault_of
returns-in-2 c = rw c.in-2.is c.cut.ensures

pub returns-in-3 : goal.returns-in-3
unfolding fault_of kind_there
returns-in-3 c = rw (c.in-3.is, ← c.word_on.ensures.0)

pub returns-in-4 : goal.returns-in-4
unfolding fault_of kind_there
returns-in-4 c = rw (c.in-4.is, ← c.word_at.ensures.0, ← c.word_on-in-4.ensures.0)

pub returns-in-5 : goal.returns-in-5
unfolding fault_of
returns-in-5 c = rw (c.in-5.is, ← c.word_on-in-5.ensures.0, ← c.word_on-in-5-2.ensures.0)

pub returns-in-6 : goal.returns-in-6
unfolding fault_of
returns-in-6 c = rw c.in-6.is c.literal_fault.ensures

pub returns-in-7 : goal.returns-in-7
unfolding fault_of
returns-in-7 c = rw c.in-7.is c.number_fault.ensures

pub returns-in-8 : goal.returns-in-8
unfolding fault_of
returns-in-8 c = rw (c.in-8.is, ← c.left_from.ensures)

pub returns-in_default : goal.returns-in_default
unfolding fault_of
returns-in_default c = grind (arith, common_steps)

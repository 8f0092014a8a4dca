-- `faults::wrong::unnamed` meets its contract: by the class. Assumes nothing.
use Rattle.std.proofs.Common.{ap, inl, inr}
use borrow.Author.Tests.{le-leb, lt-leb}
use Rattle.faults.specs.Faults.{unnamed}
use Rattle.faults.specs.declared.wrong.Fault.TheVariants.{NextValue}
use Rattle.faults.proofs.wrong.unnamed.Goals as goal

pub returns-in-Nothing : goal.returns-in-Nothing
unfolding unnamed
returns-in-Nothing c = elim c.in-Nothing.is [ inl e ↦ rw e | inr e ↦ rw e ]

pub returns-in-Present : goal.returns-in-Present
unfolding unnamed
returns-in-Present c = rw (c.in-Present.is, le-leb _ _ c.if-v-n.true) (ap (NextValue c.args.v) c.saturating_sub.ensures)

pub returns-in-Present-2 : goal.returns-in-Present-2
unfolding unnamed
returns-in-Present-2 c = rw (c.in-Present.is, lt-leb _ _ c.if-v-n.false)

pub returns-in-Every : goal.returns-in-Every
unfolding unnamed
returns-in-Every c = rw c.in-Every.is

-- `met` meets its contract.
use mathlib.Core.Path.{subst}
use Rattle.format.specs.Forms.{literal_of}
use Rattle.passes.specs.Forms.{entries, tally_at}
use Rattle.passes.specs.Places.{OneBelow}
use Rattle.passes.proofs.TallyLaws.{met_nothing, met_failed}
use Rattle.passes.proofs.clauses.met.Goals as goal

pub set_true-requires : goal.set_true-requires
set_true-requires c = subst OneBelow c.in-One.is c.requires

pub returns-in-Holds : goal.returns-in-Holds
returns-in-Holds c = rw c.in-Holds.is (met_nothing (tally_at c.args.t (entries c.args.values.now)))

pub returns-in-Fails : goal.returns-in-Fails
returns-in-Fails c = rw c.in-Fails.is (met_failed (tally_at c.args.t (entries c.args.values.now)))

pub returns-in-One : goal.returns-in-One
returns-in-One c = rw (c.in-One.is, c.set_true.ensures) (c.forced.ensures (literal_of c.in-One.l) (entries c.args.values.now))

pub returns-in-More : goal.returns-in-More
returns-in-More c = rw c.in-More.is (c.opened.ensures (entries c.args.values.now))

-- `faults::wrong::class_there` meets its contract: by the table of kinds, past whose end there is none. Assumes nothing.
use mathlib.Core.Path.{sym, ap}
use lib.ListN.{get_or-eq_default}
use Rattle.meaning.specs.File.{Kind, kind_row, kind_table, no_kind}
use Rattle.faults.proofs.wrong.class_there.Goals as goal

pub returns-then-kind-ge7 : goal.returns-then-kind-ge7
unfolding kind_row kind_table no_kind
returns-then-kind-ge7 c = ap (λ (k : Kind). k.class) (sym (get_or-eq_default kind_table no_kind {n = c.args.kind} c.if-kind-ge7.true))

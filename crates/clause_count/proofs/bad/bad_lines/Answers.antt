-- `clause_count::bad::bad_lines` meets its contract. Assumes nothing.
use Rattle.clause_count.specs.Bad.{bad_some, bad_none}
use Rattle.clause_count.proofs.bad.bad_lines.Goals as goal

pub returns-then-p-gt0 : goal.returns-then-p-gt0
returns-then-p-gt0 c = bad_some _ c.if-p-gt0.true

pub returns : goal.returns
returns c = bad_none _ c.if-p-gt0.false

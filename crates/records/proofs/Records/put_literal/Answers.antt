-- For each sign.
use Rattle.meaning.specs.Built.{literal_if}
use Rattle.meaning.specs.Filed.{literal_bytes}
use Rattle.records.proofs.Records.put_literal.Goals as goal

pub returns-then-negative : goal.returns-then-negative
unfolding literal_bytes literal_if
returns-then-negative c = rw c.if-negative.true c.put_two.ensures

pub returns-else-negative : goal.returns-else-negative
unfolding literal_bytes literal_if
returns-else-negative c = rw c.if-negative.false c.put_two-else-negative.ensures

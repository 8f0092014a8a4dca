-- A byte, and one behind it.
use mathlib.Core.Path.{refl}
use Rattle.meaning.specs.Filed.{two}
use Rattle.records.specs.Put.{put_pair}
use Rattle.records.proofs.Records.put_two.Goals as goal

pub returns : goal.returns
unfolding two
returns c = record { end = refl; made = put_pair _ _ _ _ c.requires.at_in_bounds; lent = refl }

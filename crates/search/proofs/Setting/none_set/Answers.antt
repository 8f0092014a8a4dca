-- `Setting::none_set` meets its contract: the entries are all 0.
use Rattle.passes.proofs.EntryLaws.{entries_blank}
use Rattle.search.proofs.Setting.none_set.Goals as goal

pub returns : goal.returns
returns c = entries_blank 512

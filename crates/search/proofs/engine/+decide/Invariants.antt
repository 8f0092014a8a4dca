-- `decide` ends by the number of entries that are unset: each try sets one.
use Rattle.laws.specs.Setting.{unset_count}
use Rattle.search.specs.Forms.{setting_of}
use Rattle.search.proofs.engine.+decide.Given as goal

abbrev pub decreases-decide : goal.decreases-decide
decreases-decide l = unset_count (setting_of l.start)

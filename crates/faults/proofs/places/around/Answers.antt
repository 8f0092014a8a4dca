-- `faults::places::around` meets its contract: the kind where it starts, and its position. Assumes nothing.
use Rattle.faults.specs.Places.{kind_there, around}
use Rattle.faults.proofs.places.around.Goals as goal

pub returns : goal.returns
unfolding around kind_there
returns c = rw (← c.start_around-s.ensures, ← c.word_on.ensures.0)

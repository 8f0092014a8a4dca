-- `sets::picks::shrink` meets its contract: the positions before q are done. Assumes nothing.
use Rattle.sets.specs.Asks.{marks_at, asks_of}
use Rattle.sets.specs.Shrinking.{ShrunkUpto}
use Rattle.sets.proofs.picks.shrink.Given as goal

abbrev pub invariant-loop-q : goal.invariant-loop-q
invariant-loop-q l = ShrunkUpto (asks_of l.of) l.of.problem.k l.left (marks_at l.of.problem.k l.s) l.q l.r

-- `sets::rounds::sift` meets its contract: the positions before d are done. Assumes nothing.
use Rattle.sets.specs.Forms.{DoneUpto}
use Rattle.sets.proofs.rounds.sift.Given as goal

abbrev pub invariant-loop-d : goal.invariant-loop-d
invariant-loop-d l = DoneUpto l.of.file.now l.of.problem l.s l.way l.left l.d l.r

-- `first_offence` goes from literal to literal. The invariant: as many are passed as `i` says, and what is left adds to them.
use Prim.Native.Nat.{◌+◌, ◌-◌, ◌*◌}
use mathlib.Core.Path.{◌≡◌}
use Rattle.meaning.specs.File.{before_offence, literals, names}
use Rattle.format.specs.Forms.{class_of}
use Rattle.problem.proofs.rules.first_offence.Given as goal

abbrev pub invariant-loop-i : goal.invariant-loop-i
invariant-loop-i l = before_offence (names (class_of l.class) l.n l.m) (literals l.file l.at l.count)
    ≡ l.i + before_offence (names (class_of l.class) l.n l.m) (literals l.file (l.at + 2 * l.i) (l.count - l.i))

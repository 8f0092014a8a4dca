use Prim.Native.Nat.{ℕ}
use mathlib.Core.Path.{◌≡◌}
use mathlib.Core.List.{◌++◌}
use Rattle.lines.specs.Numbers.{worth, capped}
use Rattle.sections.specs.Lists.{variables_of}
use Rattle.sections.specs.Reading.{Going}
use Rattle.sections.proofs.read.read_section.Given as goal

abbrev pub invariant-loop-i : goal.invariant-loop-i
invariant-loop-i l = (n : ℕ) → l.count ≡ capped n → Going l.text l.form l.judged (worth l.m) (variables_of l.text l.inputs ++ variables_of l.text l.latches) l.at n l.p l.i

-- The refusals' numbers, which are the paper's.
use Rattle.std.specs.Prelude.{ℕ}
use Rattle.meaning.specs.File
use Rattle.problem.specs.declared.refusal.Rule.{Rule}
use Rattle.problem.specs.declared.refusal.Rule.TheVariants.{TooLong, Short, Kind, Length, Counts, Literal, TooMany, Trailing}
use Rattle.problem.specs.declared.refusal.Refusal.{Refusal}

abbrev pub number_of : Rule → ℕ
number_of TooLong = 1
number_of Short = 2
number_of Kind = 3
number_of Length = 4
number_of Counts = 5
number_of Literal = 6
number_of TooMany = 7
number_of Trailing = 8

-- a refusal, as the definition has it
abbrev pub refusal_of : Refusal → File.Refusal
refusal_of r = record { number = number_of r.rule; place = r.place }

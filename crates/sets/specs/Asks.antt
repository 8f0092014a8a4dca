-- How the jobs ask: every question of a call is about the problem that stands in its file, and a set is the first k marks of an array.
use Rattle.std.specs.Prelude.{ℕ, List, take}
use Rattle.meaning.specs.Meaning
use Rattle.meaning.specs.Rules.{Question, Answer, asked}
use Rattle.format.specs.Section.{problem_at}
use Rattle.format.specs.declared.Problem.{Problem}
use Rattle.search.specs.declared.Marks.{Marks}
use Rattle.search.specs.declared.asked.Asked.{Asked}

unfoldable pub marks_at : ℕ → Marks → Meaning.Marks
marks_at k s = take k s.on

unfoldable pub asks : List ℕ → Problem → Meaning.Marks → Question → Answer
asks file p = asked (problem_at file p)

-- the same by what is asked about: a problem and its file
abbrev pub marks_of : Asked → Marks → Meaning.Marks
marks_of of s = marks_at of.problem.k s

abbrev pub asks_of : Asked → Meaning.Marks → Question → Answer
asks_of of = asks of.file.now of.problem

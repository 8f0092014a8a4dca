-- Clauses that stand in a file, and what makes them safe to read there.
use Rattle.std.specs.Prelude.{ℕ, ◌+◌, ◌*◌, ◌≤◌, ◌<◌, List, map, length}
use Rattle.meaning.specs.File.{literals}
use Rattle.meaning.specs.Rules.{next}
use Rattle.laws.specs.Within.{ClauseWithin, Within}
use Rattle.format.specs.Forms.{literal_of}
use Rattle.format.specs.Section.{section, Inside}
use Rattle.meaning.specs.Clauses.{variable}
use Rattle.passes.specs.declared.Status.{Status}
use Rattle.passes.specs.declared.Status.TheVariants.{Holds, Fails, One, More}

-- so many literals lie inside the file, each of a variable up to 512
pub record Literals (file : List ℕ) (at count : ℕ) : Type 0 where
  pub inside : at + 2 * count ≤ length file
  pub within : ClauseWithin 512 (literals file at count)

-- so many records lie inside the file, each literal of a variable up to 512
pub record Records (file : List ℕ) (at count : ℕ) : Type 0 where
  pub inside : Inside file at count
  pub within : Within 512 (section file at count)

-- so many literals lie inside the file, each of a variable up to 512 with a number added
pub record Denials (file : List ℕ) (at count added : ℕ) : Type 0 where
  pub inside : at + 2 * count ≤ length file
  pub within : ClauseWithin 512 (map (next added) (literals file at count))

-- a literal that a clause forces has an entry in a setting
abbrev pub OneBelow : Status → Type 0
OneBelow Holds = Unit {0}
OneBelow Fails = Unit {0}
OneBelow (One l) = variable (literal_of l) < 513
OneBelow (More l) = Unit {0}

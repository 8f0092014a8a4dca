-- Clauses whose variables are of a sort, and problems whose every clause names those of its kind alone: what an accepted file gives (see
-- Named).
use Rattle.std.specs.Prelude.{ℕ, ◌+◌, ◌≤◌, ◌⊎◌, List, [], ◌∷◌}
use Rattle.meaning.specs.Clauses.{Clause, variable}
use Rattle.meaning.specs.Meaning.{Problem}
use Rattle.meaning.specs.Rules.{width}

-- every literal names a variable of a sort
abbrev pub ClauseOf : (ℕ → Type 0) → Clause → Type 0
ClauseOf P [] = Unit {0}
ClauseOf P (l ∷ c) = P (variable l) × ClauseOf P c

abbrev pub ClausesOf : (ℕ → Type 0) → List Clause → Type 0
ClausesOf P [] = Unit {0}
ClausesOf P (c ∷ cs) = ClauseOf P c × ClausesOf P cs

-- a variable in 1..most
abbrev pub UpTo : ℕ → ℕ → Type 0
UpTo most v = (1 ≤ v) × (v ≤ most)

abbrev pub ClauseWithin : ℕ → Clause → Type 0
ClauseWithin most c = ClauseOf (UpTo most) c

abbrev pub Within : ℕ → List Clause → Type 0
Within most cs = ClausesOf (UpTo most) cs

-- a variable of the present moment: 1..n, or 2n+1..2n+m
abbrev pub Present : ℕ → ℕ → ℕ → Type 0
Present n m v = UpTo n v ⊎ ((n + n + 1 ≤ v) × (v ≤ n + n + m))

-- Init and the lemmas speak of the state alone, Tr of every variable, Bad of every one but next values
pub record WellFormed (p : Problem) : Type 0 where
  pub init : Within p.n p.init
  pub tr : Within (width p) p.tr
  pub bad : ClausesOf (Present p.n p.m) p.bad
  pub lemmas : Within p.n p.lemmas

-- Where clauses stand in a file: sections of records one after another, read in place, and the problem that such places stand for.
use Rattle.std.specs.Prelude.{ℕ, zero, suc, ◌+◌, ◌/◌, ◌≤◌, List, [], ◌∷◌, length}
use Rattle.meaning.specs.Clauses.{Clause}
use Rattle.meaning.specs.Meaning
use Rattle.meaning.specs.File.{two_at, literals, file_most, n_most, m_most, clauses_most, lemmas_most}
use Rattle.laws.specs.Within.{WellFormed}
use Rattle.format.specs.declared.Problem.{Problem}

-- where the record after the one at a place starts
unfoldable pub next_record : List ℕ → ℕ → ℕ
next_record file at = at + 4 + two_at file at

-- the clause of the record at a place
unfoldable pub clause_at : List ℕ → ℕ → Clause
clause_at file at = literals file (at + 4) (two_at file at / 2)

-- the clauses of so many records, one after another from a place on
unfoldable pub section : List ℕ → ℕ → ℕ → List Clause
section file at zero = []
section file at (suc count) = clause_at file at ∷ section file (next_record file at) count

-- those records lie inside the file
abbrev pub Inside : List ℕ → ℕ → ℕ → Type 0
Inside file at zero = Unit {0}
Inside file at (suc count) = (next_record file at ≤ length file) × Inside file (next_record file at) count

-- the problem that the code's places in a file stand for
unfoldable pub problem_at : List ℕ → Problem → Meaning.Problem
problem_at file r =
    record {
      n = r.n;
      m = r.m;
      init = section file r.init.at r.init.count;
      tr = section file r.tr.at r.tr.count;
      bad = section file r.bad.at r.bad.count;
      lemmas = section file r.lemmas_at r.k;
    }

-- What the reader gives with an accepted file, and what every later room asks: the sections lie inside it, n, m and k are in their limits,
-- and every literal names a variable of its kind, so that no later code tests it again
pub record Placed (file : List ℕ) (r : Problem) : Type 0 where
  pub short : length file ≤ file_most
  pub n_in : r.n ≤ n_most
  pub m_in : r.m ≤ m_most
  pub k_in : r.k ≤ lemmas_most
  pub counts_in : r.init.count + r.tr.count + r.bad.count + r.k ≤ clauses_most
  pub init_in : Inside file r.init.at r.init.count
  pub tr_in : Inside file r.tr.at r.tr.count
  pub bad_in : Inside file r.bad.at r.bad.count
  pub lemmas_in : Inside file r.lemmas_at r.k
  pub well_formed : WellFormed (problem_at file r)

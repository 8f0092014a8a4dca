-- Where a question's clauses stand in a file, and what makes them safe to read there.
use Rattle.std.specs.Prelude.{ℕ, zero, suc, ◌+◌, ◌*◌, ◌≤◌, ◌≡◌, Bool, List, ◌++◌, map, take, length}
use Rattle.meaning.specs.Clauses.{Clause}
use Rattle.meaning.specs.Meaning.{at_marks}
use Rattle.meaning.specs.File.{literals}
use Rattle.meaning.specs.Rules.{denied, next, clauses, lemma}
use Rattle.format.specs.Section.{next_record, section, problem_at}
use Rattle.format.specs.declared.Problem.{Problem}
use Rattle.passes.specs.Places.{Records, Denials}
use Rattle.search.specs.declared.Parts.{Parts}
use Rattle.format.specs.declared.Section.{Section}
use Rattle.search.specs.declared.Question.{Question}
use Rattle.search.specs.Forms.{question_of}

-- the clauses of a question, as they stand in a file
unfoldable pub parts_clauses : List ℕ → List Bool → Parts → List Clause
parts_clauses file on q =
    section file q.first.at q.first.count
    ++ (at_marks on (section file q.lemmas.at q.lemmas.count)
    ++ (section file q.last.at q.last.count
    ++ denied (map (next q.added) (literals file q.denied.at q.denied.count))))

-- they can be read there
pub record Sound (file : List ℕ) (q : Parts) : Type 0 where
  pub first : Records file q.first.at q.first.count
  pub lemmas : Records file q.lemmas.at q.lemmas.count
  pub few : q.lemmas.count ≤ 128
  pub last : Records file q.last.at q.last.count
  pub deny : Denials file q.denied.at q.denied.count q.added

-- where the record so many records on from a place starts
unfoldable pub place : List ℕ → ℕ → ℕ → ℕ
place file at zero = at
place file at (suc d) = place file (next_record file at) d

-- the literals of the lemma of a position stand there
pub record LemmaAt (file : List ℕ) (p : Problem) (d : ℕ) (r : Section) : Type 0 where
  pub inside : r.at + 2 * r.count ≤ length file
  pub there : literals file r.at r.count ≡ lemma (problem_at file p) d

-- the parts are those of a question, whichever set it is asked of
pub record Asks (file : List ℕ) (p : Problem) (q : Question) (r : Parts) : Type 0 where
  pub sound : Sound file r
  pub same : (on : List Bool) → parts_clauses file on r ≡ clauses (problem_at file p) (take p.k on) (question_of q)

-- What the reader knows between two records, as the definition has it, and where the clauses of each kind stand so far.
use Rattle.std.specs.Prelude.{Result, Ok, Err, ℕ, ◌+◌, ◌≤◌, ◌≡◌, false, cond, List, length, ltb, eqb}
use Rattle.std.proofs.Math.Option.{none, some}
use Rattle.meaning.specs.File.{Reader, Rule, first_wrong, past, kind_at, body_length, body_at, kind_wrong, length_wrong, row_at, n_most, m_most, clauses_most}
use Rattle.format.specs.declared.Problem.{Problem}
use Rattle.format.specs.declared.Section.{Section}
use Rattle.problem.specs.declared.rules.Cursor.{Cursor}
use Rattle.problem.specs.declared.refusal.Refusal.{Refusal}
use Rattle.problem.specs.declared.sections.Sections.{Sections}
use Rattle.problem.specs.Refusals.{refusal_of}

-- what is known where a record must start
abbrev pub reader_of : Cursor → Reader
reader_of w =
    record {
      at = w.at;
      before = w.before;
      of_kind = w.of_kind;
      clauses = w.clauses;
      n = w.n;
      m = w.m;
    }

-- what every record finds: it starts inside the file, and the counts so far are in their limits
pub record Sane (file : List ℕ) (w : Reader) : Type 0 where
  pub at : w.at ≤ length file
  pub of_kind : w.of_kind ≤ clauses_most
  pub clauses : w.clauses ≤ clauses_most
  pub n : w.n ≤ n_most
  pub m : w.m ≤ m_most

-- a record whose head was read, and whose kind and length are right
pub record Headed (file : List ℕ) (w : Reader) (len kind : ℕ) : Type 0 where
  pub len_is : len ≡ body_length file w
  pub kind_is : kind ≡ kind_at file w
  pub kind_right : kind_wrong w.before (kind_at file w) ≡ false
  pub length_right : length_wrong (row_at file w) (body_length file w) ≡ false
  pub inside : body_at w + body_length file w ≤ length file

-- what the rules of a record come to: the refusal of the first that is broken, or what is known after it
abbrev pub Stepped : List ℕ → Reader → List Rule → Result Cursor Refusal → Type 0
Stepped file w rules (Ok next) = (first_wrong rules ≡ none) × (reader_of next ≡ past file w)
Stepped file w rules (Err r) = first_wrong rules ≡ some (refusal_of r)

-- the records of a kind after one more record: none yet of a later kind, one more of its own
unfoldable pub section_past : ℕ → ℕ → ℕ → Section → Section
section_past own kind next s =
    cond (ltb kind own) (record { at = next; count = 0 })
    (cond (eqb kind own) (record { at = s.at; count = s.count + 1 }) s)

unfoldable pub sections_past : ℕ → ℕ → Sections → Sections
sections_past kind next s =
    record {
      init = section_past 2 kind next s.init;
      tr = section_past 3 kind next s.tr;
      bad = section_past 4 kind next s.bad;
      lemmas = section_past 5 kind next s.lemmas;
    }

unfoldable pub no_section : Section
no_section = record { at = 0; count = 0 }

unfoldable pub no_sections : Sections
no_sections = record { init = no_section; tr = no_section; bad = no_section; lemmas = no_section }

-- so few that one more is a number
pub record Few (s : Sections) : Type 0 where
  pub init : s.init.count ≤ clauses_most
  pub tr : s.tr.count ≤ clauses_most
  pub bad : s.bad.count ≤ clauses_most
  pub lemmas : s.lemmas.count ≤ clauses_most

-- the problem whose clauses stand there
abbrev pub problem_from : Sections → ℕ → ℕ → Problem
problem_from s n m =
    record {
      n = n;
      m = m;
      k = s.lemmas.count;
      init = s.init;
      tr = s.tr;
      bad = s.bad;
      lemmas_at = s.lemmas.at;
    }

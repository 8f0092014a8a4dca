-- A problem within the limits, written as a file, is read back as that problem.
use Rattle.std.specs.Prelude.{ℕ, suc, ◌+◌, ◌≤◌, ◌≡◌, drop}
use Rattle.std.proofs.Common.{zero-add, arith, ap, subst, length-append, le-ltb}
use Rattle.std.proofs.Math.Path.{refl}
use mathlib.Core.List.{List, [], ◌∷◌, ◌++◌, append_assoc, append-nil}
use Rattle.std.proofs.Math.ListN.{length}
use Rattle.meaning.specs.Meaning.{Problem}
use Rattle.meaning.specs.Rules.{width}
use Rattle.meaning.specs.File.{Reader, Span, records, accepted, read, reading_of, walked, at_start, past, problem_of, clauses_of, of_kind, keep_if, kind_row, kind_table, no_kind, file_most}
use Rattle.meaning.specs.Filed.{two, record_bytes, clause_records, file_of}
use Rattle.laws.specs.Within.{Within}
use Rattle.laws.specs.Range.{within_wider, present_within}
use Rattle.laws.specs.Accepted.{Chain}
use Rattle.filed.specs.Fits.{Fits}
use Rattle.filed.specs.Bytes.{variable_most, after}
use Rattle.filed.specs.Length.{records_least, file_length}
use Rattle.filed.specs.Passing.{Past}
use Rattle.filed.specs.Sections.{spans, spans_length, section_chain, section_clauses, same_spans, other_spans, of_kind_append, chain_walk}
use Rattle.filed.specs.Ends.{init_kind, tr_kind, bad_kind, lemma_kind, state_names, every_names, present_names, past_later, none_of_later, n_here, m_here, first_past, first_chain, end_chain}

-- what stands after the first record, and after each kind of clauses
from_lemmas : Problem → List ℕ
from_lemmas p = clause_records 5 p.lemmas ++ record_bytes 6 []

from_bad : Problem → List ℕ
from_bad p = clause_records 4 p.bad ++ from_lemmas p

from_tr : Problem → List ℕ
from_tr p = clause_records 3 p.tr ++ from_bad p

from_init : Problem → List ℕ
from_init p = clause_records 2 p.init ++ from_tr p

file_grouped : (p : Problem) → file_of p ≡ record_bytes 1 (two p.n ++ two p.m) ++ from_init p
unfolding file_of from_init from_tr from_bad from_lemmas
file_grouped p = simp append_assoc

-- where each kind starts
tr_at : Problem → ℕ
tr_at p = 8 + length (clause_records 2 p.init)

bad_at : Problem → ℕ
bad_at p = tr_at p + length (clause_records 3 p.tr)

lemmas_at : Problem → ℕ
lemmas_at p = bad_at p + length (clause_records 4 p.bad)

end_at : Problem → ℕ
end_at p = lemmas_at p + length (clause_records 5 p.lemmas)

-- the spans of the file
end_spans : Problem → List Span
end_spans p = record { kind = 6; start = end_at p + 4; len = 0 } ∷ []

lemma_spans : Problem → List Span
lemma_spans p = spans 5 (lemmas_at p) p.lemmas ++ end_spans p

bad_spans : Problem → List Span
bad_spans p = spans 4 (bad_at p) p.bad ++ lemma_spans p

tr_spans : Problem → List Span
tr_spans p = spans 3 (tr_at p) p.tr ++ bad_spans p

file_spans : Problem → List Span
file_spans p = record { kind = 1; start = 4; len = 4 } ∷ (spans 2 8 p.init ++ tr_spans p)

-- there are fewer records than bytes
few_spans : (p : Problem) → length (file_spans p) ≤ suc (length (file_of p))
unfolding file_spans tr_spans bad_spans lemma_spans end_spans
few_spans p =
    simp (length-append, spans_length)
    (omega (
      arith,
      file_length p,
      records_least 2 p.init,
      records_least 3 p.tr,
      records_least 4 p.bad,
      records_least 5 p.lemmas,
    ))

module _ (p : Problem) (f : Fits p) where
  init_here : drop 8 (file_of p) ≡ clause_records 2 p.init ++ from_tr p
  unfolding two record_bytes from_init
  init_here = after (file_of p) 0 (record_bytes 1 (two p.n ++ two p.m)) (from_init p) 8 refl (file_grouped p)

  tr_here : drop (tr_at p) (file_of p) ≡ clause_records 3 p.tr ++ from_bad p
  unfolding tr_at from_tr
  tr_here = after (file_of p) 8 (clause_records 2 p.init) (from_tr p) (tr_at p) refl init_here

  bad_here : drop (bad_at p) (file_of p) ≡ clause_records 4 p.bad ++ from_lemmas p
  unfolding bad_at from_bad
  bad_here = after (file_of p) (tr_at p) (clause_records 3 p.tr) (from_bad p) (bad_at p) refl tr_here

  lemmas_here : drop (lemmas_at p) (file_of p) ≡ clause_records 5 p.lemmas ++ record_bytes 6 []
  unfolding lemmas_at from_lemmas
  lemmas_here = after (file_of p) (bad_at p) (clause_records 4 p.bad) (from_lemmas p) (lemmas_at p) refl bad_here

  end_here : drop (end_at p) (file_of p) ≡ record_bytes 6 []
  unfolding end_at
  end_here = after (file_of p) (lemmas_at p) (clause_records 5 p.lemmas) (record_bytes 6 []) (end_at p) refl lemmas_here

  -- no variable is too large for two bytes
  init_within : Within variable_most p.init
  init_within = within_wider p.n variable_most (omega (arith, f.n_most)) p.init f.named.init

  tr_within : Within variable_most p.tr
  unfolding width
  tr_within = within_wider (width p) variable_most (omega (arith, f.n_most, f.m_most)) p.tr f.named.tr

  bad_within : Within variable_most p.bad
  bad_within =
      within_wider (p.n + p.n + p.m) variable_most (omega (arith, f.n_most, f.m_most)) p.bad
      (present_within p.n p.m p.bad f.named.bad)

  lemmas_within : Within variable_most p.lemmas
  lemmas_within = within_wider p.n variable_most (omega (arith, f.n_most)) p.lemmas f.named.lemmas

  -- the records from each kind on
  lemma_chain : (w : Reader) → Past 4 (lemmas_at p) (length p.init + length p.tr + length p.bad) p.n p.m w
      → Chain (file_of p) w (lemma_spans p)
  unfolding lemma_spans end_spans end_at kind_row kind_table no_kind
  lemma_chain w z =
      let clauses = length p.init + length p.tr + length p.bad in
      section_chain (file_of p) 5 p.n p.m lemma_kind (record_bytes 6 []) p.lemmas (lemmas_at p) clauses (end_spans p)
      lemmas_here f.lemmas_short (state_names p.n p.m p.lemmas f.named.lemmas) lemmas_within f.clauses
      (λ w' z'. end_chain (file_of p) (end_at p) (clauses + length p.lemmas) p.n p.m w' z' end_here)
      w (past_later 4 5 (lemmas_at p) clauses p.n p.m (omega arith) w z)
      (omega (arith, none_of_later 4 5 (lemmas_at p) clauses p.n p.m (omega arith) w z, f.lemmas))

  bad_chain : (w : Reader) → Past 3 (bad_at p) (length p.init + length p.tr) p.n p.m w → Chain (file_of p) w (bad_spans p)
  unfolding bad_spans lemmas_at kind_row kind_table no_kind
  bad_chain w z =
      let clauses = length p.init + length p.tr in
      section_chain (file_of p) 4 p.n p.m bad_kind (from_lemmas p) p.bad (bad_at p) clauses (lemma_spans p)
      bad_here f.bad_short (present_names p.n p.m p.bad f.named.bad) bad_within (omega (arith, f.clauses))
      lemma_chain w (past_later 3 4 (bad_at p) clauses p.n p.m (omega arith) w z)
      (omega (arith, none_of_later 3 4 (bad_at p) clauses p.n p.m (omega arith) w z, f.clauses))

  tr_chain : (w : Reader) → Past 2 (tr_at p) (length p.init) p.n p.m w → Chain (file_of p) w (tr_spans p)
  unfolding tr_spans bad_at kind_row kind_table no_kind width
  tr_chain w z =
      section_chain (file_of p) 3 p.n p.m tr_kind (from_bad p) p.tr (tr_at p) (length p.init) (bad_spans p)
      tr_here f.tr_short (every_names p.n p.m p.tr f.named.tr) tr_within (omega (arith, f.clauses))
      bad_chain w (past_later 2 3 (tr_at p) (length p.init) p.n p.m (omega arith) w z)
      (omega (arith, none_of_later 2 3 (tr_at p) (length p.init) p.n p.m (omega arith) w z, f.clauses))

  init_chain : (w : Reader) → Past 1 8 0 p.n p.m w → Chain (file_of p) w (spans 2 8 p.init ++ tr_spans p)
  unfolding tr_at kind_row kind_table no_kind
  init_chain w z =
      section_chain (file_of p) 2 p.n p.m init_kind (from_tr p) p.init 8 0 (tr_spans p)
      init_here f.init_short (state_names p.n p.m p.init f.named.init) init_within (omega (arith, f.clauses))
      (λ w' z'. tr_chain w' (subst (λ (k : ℕ). Past 2 (tr_at p) k p.n p.m w') (zero-add (length p.init)) z'))
      w (past_later 1 2 8 0 p.n p.m (omega arith) w z)
      (omega (arith, none_of_later 1 2 8 0 p.n p.m (omega arith) w z, f.clauses))

  file_chain : Chain (file_of p) at_start (file_spans p)
  unfolding file_spans
  file_chain =
      first_chain (file_of p) p.n p.m f.n_least f.n_most f.m_most (from_init p) (file_grouped p)
      (spans 2 8 p.init ++ tr_spans p)
      (init_chain (past (file_of p) at_start)
      (first_past (file_of p) p.n p.m f.n_least f.n_most f.m_most (from_init p) (file_grouped p)))

  file_walked : walked (file_of p) ≡ records (file_spans p)
  unfolding walked
  file_walked =
      rw (le-ltb file_most (length (file_of p)) f.bytes)
      (chain_walk (suc (length (file_of p))) (file_of p) at_start (file_spans p) (few_spans p) file_chain)

  -- the clauses of each kind
  init_back : clauses_of 2 (file_of p) (file_spans p) ≡ p.init
  unfolding clauses_of file_spans tr_spans bad_spans lemma_spans end_spans of_kind keep_if
  init_back =
      simp (
        of_kind_append,
        same_spans,
        other_spans 2 3 (tr_at p) p.tr refl,
        other_spans 2 4 (bad_at p) p.bad refl,
        other_spans 2 5 (lemmas_at p) p.lemmas refl,
        append-nil,
      )
      (section_clauses (file_of p) 2 (from_tr p) p.init 8 init_here init_within)

  tr_back : clauses_of 3 (file_of p) (file_spans p) ≡ p.tr
  unfolding clauses_of file_spans tr_spans bad_spans lemma_spans end_spans of_kind keep_if
  tr_back =
      simp (
        of_kind_append,
        same_spans,
        other_spans 3 2 8 p.init refl,
        other_spans 3 4 (bad_at p) p.bad refl,
        other_spans 3 5 (lemmas_at p) p.lemmas refl,
        append-nil,
      )
      (section_clauses (file_of p) 3 (from_bad p) p.tr (tr_at p) tr_here tr_within)

  bad_back : clauses_of 4 (file_of p) (file_spans p) ≡ p.bad
  unfolding clauses_of file_spans tr_spans bad_spans lemma_spans end_spans of_kind keep_if
  bad_back =
      simp (
        of_kind_append,
        same_spans,
        other_spans 4 2 8 p.init refl,
        other_spans 4 3 (tr_at p) p.tr refl,
        other_spans 4 5 (lemmas_at p) p.lemmas refl,
        append-nil,
      )
      (section_clauses (file_of p) 4 (from_lemmas p) p.bad (bad_at p) bad_here bad_within)

  lemmas_back : clauses_of 5 (file_of p) (file_spans p) ≡ p.lemmas
  unfolding clauses_of file_spans tr_spans bad_spans lemma_spans end_spans of_kind keep_if
  lemmas_back =
      simp (
        of_kind_append,
        same_spans,
        other_spans 5 2 8 p.init refl,
        other_spans 5 3 (tr_at p) p.tr refl,
        other_spans 5 4 (bad_at p) p.bad refl,
        append-nil,
      )
      (section_clauses (file_of p) 5 (record_bytes 6 []) p.lemmas (lemmas_at p) lemmas_here lemmas_within)

  problem_back : problem_of (file_of p) (file_spans p) ≡ p
  unfolding problem_of
  problem_back =
      let n_is = n_here (file_of p) p.n p.m f.n_least f.n_most f.m_most (from_init p) (file_grouped p) in
      let m_is = m_here (file_of p) p.n p.m f.n_least f.n_most f.m_most (from_init p) (file_grouped p) in
      rw (n_is, m_is, init_back, tr_back, bad_back, lemmas_back)

pub read_back : (p : Problem) → Fits p → read (file_of p) ≡ accepted p
unfolding read reading_of
read_back p f = rw (file_walked p f) (ap accepted (problem_back p f))

-- The places of all four kinds of clauses, as far as a file is read: one record more keeps every one right.
use Rattle.std.specs.Prelude.{ℕ, zero, suc, ◌+◌, ◌≤◌, ◌≡◌, refl, ◌⊎◌, cond, List, [], ◌∷◌, ◌++◌, eqb}
use native.Mathlib.Omega.{arith}
use Rattle.std.proofs.Common.{ap, inl}
use Rattle.std.proofs.Math.Logic.{inr}
use Rattle.meaning.specs.File.{Reader, Span, past, at_start, span_at, kind_at, kind_row, kind_table, no_kind, row_at, body_at, two_at, is_clause, one_if_clause, clauses_most}
use Rattle.laws.specs.Accepted.{Kept}
use Rattle.problem.specs.declared.sections.Sections.{Sections}
use Rattle.problem.specs.Records.{Sane, section_past, sections_past, no_section, no_sections}
use Rattle.problem.specs.Held.{Held, held_start, held_past, count_past, kind_in, past_inside, same_below, clauses_below, counts_below}

-- a record is a clause where it is of one of the four kinds
ones : (kind : ℕ) → kind ≤ 6
    → one_if_clause (kind_row kind).class
    ≡ cond (eqb kind 2) 1 0 + cond (eqb kind 3) 1 0 + cond (eqb kind 4) 1 0 + cond (eqb kind 5) 1 0
unfolding one_if_clause is_clause kind_row kind_table no_kind
ones zero h = refl
ones (suc zero) h = refl
ones (suc (suc zero)) h = refl
ones (suc (suc (suc zero))) h = refl
ones (suc (suc (suc (suc zero)))) h = refl
ones (suc (suc (suc (suc (suc zero))))) h = refl
ones (suc (suc (suc (suc (suc (suc zero)))))) h = refl
ones (suc (suc (suc (suc (suc (suc (suc more))))))) h = absurd (omega arith)

-- no kind has more than all clauses together
most_in : (kind : ℕ) → kind ≤ 6 → (kind_row kind).most ≤ clauses_most
unfolding kind_row kind_table no_kind
most_in zero h = omega arith
most_in (suc zero) h = omega arith
most_in (suc (suc zero)) h = omega arith
most_in (suc (suc (suc zero))) h = omega arith
most_in (suc (suc (suc (suc zero)))) h = omega arith
most_in (suc (suc (suc (suc (suc zero))))) h = omega arith
most_in (suc (suc (suc (suc (suc (suc zero)))))) h = omega arith
most_in (suc (suc (suc (suc (suc (suc (suc more))))))) h = absurd (omega arith)

-- n and m are those of the first record, once it is read
abbrev pub Counted : List ℕ → Reader → Type 0
Counted file w =
    ((w.before ≡ 0) × (w.at ≡ 0)) ⊎ ((1 ≤ w.before) × (w.n ≡ two_at file 4) × (w.m ≡ two_at file 6))

pub record Places (file : List ℕ) (w : Reader) (done : List Span) (s : Sections) : Type 0 where
  pub init : Held file w done 2 s.init
  pub tr : Held file w done 3 s.tr
  pub bad : Held file w done 4 s.bad
  pub lemmas : Held file w done 5 s.lemmas
  pub total : s.init.count + s.tr.count + s.bad.count + s.lemmas.count ≡ w.clauses
  pub counted : Counted file w
  pub sane : Sane file w

pub places_start : (file : List ℕ) → Places file at_start [] no_sections
unfolding no_sections no_section at_start
places_start file =
    record {
      init = held_start file 2;
      tr = held_start file 3;
      bad = held_start file 4;
      lemmas = held_start file 5;
      total = refl;
      counted = inl (refl, refl);
      sane = record { at = omega arith; of_kind = omega arith; clauses = omega arith; n = omega arith; m = omega arith };
    }

module _ (file : List ℕ) (w : Reader) (k : Kept file w) where
  sane_past : Sane file w → Sane file (past file w)
  unfolding past row_at
  sane_past s =
      record {
        at = past_inside file w k;
        of_kind = omega (arith, same_below file w k, most_in (kind_at file w) (kind_in file w k).most);
        clauses = clauses_below file w k s.clauses;
        n = (counts_below file w k s.n s.m).0;
        m = (counts_below file w k s.n s.m).1;
      }

  counted_past : Counted file w → Counted file (past file w)
  unfolding past body_at
  counted_past (inl start) =
      let one = (kind_in file w k).first start.0 in
      let at = start.1 in
      inr (
        (kind_in file w k).least,
        rw one (ap (λ (a : ℕ). two_at file (a + 4)) at),
        rw one (ap (λ (a : ℕ). two_at file (a + 4 + 2)) at),
      )
  counted_past (inr known) =
      let other = (kind_in file w k).not_again (λ e. omega (arith, known.0, e)) in
      inr ((kind_in file w k).least, rw other known.1, rw other known.2)

  total_past : {done : List Span} {s : Sections} → Places file w done s
      → (section_past 2 (kind_at file w) (past file w).at s.init).count
      + (section_past 3 (kind_at file w) (past file w).at s.tr).count
      + (section_past 4 (kind_at file w) (past file w).at s.bad).count
      + (section_past 5 (kind_at file w) (past file w).at s.lemmas).count
      ≡ (past file w).clauses
  unfolding past row_at
  total_past p =
      omega (
        arith,
        count_past file w k p.init,
        count_past file w k p.tr,
        count_past file w k p.bad,
        count_past file w k p.lemmas,
        ones (kind_at file w) (kind_in file w k).most,
        p.total,
      )

  pub places_past : {done : List Span} {s : Sections} → Places file w done s
      → Places file (past file w) (done ++ (span_at file w ∷ [])) (sections_past (kind_at file w) (past file w).at s)
  unfolding sections_past
  places_past {done} {s} p =
      record {
        init = held_past file w k p.init;
        tr = held_past file w k p.tr;
        bad = held_past file w k p.bad;
        lemmas = held_past file w k p.lemmas;
        total = total_past p;
        counted = counted_past p.counted;
        sane = sane_past p.sane;
      }

-- The records of one kind, as far as a file is read: where they stand, and that one record more keeps the place right.
use Prim.Native.Nat.{ℕ, zero, suc, ◌+◌, ◌≤◌, ◌<◌}
use Rattle.std.proofs.Common.{add-one, ◌∙◌, true≢false}
use native.Mathlib.Omega.{arith}
use Rattle.std.proofs.Math.Path.{◌≡◌, refl, sym, ap, subst, subst⁻¹}
use Rattle.std.specs.Prelude.{Bool, ◌&&◌, ◌||◌}
use Rattle.std.proofs.Math.Bool.{true, false, cond}
use mathlib.Core.List.{List, [], ◌∷◌, ◌++◌, map, append-nil}
use Rattle.std.proofs.Math.ListN.{length}
use Rattle.std.proofs.Math.Dec.{ltb, leb, eqb}
use borrow.Author.Tests.{ltb-true, ltb-false, leb-false, eqb-true, eqb-false, ne_eqb}
use Rattle.meaning.specs.Clauses.{Clause}
use Rattle.meaning.specs.File.{Reader, Span, past, at_start, span_at, kind_at, kind_row, row_at, same_kind, body_at, body_length, two_at, body_short, too_many, counts_wrong, is_clause, one_if_clause, clauses_of, of_kind, keep_if, clause_of, n_most, m_most, clauses_most}
use Rattle.laws.specs.Accepted.{Kept, KindKept, kind_kept}
use Rattle.format.specs.declared.Section.{Section}
use Rattle.format.specs.Section.{next_record, clause_at, section, Inside}
use Rattle.problem.specs.Records.{section_past, no_section}

-- ---- one record more at the end of a section

-- where the record after so many starts
unfoldable pub after : List ℕ → ℕ → ℕ → ℕ
after file at zero = at
after file at (suc count) = after file (next_record file at) count

after_more : (file : List ℕ) (at count : ℕ) → after file at (suc count) ≡ next_record file (after file at count)
unfolding after
after_more file at zero = refl
after_more file at (suc count) = after_more file (next_record file at) count

section_more : (file : List ℕ) (at count : ℕ)
    → section file at (suc count) ≡ section file at count ++ (clause_at file (after file at count) ∷ [])
unfolding after section
section_more file at zero = refl
section_more file at (suc count) =
    ap (λ (cs : List Clause). clause_at file at ∷ cs) (section_more file (next_record file at) count)

inside_more : (file : List ℕ) (at count : ℕ) → Inside file at count → next_record file (after file at count) ≤ length file
    → Inside file at (suc count)
unfolding after
inside_more file at zero i h = (h, tt)
inside_more file at (suc count) i h = (i.0, inside_more file (next_record file at) count i.1 h)

pub length_section : (file : List ℕ) (at count : ℕ) → length (section file at count) ≡ count
unfolding section
length_section file at zero = refl
length_section file at (suc count) = ap suc (length_section file (next_record file at) count)

-- the clauses of a kind, with one record more
clauses_more : (kind : ℕ) (file : List ℕ) (ss : List Span) (s : Span)
    → clauses_of kind file (ss ++ (s ∷ []))
    ≡ clauses_of kind file ss ++ map (clause_of file) (keep_if (eqb s.kind kind) s [])
unfolding clauses_of of_kind keep_if
clauses_more kind file [] s = refl
clauses_more kind file (t ∷ ss) s = go (eqb t.kind kind) (clauses_more kind file ss s)
  where
    more : List Clause
    more = map (clause_of file) (keep_if (eqb s.kind kind) s [])

    go : (b : Bool) → clauses_of kind file (ss ++ (s ∷ [])) ≡ clauses_of kind file ss ++ more
        → map (clause_of file) (keep_if b t (of_kind kind (ss ++ (s ∷ []))))
        ≡ map (clause_of file) (keep_if b t (of_kind kind ss)) ++ more
    go true e = ap (λ (cs : List Clause). clause_of file t ∷ cs) e
    go false e = e

-- ---- a section, as far as the file is read

-- The records of kind q among those done stand from s.at on, one after another, and end where the next record starts, unless the kind
-- before is a later one; of a kind later than the one before there are none
pub record Held (file : List ℕ) (w : Reader) (done : List Span) (q : ℕ) (s : Section) : Type 0 where
  pub clauses : clauses_of q file done ≡ section file s.at s.count
  pub inside : Inside file s.at s.count
  pub ends : w.before ≤ q → after file s.at s.count ≡ w.at
  pub none_yet : w.before < q → s.count ≡ 0
  pub same : w.before ≡ q → s.count ≡ w.of_kind
  pub few : s.count ≤ (kind_row q).most

pub held_start : (file : List ℕ) (q : ℕ) → Held file at_start [] q no_section
unfolding no_section at_start clauses_of of_kind section after
held_start file q =
    record {
      clauses = refl;
      inside = tt;
      ends = λ h. refl;
      none_yet = λ h. refl;
      same = λ h. refl;
      few = omega arith;
    }

-- what is known of a record that is not refused
module _ (file : List ℕ) (w : Reader) (k : Kept file w) where
  -- its kind, in its range and not lower than the one before
  pub kind_in : KindKept w.before (kind_at file w)
  kind_in = kind_kept w.before (kind_at file w) k.kind

  -- it ends inside the file
  pub past_inside : (past file w).at ≤ length file
  unfolding past body_short
  past_inside = ltb-false (length file) (body_at w + body_length file w) k.body

  -- the next one starts further on
  pub past_further : w.at < (past file w).at
  unfolding past body_at
  past_further = omega arith

  -- there may be one more of its kind
  pub same_below : same_kind file w < (row_at file w).most
  unfolding too_many
  same_below = go (leb (row_at file w).most (same_kind file w)) refl k.many
    where
      go : (b : Bool) → leb (row_at file w).most (same_kind file w) ≡ b
          → (b || (is_clause (row_at file w).class && leb clauses_most w.clauses)) ≡ false
          → same_kind file w < (row_at file w).most
      go true t h = absurd (true≢false h)
      go false t h = leb-false (row_at file w).most (same_kind file w) t

  -- and, if it is a clause, one more clause
  pub clauses_below : w.clauses ≤ clauses_most → w.clauses + one_if_clause (row_at file w).class ≤ clauses_most
  unfolding too_many one_if_clause
  clauses_below few =
      go (leb (row_at file w).most (same_kind file w)) (is_clause (row_at file w).class) (leb clauses_most w.clauses) refl k.many
    where
      go : (b clause full : Bool) → leb clauses_most w.clauses ≡ full → (b || (clause && full)) ≡ false
          → w.clauses + cond clause 1 0 ≤ clauses_most
      go true clause full t h = absurd (true≢false h)
      go false true true t h = absurd (true≢false h)
      go false true false t h = omega (arith, leb-false clauses_most w.clauses t)
      go false false full t h = omega arith

  -- n and m of the first record are in their range
  pub counts_below : w.n ≤ n_most → w.m ≤ m_most → ((past file w).n ≤ n_most) × ((past file w).m ≤ m_most)
  unfolding past counts_wrong
  counts_below n_in m_in =
      go (eqb (kind_at file w) 1) (ltb n 1) (ltb n_most n) (ltb m_most m) refl refl k.counts
    where
      n : ℕ
      n = two_at file (body_at w)

      m : ℕ
      m = two_at file (body_at w + 2)

      go : (one none high wide : Bool) → ltb n_most n ≡ high → ltb m_most m ≡ wide → (one && (none || high || wide)) ≡ false
          → (cond one n w.n ≤ n_most) × (cond one m w.m ≤ m_most)
      go true true high wide t u h = absurd (true≢false h)
      go true false true wide t u h = absurd (true≢false h)
      go true false false true t u h = absurd (true≢false h)
      go true false false false t u h = (ltb-false n_most n t, ltb-false m_most m u)
      go false none high wide t u h = (n_in, m_in)

  -- a section after the record
  module _ {done : List Span} {q : ℕ} {s : Section} (h : Held file w done q s) where
    -- of its own kind as many as the reader counted
    count_is : kind_at file w ≡ q → s.count ≡ same_kind file w
    unfolding same_kind
    count_is e = go (eqb (kind_at file w) w.before) refl
      where
        go : (b : Bool) → eqb (kind_at file w) w.before ≡ b → s.count ≡ cond b w.of_kind 0
        go true t = h.same (sym (eqb-true (kind_at file w) w.before t) ∙ e)
        go false t = h.none_yet (omega (arith, kind_in.rises, eqb-false (kind_at file w) w.before t, e))

    -- the clauses of another kind stay as they are
    others : eqb (kind_at file w) q ≡ false
        → clauses_of q file (done ++ (span_at file w ∷ [])) ≡ clauses_of q file done
    unfolding keep_if span_at
    others e = clauses_more q file done (span_at file w) ∙ rw e (append-nil (clauses_of q file done))

    -- and of its own there is one more
    one_more : eqb (kind_at file w) q ≡ true
        → clauses_of q file (done ++ (span_at file w ∷ []))
        ≡ section file s.at s.count ++ (clause_at file w.at ∷ [])
    unfolding keep_if span_at clause_of clause_at body_at body_length
    one_more e =
        clauses_more q file done (span_at file w) ∙
        rw e (ap (λ (cs : List Clause). cs ++ (clause_at file w.at ∷ [])) h.clauses)

    own_held : eqb (kind_at file w) q ≡ true
        → Held file (past file w) (done ++ (span_at file w ∷ [])) q (record { at = s.at; count = s.count + 1 })
    unfolding past next_record body_at body_length row_at
    own_held e =
        let is_q = eqb-true (kind_at file w) q e in
        let here = h.ends (omega (arith, kind_in.rises, is_q)) in
        record {
          clauses =
              one_more e ∙
              ap (λ (a : ℕ). section file s.at s.count ++ (clause_at file a ∷ [])) (sym here) ∙
              sym (section_more file s.at s.count) ∙ ap (section file s.at) (sym (add-one s.count));
          inside =
              subst⁻¹ (Inside file s.at) (add-one s.count)
              (inside_more file s.at s.count h.inside
              (subst⁻¹ (λ (a : ℕ). next_record file a ≤ length file) here past_inside));
          ends =
              λ least.
              ap (after file s.at) (add-one s.count) ∙ after_more file s.at s.count ∙ ap (next_record file) here;
          none_yet = λ less. absurd (omega (arith, is_q));
          same = λ eq. ap (λ (n : ℕ). n + 1) (count_is is_q);
          few =
              omega (arith, subst (λ (kind : ℕ). same_kind file w < (kind_row kind).most) is_q same_below, count_is is_q);
        }

    pub held_past : Held file (past file w) (done ++ (span_at file w ∷ [])) q
        (section_past q (kind_at file w) (past file w).at s)
    unfolding section_past section after past
    held_past = go (ltb (kind_at file w) q) (eqb (kind_at file w) q) refl refl
      where
        go : (less own : Bool) → ltb (kind_at file w) q ≡ less → eqb (kind_at file w) q ≡ own
            → Held file (past file w) (done ++ (span_at file w ∷ [])) q
            (cond less (record { at = (past file w).at; count = 0 }) (cond own (record { at = s.at; count = s.count + 1 }) s))
        go true own t u =
            let less = ltb-true (kind_at file w) q t in
            record {
              clauses =
                  others (ne_eqb (kind_at file w) q (λ e. omega (arith, less, e))) ∙ h.clauses ∙
                  ap (section file s.at) (h.none_yet (omega (arith, less, kind_in.rises)));
              inside = tt;
              ends = λ least. refl;
              none_yet = λ later. refl;
              same = λ e. absurd (omega (arith, less, e));
              few = omega arith;
            }
        go false true t u = own_held u
        go false false t u =
            let more = ltb-false (kind_at file w) q t in
            let not_q = eqb-false (kind_at file w) q u in
            record {
              clauses = others u ∙ h.clauses;
              inside = h.inside;
              ends = λ least. absurd (omega (arith, more, not_q, least));
              none_yet = λ later. absurd (omega (arith, more, later));
              same = λ e. absurd (not_q e);
              few = h.few;
            }

    -- its count goes up where the kind is its own
    pub count_past : (section_past q (kind_at file w) (past file w).at s).count ≡ s.count + cond (eqb (kind_at file w) q) 1 0
    unfolding section_past
    count_past = go (ltb (kind_at file w) q) (eqb (kind_at file w) q) refl refl
      where
        go : (less own : Bool) → ltb (kind_at file w) q ≡ less → eqb (kind_at file w) q ≡ own
            → ◌≡◌ {A = ℕ}
            (cond less (record { at = (past file w).at; count = 0 }) (cond own (record { at = s.at; count = s.count + 1 }) s)).count
            (s.count + cond own 1 0)
        go true true t u = absurd (omega (arith, ltb-true (kind_at file w) q t, eqb-true (kind_at file w) q u))
        go true false t u = omega (arith, h.none_yet (omega (arith, ltb-true (kind_at file w) q t, kind_in.rises)))
        go false true t u = refl
        go false false t u = omega arith

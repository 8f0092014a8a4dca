-- The lemmas from a place of a lemma text on, as they are written record by record.
use Rattle.std.specs.Prelude.{ℕ, ◌+◌, ◌*◌, ◌≤◌, ◌<◌, ◌≡◌, ◌⊎◌, true, false, List, [], ◌∷◌, ◌++◌, ltb, Some, None, IsOkAnd}
use Rattle.std.proofs.Common.{arith, sym, ◌∙◌, inl, inr, ltb-true, ltb-false}
use Rattle.std.proofs.Math.Path.{refl, ap, subst}
use Rattle.std.proofs.Math.ListN.{length}
use Rattle.meaning.specs.Clauses.{Clause}
use Rattle.laws.specs.Basics.{bool_cases}
use Rattle.meaning.specs.Lines.{next_line}
use Rattle.meaning.specs.LemmaText as Text
use Rattle.meaning.specs.LemmaText.{wrong, right, lemma_and, read_lemma_text}
use Rattle.meaning.specs.Filed.{two, record_bytes, clause_records}
use Rattle.filed.specs.Bytes.{clause_length}
use Rattle.records.specs.declared.Records.{Records}
use Rattle.records.specs.Puts.{Puts, HasRoom, Left, left_is, left_room, left_more}
use Rattle.lemma_text.specs.declared.line.Line.{Line}
use Rattle.lemma_text.specs.Line.{good_line, lemma_at, line_from}
use Rattle.lemma_text.specs.Rest.{longest, summary_of, lemmas_of, lemmas_on, no_more, bad_on, good_on, good_next, read_bad, read_good}
use Rattle.lemma_text.specs.Written.{Writable, lemma_bytes}

-- there is no fault, and no lemma has more than 64 literals
pub record Fine (l : Text.Lemmas) : Type 0 where
  pub short : IsOkAnd (summary_of l) (λ s. s.longest ≤ 64)

-- the records of the lemmas from a place on
unfoldable pub records_on : ℕ → List ℕ → ℕ → List ℕ
records_on most text at = clause_records 5 (lemmas_of (lemmas_on most text at))

pub fine_all : (most : ℕ) (text : List ℕ) → IsOkAnd (summary_of (read_lemma_text most text)) (λ s. s.longest ≤ 64) → Fine (lemmas_on most text 0)
unfolding lemmas_on read_lemma_text
fine_all most text h = record { short = h }

not_fine : (at : ℕ) → Fine (wrong at) → ⊥
unfolding summary_of
not_fine at f = f.short

-- a line that is no lemma is the end of the text
pub fine_end : (most : ℕ) (text : List ℕ) (at : ℕ) → None ≡ line_from most text 0 at → Fine (lemmas_on most text at) → length text ≤ at
fine_end most text at none f = go (bool_cases (ltb at (length text)))
  where
    go : (ltb at (length text) ≡ true) ⊎ (ltb at (length text) ≡ false) → length text ≤ at
    go (inl t) = absurd (not_fine at (subst Fine (bad_on most text at (ltb-true at (length text) t) (read_bad most text at none)) f))
    go (inr t) = ltb-false at (length text) t

pub records_none : (most : ℕ) (text : List ℕ) (at : ℕ) → length text ≤ at → records_on most text at ≡ []
unfolding records_on lemmas_of clause_records
records_none most text at h = ap (λ (l : Text.Lemmas). clause_records 5 (lemmas_of l)) (no_more most text at h)

module _ (c : Clause) where
  fine_first : (rest : Text.Lemmas) → Fine (lemma_and c rest) → length c ≤ 64
  unfolding lemma_and summary_of longest
  fine_first (wrong at) f = absurd (not_fine at f)
  fine_first (right cs) f = omega (arith, f.short)

  fine_rest : (rest : Text.Lemmas) → Fine (lemma_and c rest) → Fine rest
  unfolding lemma_and summary_of longest
  fine_rest (wrong at) f = f
  fine_rest (right cs) f = record { short = omega (arith, f.short) }

  fine_lemmas : (rest : Text.Lemmas) → Fine (lemma_and c rest) → lemmas_of (lemma_and c rest) ≡ (c ∷ lemmas_of rest)
  unfolding lemma_and lemmas_of
  fine_lemmas (wrong at) f = absurd (not_fine at f)
  fine_lemmas (right cs) f = refl

-- ---- one line, as it was read

-- the line at a place of a text that is fine: its lemma, and the lines after it
pub record Lemma (most : ℕ) (text : List ℕ) (at : ℕ) (r : Line) : Type 0 where
  pub good : good_line most text at ≡ true
  pub past : r.past ≡ next_line text at
  pub count : r.count ≡ length (lemma_at text at)
  pub short : length (lemma_at text at) ≤ 64
  pub rest : Fine (lemmas_on most text r.past)
  pub records : records_on most text at ≡ record_bytes 5 (lemma_bytes text at) ++ records_on most text r.past

module _ (most : ℕ) (text : List ℕ) (at : ℕ) (r : Line) (is : Some r ≡ line_from most text 0 at)
    (f : Fine (lemmas_on most text at)) where
  pub lemma_read : Lemma most text at r
  unfolding records_on lemma_bytes clause_records
  lemma_read =
      let g = read_good most text at r is in
      let next = good_next most text at g.0 in
      let inside : at < length text = omega (arith, next.0, next.1) in
      let c = lemma_at text at in
      let rest = lemmas_on most text r.past in
      let split : lemmas_on most text at ≡ lemma_and c rest =
      good_on most text at inside g.0 ∙ ap (λ (k : ℕ). lemma_and c (lemmas_on most text k)) (sym g.1) in
      let fine = subst Fine split f in
      record {
        good = g.0;
        past = g.1;
        count = g.2;
        short = fine_first c rest fine;
        rest = fine_rest c rest fine;
        records = ap (λ (l : Text.Lemmas). clause_records 5 (lemmas_of l)) split ∙ ap (clause_records 5) (fine_lemmas c rest fine);
      }

-- its literals can be written, and the next line starts in the text
pub writable : {most : ℕ} {text : List ℕ} {at : ℕ} {r : Line} → Lemma most text at r → most ≤ 96 → Writable text at
writable {most} l few = record { most = most; few = omega arith; good = l.good }

pub next_inside : {most : ℕ} {text : List ℕ} {at : ℕ} {r : Line} → Lemma most text at r → (r.past ≤ length text) × (at < r.past)
next_inside {most} {text} {at} l =
    let n = good_next most text at l.good in
    (omega (arith, l.past, n.0), omega (arith, l.past, n.1))

-- ---- a record: its head, and then its literals

bytes_length : (text : List ℕ) (at : ℕ) → length (lemma_bytes text at) ≡ 2 * length (lemma_at text at)
unfolding lemma_bytes
bytes_length text at = clause_length (lemma_at text at)

module _ {whole : List ℕ} {start : Records} {most : ℕ} {text : List ℕ} {at : ℕ} {r : Line} (l : Lemma most text at r) {now : Records}
    (left : Left whole start (records_on most text at) now) where
  abbrev head : List ℕ
  head = two (2 * r.count) ++ two 5

  cut : Left whole start (head ++ (lemma_bytes text at ++ records_on most text r.past)) now
  unfolding record_bytes two
  cut =
      let long : length (lemma_bytes text at) ≡ 2 * r.count = bytes_length text at ∙ ap (λ (k : ℕ). 2 * k) (sym l.count) in
      left_is left
      (l.records
      ∙ ap (λ (k : ℕ). (two k ++ (two 5 ++ lemma_bytes text at)) ++ records_on most text r.past) long)

  pub head_small : 2 * r.count < 65536
  head_small = omega (arith, l.count, l.short)

  pub head_room : now.end + 4 ≤ length now.bytes.now
  unfolding two
  head_room = (left_room head (lemma_bytes text at ++ records_on most text r.past) cut).fits

  module _ {next : Records} (w : Puts head now next) where
    pub body_room : HasRoom (lemma_bytes text at) next
    body_room = left_room _ _ (left_more _ _ cut w)

    pub record_more : {end : Records} → Puts (lemma_bytes text at) next end → Left whole start (records_on most text r.past) end
    record_more v = left_more _ _ (left_more _ _ cut w) v

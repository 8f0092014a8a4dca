-- One record against its rules: the refusal of the first that is broken, and what the code's values are in the definition's terms.
use Rattle.std.specs.Prelude.{Result, Ok, Err, ℕ, ◌+◌, ◌*◌, ◌%◌, ◌≤◌, ◌<◌, ◌≡◌, refl, Bool, true, false, not, ◌&&◌, ◌||◌, List, length, drop, ltb, eqb}
use Rattle.std.proofs.Common.{arith, subst, ◌∙◌}
use Rattle.std.proofs.Math.Path.{sym, ap}
use Rattle.std.proofs.Math.Bool.{cond}
use Rattle.std.proofs.Math.Option.{Option, none, some}
use borrow.Author.Tests.{ltb-false, lt-ltb, le-ltb}
use Rattle.meaning.specs.Clauses.{any}
use Rattle.meaning.specs.File.{Reader, Rule, Refusal, Kind, Class, nothing, state, present, every, first_wrong, refuse_if, rule_if, record_rules, head_short, kind_wrong, length_wrong, body_short, too_many, counts_wrong, offends, before_offence, body_names, body_literals, offence_at, past, kind_at, kind_row, kind_table, no_kind, row_at, same_kind, body_at, body_length, two_at, literals, literal_count, names, one_if_clause}
use Rattle.laws.specs.Accepted.{kind_kept}
use Rattle.problem.specs.declared.rules.Cursor.{Cursor}
use Rattle.problem.specs.declared.refusal.Refusal as Code
use Rattle.problem.specs.Offences.{any_offends, length_literals}
use Rattle.problem.specs.Records.{Headed, Stepped}

-- a refusal's number and place
abbrev pub refused_by : ℕ → ℕ → Option Refusal
refused_by number place = some (record { number = number; place = place })

-- ---- the first rule that is broken

module _ (file : List ℕ) (w : Reader) where
  pub head_stops : head_short file w ≡ true → first_wrong (record_rules file w) ≡ refused_by 2 w.at
  unfolding first_wrong refuse_if record_rules rule_if
  head_stops e = rw e

  pub kind_stops : head_short file w ≡ false → kind_wrong w.before (kind_at file w) ≡ true
      → first_wrong (record_rules file w) ≡ refused_by 3 w.at
  unfolding first_wrong refuse_if record_rules rule_if
  kind_stops e₁ e₂ = rw (e₁, e₂)

  pub length_stops : head_short file w ≡ false → kind_wrong w.before (kind_at file w) ≡ false
      → length_wrong (row_at file w) (body_length file w) ≡ true → first_wrong (record_rules file w) ≡ refused_by 4 w.at
  unfolding first_wrong refuse_if record_rules rule_if
  length_stops e₁ e₂ e₃ = rw (e₁, e₂, e₃)

  pub body_stops : head_short file w ≡ false → kind_wrong w.before (kind_at file w) ≡ false
      → length_wrong (row_at file w) (body_length file w) ≡ false → body_short file w ≡ true
      → first_wrong (record_rules file w) ≡ refused_by 2 w.at
  unfolding first_wrong refuse_if record_rules rule_if
  body_stops e₁ e₂ e₃ e₄ = rw (e₁, e₂, e₃, e₄)

  -- a record whose head is right is left to the rules of its body
  pub head_passes : head_short file w ≡ false → kind_wrong w.before (kind_at file w) ≡ false
      → length_wrong (row_at file w) (body_length file w) ≡ false → body_short file w ≡ false
      → first_wrong (drop 4 (record_rules file w)) ≡ first_wrong (record_rules file w)
  unfolding first_wrong refuse_if record_rules rule_if
  head_passes e₁ e₂ e₃ e₄ = rw (e₁, e₂, e₃, e₄)

  pub many_stops : too_many (row_at file w) (same_kind file w) w.clauses ≡ true
      → first_wrong (drop 4 (record_rules file w)) ≡ refused_by 7 w.at
  unfolding first_wrong refuse_if record_rules rule_if
  many_stops e = rw e

  pub counts_stops : too_many (row_at file w) (same_kind file w) w.clauses ≡ false
      → counts_wrong (kind_at file w) (two_at file (body_at w)) (two_at file (body_at w + 2)) ≡ true
      → first_wrong (drop 4 (record_rules file w)) ≡ refused_by 5 w.at
  unfolding first_wrong refuse_if record_rules rule_if
  counts_stops e₁ e₂ = rw (e₁, e₂)

  pub literal_stops : too_many (row_at file w) (same_kind file w) w.clauses ≡ false
      → counts_wrong (kind_at file w) (two_at file (body_at w)) (two_at file (body_at w + 2)) ≡ false
      → any (offends (body_names file w)) (body_literals file w) ≡ true
      → first_wrong (drop 4 (record_rules file w)) ≡ refused_by 6 (offence_at file w)
  unfolding first_wrong refuse_if record_rules rule_if
  literal_stops e₁ e₂ e₃ = rw (e₁, e₂, e₃)

  pub body_passes : too_many (row_at file w) (same_kind file w) w.clauses ≡ false
      → counts_wrong (kind_at file w) (two_at file (body_at w)) (two_at file (body_at w + 2)) ≡ false
      → any (offends (body_names file w)) (body_literals file w) ≡ false
      → first_wrong (drop 4 (record_rules file w)) ≡ none
  unfolding first_wrong refuse_if record_rules rule_if
  body_passes e₁ e₂ e₃ = rw (e₁, e₂, e₃)

-- rules that come to the same take a step to the same
pub stepped_on : (file : List ℕ) (w : Reader) (rules others : List Rule) (step : Result Cursor Code.Refusal) → first_wrong rules ≡ first_wrong others
    → Stepped file w rules step → Stepped file w others step
stepped_on file w rules others (Ok next) e s = (sym e ∙ s.0, s.1)
stepped_on file w rules others (Err r) e s = sym e ∙ s

-- ---- what the code reads of a record whose head is right

-- a kind that is not wrong has a row
pub kind_small : (before kind : ℕ) → kind_wrong before kind ≡ false → kind < 7
kind_small before kind e = omega (arith, (kind_kept before kind e).most)

-- the head of a record at a place, as the code reads it
pub head_fits : (file : List ℕ) (w : Reader) → w.at + 4 ≤ length file → head_short file w ≡ false
unfolding head_short body_at
head_fits file w h = le-ltb (length file) (w.at + 4) h

pub head_lacks : (file : List ℕ) (w : Reader) → length file < w.at + 4 → head_short file w ≡ true
unfolding head_short body_at
head_lacks file w h = lt-ltb (length file) (w.at + 4) h

module _ (file : List ℕ) (w : Reader) {len kind : ℕ} (is_len : len ≡ two_at file w.at) (is_kind : kind ≡ two_at file (w.at + 2)) where
  pub kind_found : {found b : Bool} → found ≡ kind_wrong w.before kind → found ≡ b
      → kind_wrong w.before (kind_at file w) ≡ b
  unfolding kind_at
  kind_found t f = sym (ap (kind_wrong w.before) is_kind) ∙ sym t ∙ f

  pub length_found : {row : Kind} {found b : Bool} → row ≡ kind_row kind → found ≡ length_wrong row len → found ≡ b
      → length_wrong (row_at file w) (body_length file w) ≡ b
  unfolding row_at kind_at body_length
  length_found {row} e t f =
      sym (ap (λ (r : Kind). length_wrong r len) (e ∙ ap kind_row is_kind) ∙ ap (length_wrong (row_at file w)) is_len) ∙ sym t ∙ f

  pub body_fits : w.at + 4 + len ≤ length file → body_short file w ≡ false
  unfolding body_short body_at body_length
  body_fits h = le-ltb (length file) (w.at + 4 + two_at file w.at) (omega (arith, h, is_len))

  pub body_lacks : length file < w.at + 4 + len → body_short file w ≡ true
  unfolding body_short body_at body_length
  body_lacks h = lt-ltb (length file) (w.at + 4 + two_at file w.at) (omega (arith, h, is_len))

  pub headed : kind_wrong w.before (kind_at file w) ≡ false → length_wrong (row_at file w) (body_length file w) ≡ false
      → w.at + 4 + len ≤ length file → Headed file w len kind
  unfolding kind_at body_length body_at
  headed k l h = record { len_is = is_len; kind_is = is_kind; kind_right = k; length_right = l; inside = omega (arith, h, is_len) }

-- a body of kind 1 has four bytes
pub four_bytes : (len : ℕ) → length_wrong (kind_row 1) len ≡ false → len ≡ 4
unfolding length_wrong kind_row kind_table no_kind
four_bytes len e = go (ltb len 4) (ltb 4 len) refl refl e
  where
    go : (low high : Bool) → ltb len 4 ≡ low → ltb 4 len ≡ high
        → (low || high || (true && not (eqb (len % 2) 0))) ≡ false → len ≡ 4
    go true high t u h = let z : ◌≡◌ {A = ℕ} 0 1 = cc in absurd (omega arith)
    go false true t u h = let z : ◌≡◌ {A = ℕ} 0 1 = cc in absurd (omega arith)
    go false false t u h = omega (arith, ltb-false len 4 t, ltb-false 4 len u)

-- the literals of a body take no more bytes than it has
pub literals_fit : (class : Class) (len : ℕ) → 2 * literal_count class len ≤ len
unfolding literal_count
literals_fit nothing len = omega arith
literals_fit state len = omega arith
literals_fit present len = omega arith
literals_fit every len = omega arith

-- as many of a kind as there were, or none
pub same_few : (b : Bool) (count : ℕ) → cond b count 0 ≤ count
same_few true count = omega arith
same_few false count = omega arith

module _ {file : List ℕ} {w : Reader} {len kind : ℕ} (h : Headed file w len kind) where
  pub headed_small : kind < 7
  headed_small = omega (arith, kind_small w.before (kind_at file w) h.kind_right, h.kind_is)

  -- the record ends inside the file
  pub ends_inside : w.at + 4 + len ≤ length file
  unfolding body_at
  ends_inside = omega (arith, h.len_is, h.inside)

  -- n and m of a record of kind 1 stand inside the file
  pub counts_inside : kind ≡ 1 → w.at + 4 + 3 < length file
  unfolding row_at body_at
  counts_inside e =
      let four : body_length file w ≡ 4 =
      four_bytes (body_length file w)
      (subst (λ (q : ℕ). length_wrong (kind_row q) (body_length file w) ≡ false) (sym h.kind_is ∙ e) h.length_right) in
      omega (arith, four, h.inside)

  module _ {row : Kind} (is_row : row ≡ kind_row kind) where
    pub row_here : row ≡ row_at file w
    unfolding row_at
    row_here = is_row ∙ ap kind_row h.kind_is

    -- 7, as the code finds it
    pub many_here : {same : ℕ} {found b : Bool} → same ≡ cond (eqb kind w.before) w.of_kind 0
        → found ≡ too_many row same w.clauses → found ≡ b
        → too_many (row_at file w) (same_kind file w) w.clauses ≡ b
    unfolding same_kind
    many_here {same} e t f =
        sym
        (ap (λ (r : Kind). too_many r same w.clauses) row_here ∙
        ap (λ (s : ℕ). too_many (row_at file w) s w.clauses)
        (e ∙ ap (λ (q : ℕ). cond (eqb q w.before) w.of_kind 0) h.kind_is)) ∙
        sym t ∙ f

    -- 6, as the code finds it: the literals, and how many stand before the first that offends
    module _ {count offence : ℕ} (is_count : count ≡ literal_count row.class len)
        (is_offence : offence ≡ before_offence (names row.class w.n w.m) (literals file (w.at + 4) count)) where
      literals_here : literals file (w.at + 4) count ≡ body_literals file w
      unfolding body_literals body_at
      literals_here =
          ap (literals file (w.at + 4)) is_count ∙
          ap (λ (r : Kind). literals file (w.at + 4) (literal_count r.class len)) row_here ∙
          ap (λ (l : ℕ). literals file (w.at + 4) (literal_count (row_at file w).class l)) h.len_is

      count_here : count ≡ length (body_literals file w)
      count_here = sym (length_literals file (w.at + 4) count) ∙ ap length literals_here

      offence_here : offence ≡ before_offence (body_names file w) (body_literals file w)
      unfolding body_names
      offence_here =
          is_offence ∙ ap (before_offence (names row.class w.n w.m)) literals_here ∙
          ap (λ (r : Kind). before_offence (names r.class w.n w.m) (body_literals file w)) row_here

      pub some_offends : offence < count → any (offends (body_names file w)) (body_literals file w) ≡ true
      some_offends less =
          any_offends (body_names file w) (body_literals file w) ∙
          lt-ltb (before_offence (body_names file w) (body_literals file w)) (length (body_literals file w))
          (omega (arith, less, count_here, offence_here))

      pub none_offends : count ≤ offence → any (offends (body_names file w)) (body_literals file w) ≡ false
      none_offends most_passed =
          any_offends (body_names file w) (body_literals file w) ∙
          le-ltb (before_offence (body_names file w) (body_literals file w)) (length (body_literals file w))
          (omega (arith, most_passed, count_here, offence_here))

      pub place_here : w.at + 4 + 2 * offence ≡ offence_at file w
      unfolding offence_at body_at
      place_here = ap (λ (n : ℕ). w.at + 4 + 2 * n) offence_here

    -- the literals stand inside the file
    pub literals_inside : {count : ℕ} → count ≡ literal_count row.class len → w.at + 4 + 2 * count ≤ length file
    unfolding body_at
    literals_inside e = omega (arith, e, literals_fit row.class len, h.len_is, h.inside)

    -- what is known after the record
    pub past_here : {same ones n m : ℕ} → same ≡ cond (eqb kind w.before) w.of_kind 0 → ones ≡ one_if_clause row.class
        → n ≡ cond (eqb kind 1) (two_at file (w.at + 4)) w.n → m ≡ cond (eqb kind 1) (two_at file (w.at + 4 + 2)) w.m
        → ◌≡◌ {A = Reader}
        (record { at = w.at + 4 + len; before = kind; of_kind = same + 1; clauses = w.clauses + ones; n = n; m = m })
        (past file w)
    unfolding past same_kind body_at
    past_here {same} {ones} {n} {m} e₁ e₂ e₃ e₄ = rw (e₁, e₂, e₃, e₄, row_here, h.len_is, h.kind_is)

  -- 5, as the code finds it
  pub counts_here : {found b : Bool} → found ≡ counts_wrong kind (two_at file (w.at + 4)) (two_at file (w.at + 4 + 2)) → found ≡ b
      → counts_wrong (kind_at file w) (two_at file (body_at w)) (two_at file (body_at w + 2)) ≡ b
  unfolding body_at
  counts_here t f =
      sym (ap (λ (q : ℕ). counts_wrong q (two_at file (w.at + 4)) (two_at file (w.at + 4 + 2))) h.kind_is) ∙ sym t ∙ f

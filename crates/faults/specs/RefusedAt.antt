-- What is told of a refused record is what the reader saw there: its kind, and its position among the records of its kind.
use Prim.Native.Nat.{ℕ, zero, suc, ◌+◌, ◌-◌, ◌≤◌, ◌<◌}
use native.Mathlib.Omega.{arith}
use Rattle.std.proofs.Math.Path.{◌≡◌, refl, ap}
use Rattle.std.proofs.Common.{sym, subst, ◌∙◌}
use Rattle.std.specs.Prelude.{Bool, List, [], ◌∷◌, length, eqb, ltb}
use Rattle.std.proofs.Math.Bool.{true, false, cond}
use Rattle.std.proofs.Math.Option.{Option, none, some}
use borrow.Author.Tests.{ltb-true, ltb-false}
use Rattle.meaning.specs.Clauses.{Literal, any}
use Rattle.meaning.specs.File
use Rattle.meaning.specs.File.{Reader, Refusal, Rule, Walked, refused, records, Span, two_at, literals, literal_count, offends, before_offence, first_wrong, record_rules, kind_at, same_kind, file_most}
use Rattle.laws.specs.Accepted.{kept}
use Rattle.problem.specs.Offences.{length_literals, any_offends}
use Rattle.problem.specs.Steps.{head_stops, literals_fit}
use Rattle.format.specs.Section.{next_record}
use Rattle.faults.specs.Places.{kind_there, past, walk, start_around, around}
use Rattle.faults.specs.PlaceLaws.{walk_reached, walk_more}
use Rattle.faults.specs.declared.places.Spot.{Spot}

-- ---- a refusal's place lies in its record

-- the first literal that offends is one of the literals
offence_before : (may : ℕ → Bool) (ls : List Literal) → any (offends may) ls ≡ true → before_offence may ls < length ls
offence_before may ls e = ltb-true (before_offence may ls) (length ls) (sym (any_offends may ls) ∙ e)

-- every rule that is broken has a place of a sort; so has the first
abbrev Each : (ℕ → Type 0) → List Rule → Type 0
Each P [] = Unit {0}
Each P (x ∷ rs) = (x.wrong ≡ true → P x.place) × Each P rs

place_of : Option Refusal → ℕ
place_of none = 0
place_of (some r) = r.place

first_by : (P : ℕ → Type 0) (x : Rule) (rs : List Rule) (r : Refusal) (b : Bool) → x.wrong ≡ b → (x.wrong ≡ true → P x.place)
    → (first_wrong rs ≡ some r → P r.place)
    → File.refuse_if b (record { number = x.number; place = x.place }) (first_wrong rs) ≡ some r → P r.place
unfolding File.refuse_if place_of
first_by P x rs r true t here later e = subst P (ap place_of e) (here t)
first_by P x rs r false t here later e = later e

first_placed : (P : ℕ → Type 0) (rs : List Rule) (r : Refusal) → Each P rs → first_wrong rs ≡ some r → P r.place
unfolding first_wrong
first_placed P [] r each e = let z : ◌≡◌ {A = ℕ} 0 1 = cc in absurd (omega arith)
first_placed P (x ∷ rs) r each e = first_by P x rs r x.wrong refl each.0 (first_placed P rs r each.1) e

abbrev In : List ℕ → Reader → ℕ → Type 0
In file w place = (w.at ≤ place) × (place < next_record file w.at)

in_record : (file : List ℕ) (w : Reader) (r : Refusal) → first_wrong (record_rules file w) ≡ some r → In file w r.place
unfolding record_rules File.rule_if next_record File.offence_at File.body_literals File.body_at File.body_length
in_record file w r e =
    first_placed (In file w) (record_rules file w) r (here, (here, (here, (here, (here, (here, (offence, tt))))))) e
  where
    here : {b : Bool} → b ≡ true → In file w w.at
    here t = (omega arith, omega arith)

    offence : any (offends (File.body_names file w)) (File.body_literals file w) ≡ true → In file w (File.offence_at file w)
    offence t =
        let before = offence_before (File.body_names file w) (File.body_literals file w) t in
        let c = (File.row_at file w).class in
        let count = length_literals file (w.at + 4) (literal_count c (two_at file w.at)) in
        let fits = literals_fit c (two_at file w.at) in
        (omega (arith, before, count, fits), omega (arith, before, count, fits))

-- ---- both walks come to the refused record

-- the record where a reader stands
abbrev spot : List ℕ → Reader → Spot
spot file w = record { at = w.at; position = same_kind file w }

next_spot : (file : List ℕ) (w : Reader) → past file (spot file w) ≡ spot file (File.past file w)
unfolding past kind_there next_record File.past same_kind kind_at File.body_at File.body_length
next_spot file w = refl

-- a reader that walks from one place on to a refusal, and the record that it refuses
record Refuses (file : List ℕ) (w : Reader) (most : ℕ) (r : Refusal) : Type 0 where
  reader : Reader
  rule : first_wrong (record_rules file reader) ≡ some r
  from : w.at ≤ r.place
  there : walk most file r.place (spot file w) ≡ spot file reader

number_of : Walked → ℕ
number_of (refused r) = r.number
number_of (records ss) = 0

number_in : Option Refusal → ℕ
number_in none = 0
number_in (some r) = r.number

-- a head that is refused by another number than 2 is there
head_there : (file : List ℕ) (w : Reader) (r : Refusal) → (r.number ≡ 2 → ⊥) → first_wrong (record_rules file w) ≡ some r → w.at < length file
unfolding File.head_short File.body_at number_in
head_there file w r not_2 e = go (File.head_short file w) refl
  where
    go : (b : Bool) → File.head_short file w ≡ b → w.at < length file
    go true t = absurd (not_2 (sym (ap number_in (sym (head_stops file w t) ∙ e))))
    go false t = let h = ltb-false (length file) (w.at + 4) t in omega arith

module _ (file : List ℕ) (r : Refusal) (not_2 : r.number ≡ 2 → ⊥) (not_8 : r.number ≡ 8 → ⊥) where
  refuses_here : (w : Reader) (most : ℕ) → length file ≤ most + w.at → first_wrong (record_rules file w) ≡ some r → Refuses file w most r
  refuses_here w most enough e =
      let h = head_there file w r not_2 e in
      let i = in_record file w r e in
      record { reader = w; rule = e; from = i.0; there = walk_reached file r.place (spot file w) most (omega arith) h i.1 }

  -- past a record that is not refused
  refuses_later : (w : Reader) (most : ℕ) → length file ≤ most + w.at → first_wrong (record_rules file w) ≡ none
      → Refuses file (File.past file w) (most - 1) r → Refuses file w most r
  unfolding next_record File.past File.body_at File.body_length File.head_short
  refuses_later w most enough e later =
      let k = ltb-false (length file) (w.at + 4) (kept file w e).head in
      let f : w.at + 4 + two_at file w.at ≤ r.place = later.from in
      record {
        reader = later.reader;
        rule = later.rule;
        from = omega arith;
        there =
            walk_more file r.place (spot file w) most (omega arith) (omega arith) f
            ∙ ap (walk (most - 1) file r.place) (next_spot file w)
            ∙ later.there;
      }

  after_end : (at : ℕ) → File.at_end file at ≡ refused r → ⊥
  unfolding File.at_end number_of
  after_end at e = go (ltb at (length file)) e
    where
      go : (b : Bool) → cond b (refused (record { number = 8; place = at })) (records []) ≡ refused r → ⊥
      go true h = not_8 (sym (ap number_of h))
      go false h = let z : ◌≡◌ {A = ℕ} 0 1 = cc in omega arith

  unless_6 : (b : Bool) (on : Reader → Walked) (w : Reader) → File.unless_end b on file w ≡ refused r → on (File.past file w) ≡ refused r
  unfolding File.unless_end
  unless_6 true on w e = absurd (after_end (File.past file w).at e)
  unless_6 false on w e = e

  and_refused : (s : Span) (u : Walked) → File.and_before s u ≡ refused r → u ≡ refused r
  unfolding File.and_before
  and_refused s (refused x) e = e
  and_refused s (records ss) e = let z : ◌≡◌ {A = ℕ} 0 1 = cc in absurd (omega arith)

  refuses_by : (o : Option Refusal) (on : Reader → Walked) (w : Reader) (most : ℕ) → length file ≤ most + w.at
      → first_wrong (record_rules file w) ≡ o
      → (on (File.past file w) ≡ refused r → first_wrong (record_rules file w) ≡ none → Refuses file (File.past file w) (most - 1) r)
      → File.unless_refused o on file w ≡ refused r → Refuses file w most r
  unfolding File.unless_refused
  refuses_by (some x) on w most enough t later e =
      let same : x ≡ r = cc in refuses_here w most enough (t ∙ ap some same)
  refuses_by none on w most enough t later e =
      refuses_later w most enough t
      (later (unless_6 (eqb (kind_at file w) 6) on w (and_refused (File.span_at file w) _ e)) t)

  -- what a record that is not refused leaves
  enough_left : (w : Reader) (most : ℕ) → length file ≤ most + w.at → first_wrong (record_rules file w) ≡ none
      → length file ≤ most - 1 + (File.past file w).at
  unfolding File.past File.body_at File.body_length File.head_short
  enough_left w most enough e =
      let k = ltb-false (length file) (w.at + 4) (kept file w e).head in
      omega arith

  refuses : (fuel : ℕ) (w : Reader) (most : ℕ) → length file ≤ most + w.at → File.walk fuel file w ≡ refused r → Refuses file w most r
  unfolding File.walk number_of
  refuses zero w most enough e = absurd (not_2 (sym (ap number_of e)))
  refuses (suc fuel) w most enough e =
      refuses_by (first_wrong (record_rules file w)) (File.walk fuel file) w most enough refl
      (λ h t. refuses fuel (File.past file w) (most - 1) (enough_left w most enough t) h) e

-- A record refused by 3 to 7: what is told of the record around the refusal's place is what the reader saw of the record that it refused.
pub refused_record : (file : List ℕ) (r : Refusal) → File.walked file ≡ refused r → (r.number ≡ 1 → ⊥) → (r.number ≡ 2 → ⊥) → (r.number ≡ 8 → ⊥)
    → (w : Reader) × (first_wrong (record_rules file w) ≡ some r) × (around file r.place ≡ record { kind = kind_at file w; position = same_kind file w })
unfolding File.walked File.at_start same_kind around start_around kind_there kind_at number_of
refused_record file r e not_1 not_2 not_8 = go (ltb file_most (length file)) e
  where
    none_before : (b : Bool) → ◌≡◌ {A = ℕ} (cond b 0 0) 0
    none_before true = refl
    none_before false = refl

    from_start : spot file File.at_start ≡ record { at = 0; position = 0 }
    from_start = ap (λ (n : ℕ). record { at = 0; position = n }) (none_before (eqb (kind_at file File.at_start) 0))

    go : (b : Bool) → cond b (refused (record { number = 1; place = 0 })) (File.walk (suc (length file)) file File.at_start) ≡ refused r
        → (w : Reader) × (first_wrong (record_rules file w) ≡ some r) × (around file r.place ≡ record { kind = kind_at file w; position = same_kind file w })
    go true h = absurd (not_1 (sym (ap number_of h)))
    go false h =
        let x = refuses file r not_2 not_8 (suc (length file)) File.at_start (length file) (omega arith) h in
        let s = ap (walk (length file) file r.place) (sym from_start) ∙ x.there in
        (x.reader, x.rule, ap (λ (t : Spot). record { kind = two_at file (t.at + 2); position = t.position }) s)

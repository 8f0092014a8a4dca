-- A file read record by record: what is known between two records, and what the answer is where reading stops.
use Prim.Native.Nat.{ℕ, zero, suc, ◌+◌, ◌≤◌, ◌<◌}
use Rattle.std.proofs.Common.{arith, ◌∙◌, inl, inr}
use Rattle.std.specs.Prelude.{◌≡◌, Bool, cond, eqb}
use Rattle.std.proofs.Math.Path.{refl, sym, ap, subst⁻¹}
use Rattle.std.proofs.Math.Bool.{true, false}
use Rattle.std.proofs.Math.Option.{none, some}
use mathlib.Core.List.{List, [], ◌∷◌, ◌++◌, append-nil}
use Rattle.std.proofs.Math.ListN.{length}
use borrow.Author.Tests.{lt-ltb, le-ltb, eq-eqb, ne_eqb}
use Rattle.meaning.specs.File.{Reader, Refusal, Span, Walked, refused, records, accepted, rejected, read, walked, walk, at_start, at_end, past, span_at, kind_at, record_rules, first_wrong, and_before, unless_refused, unless_end, reading_of, problem_of, kind_row, kind_table, no_kind, file_most}
use Rattle.laws.specs.Accepted.{kept}
use Rattle.laws.specs.Named.{accepted_well_formed}
use Rattle.format.specs.Section.{problem_at, Placed}
use Rattle.problem.specs.declared.sections.Sections.{Sections}
use Rattle.problem.specs.Records.{Few, sections_past, no_sections, problem_from}
use Rattle.problem.specs.Held.{past_further}
use Rattle.problem.specs.Places.{Counted, Places, places_start, places_past}

-- records before the rest of a walk
unfoldable pub all_before : List Span → Walked → Walked
all_before [] u = u
all_before (s ∷ ss) u = and_before s (all_before ss u)

all_before_more : (ss : List Span) (s : Span) (u : Walked) → all_before (ss ++ (s ∷ [])) u ≡ all_before ss (and_before s u)
unfolding all_before
all_before_more [] s u = refl
all_before_more (t ∷ ss) s u = ap (and_before t) (all_before_more ss s u)

all_before_refused : (ss : List Span) (r : Refusal) → all_before ss (refused r) ≡ refused r
unfolding all_before and_before
all_before_refused [] r = refl
all_before_refused (s ∷ ss) r = ap (and_before s) (all_before_refused ss r)

all_before_records : (ss ts : List Span) → all_before ss (records ts) ≡ records (ss ++ ts)
unfolding all_before and_before
all_before_records [] ts = refl
all_before_records (s ∷ ss) ts = ap (and_before s) (all_before_records ss ts)

-- what is left of the walk: nothing but the file's end after kind 6, else the records from here on
unfoldable pub rest : ℕ → List ℕ → Reader → Walked
rest fuel file w = cond (eqb w.before 6) (at_end file w.at) (walk fuel file w)

-- The records done, and enough fuel for those to come, make the whole walk; and each section's place is right
pub record Reached (file : List ℕ) (w : Reader) (s : Sections) : Type 0 where
  pub done : List Span
  pub fuel : ℕ
  pub enough : length file < fuel + w.at
  pub so_far : walked file ≡ all_before done (rest fuel file w)
  pub places : Places file w done s
  pub short : length file ≤ file_most

pub reached_start : (file : List ℕ) → length file ≤ file_most → Reached file at_start no_sections
unfolding walked all_before rest at_start
reached_start file short =
    record {
      done = [];
      fuel = suc (length file);
      enough = omega arith;
      so_far = rw (le-ltb file_most (length file) short);
      places = places_start file;
      short = short;
    }

-- 1, before all
pub too_long : (file : List ℕ) → file_most < length file → read file ≡ rejected (record { number = 1; place = 0 })
unfolding read walked reading_of
too_long file long = rw (lt-ltb file_most (length file) long)

module _ {file : List ℕ} {w : Reader} {s : Sections} (r : Reached file w s) where
  -- one more of any kind is a number
  pub few_so_far : Few s
  unfolding kind_row kind_table no_kind
  few_so_far =
      record {
        init = r.places.init.few;
        tr = r.places.tr.few;
        bad = r.places.bad.few;
        lemmas = omega (arith, r.places.lemmas.few);
      }

  -- a walk that ends in a refusal
  refused_read : {x : Refusal} → rest r.fuel file w ≡ refused x → read file ≡ rejected x
  unfolding read reading_of
  refused_read {x} e =
      ap (reading_of file) (r.so_far ∙ ap (all_before r.done) e ∙ all_before_refused r.done x)

  -- a step of the walk, where the file is not at its end
  walk_step : (w.before ≡ 6 → ⊥)
      → (fuel : ℕ) × (r.fuel ≡ suc fuel)
      × (rest r.fuel file w ≡ unless_refused (first_wrong (record_rules file w)) (walk fuel file) file w)
  unfolding rest walk
  walk_step not_end = go r.fuel refl r.enough
    where
      go : (n : ℕ) → r.fuel ≡ n → length file < n + w.at
          → (fuel : ℕ) × (r.fuel ≡ suc fuel)
          × (rest r.fuel file w ≡ unless_refused (first_wrong (record_rules file w)) (walk fuel file) file w)
      go zero e less = absurd (omega (arith, less, r.places.sane.at))
      go (suc fuel) e less = (fuel, e, rw (e, ne_eqb w.before 6 not_end))

  -- a record that is refused
  pub stops : (w.before ≡ 6 → ⊥) → {x : Refusal} → first_wrong (record_rules file w) ≡ some x → read file ≡ rejected x
  unfolding unless_refused
  stops not_end e = refused_read ((walk_step not_end).2 ∙ rw e)

  -- 8: bytes after kind 6
  pub longer : w.before ≡ 6 → w.at < length file → read file ≡ rejected (record { number = 8; place = w.at })
  unfolding rest at_end
  longer end less = refused_read (rw (eq-eqb w.before 6 end, lt-ltb w.at (length file) less))

  after_step : (fuel : ℕ) (b : Bool)
      → unless_end b (walk fuel file) file w ≡ cond b (at_end file (past file w).at) (walk fuel file (past file w))
  unfolding unless_end
  after_step fuel true = refl
  after_step fuel false = refl

  -- a record that is kept
  past_reached : (w.before ≡ 6 → ⊥) → first_wrong (record_rules file w) ≡ none
      → Reached file (past file w) (sections_past (past file w).before (past file w).at s)
  unfolding unless_refused rest past
  past_reached not_end e =
      let step = walk_step not_end in
      let k = kept file w e in
      record {
        done = r.done ++ (span_at file w ∷ []);
        fuel = step.0;
        enough = omega (arith, r.enough, step.1, past_further file w k);
        so_far =
            r.so_far ∙ ap (all_before r.done) (step.2 ∙ rw e (ap (and_before (span_at file w)) (after_step step.0 (eqb (kind_at file w) 6)))) ∙
            sym (all_before_more r.done (span_at file w) (rest step.0 file (past file w)));
        places = places_past file w k r.places;
        short = r.short;
      }

  pub goes_on : {w' : Reader} {t : Sections} → (w.before ≡ 6 → ⊥) → first_wrong (record_rules file w) ≡ none → w' ≡ past file w
      → t ≡ sections_past w'.before w'.at s → Reached file w' t
  goes_on {w'} {t} not_end e next sections =
      subst⁻¹ (Reached file w') sections
      (subst⁻¹ (λ (v : Reader). Reached file v (sections_past v.before v.at s)) next (past_reached not_end e))

  -- the problem of a file that ends with kind 6 stands where the sections say
  problem_here : w.before ≡ 6 → problem_of file r.done ≡ problem_at file (problem_from s w.n w.m)
  unfolding problem_of problem_at
  problem_here end = go r.places.counted
    where
      go : Counted file w → problem_of file r.done ≡ problem_at file (problem_from s w.n w.m)
      go (inl start) = absurd (omega (arith, start.0, end))
      go (inr known) =
          rw (
            r.places.init.clauses,
            r.places.tr.clauses,
            r.places.bad.clauses,
            r.places.lemmas.clauses,
            known.1,
            known.2,
          )

  pub ends : w.before ≡ 6 → length file ≤ w.at
      → (read file ≡ accepted (problem_at file (problem_from s w.n w.m))) × Placed file (problem_from s w.n w.m)
  unfolding read reading_of rest at_end kind_row kind_table no_kind
  ends end whole = (is_read, placed)
    where
      is_records : walked file ≡ records r.done
      is_records =
          r.so_far ∙
          ap (all_before r.done)
          (rw (eq-eqb w.before 6 end, le-ltb w.at (length file) whole)) ∙
          all_before_records r.done [] ∙ ap records (append-nil r.done)

      is_read : read file ≡ accepted (problem_at file (problem_from s w.n w.m))
      is_read = ap (reading_of file) is_records ∙ ap accepted (problem_here end)

      placed : Placed file (problem_from s w.n w.m)
      placed =
          record {
            short = r.short;
            n_in = r.places.sane.n;
            m_in = r.places.sane.m;
            k_in = r.places.lemmas.few;
            counts_in = omega (arith, r.places.total, r.places.sane.clauses);
            init_in = r.places.init.inside;
            tr_in = r.places.tr.inside;
            bad_in = r.places.bad.inside;
            lemmas_in = r.places.lemmas.inside;
            well_formed = accepted_well_formed file (problem_at file (problem_from s w.n w.m)) is_read;
          }

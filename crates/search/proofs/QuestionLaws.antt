-- The parts of the three questions: their clauses are the question's, and they can be read where they stand.
use Prim.Native.Nat.{ℕ, zero, suc, ◌+◌, ◌-◌, ◌/◌, ◌≤◌, ◌<◌}
use native.Mathlib.Nat.{not-suc-le-zero, le_of_suc-le-suc, zero-add}
use native.Mathlib.Omega.{arith}
use mathlib.Core.Path.{◌≡◌, refl, sym, ap, ◌∙◌, subst}
use mathlib.Core.Bool.{Bool, true, false}
use mathlib.Core.List.{List, [], ◌∷◌, ◌++◌, map, append-nil}
use lib.ListN.{length, get_or, take}
use Rattle.meaning.specs.Clauses.{pos, neg, Clause}
use Rattle.meaning.specs.Meaning.{at_marks, lemmas_of}
use Rattle.meaning.specs.Meaning
use Rattle.meaning.specs.File.{two_at, literals}
use Rattle.meaning.specs.Search.{blank, search_from, searched}
use Rattle.meaning.specs.Rules.{denied, next, lemma, clauses, width, answer, asked}
use Rattle.meaning.specs.Rules
use Rattle.laws.specs.Within.{ClauseWithin}
use Rattle.laws.specs.Range.{clause_wider, within_wider, present_within}
use Rattle.laws.specs.Setting.{unset_blank}
use Rattle.laws.specs.Questions.{next_within, lemma_within, clauses_within}
use Rattle.laws.specs.Wider.{wider}
use Rattle.format.specs.declared.Problem.{Problem}
use Rattle.format.specs.Section.{next_record, clause_at, section, Inside, problem_at, Placed}
use Rattle.format.specs.declared.Section.{Section}
use Rattle.search.specs.declared.Question.TheVariants.{Initiation, Step, Safety}
use Rattle.search.specs.Engine.{search_at}
use Rattle.passes.specs.Places.{Records}
use Rattle.search.specs.Places.{parts_clauses, place, LemmaAt, Asks}
use Rattle.passes.proofs.PlaceLaws.{pred_suc, marks_none, half_twice}

pub place_more : (file : List ℕ) (at left : ℕ) → 0 < left → place file at left ≡ place file (next_record file at) (left - 1)
unfolding place
place_more file at zero h = absurd (not-suc-le-zero h)
place_more file at (suc left) h = ap (place file (next_record file at)) (sym (pred_suc left))

pub place_done : (file : List ℕ) (at left : ℕ) → left ≤ 0 → place file at left ≡ at
unfolding place
place_done file at zero h = refl
place_done file at (suc left) h = absurd (not-suc-le-zero h)

-- the records before a position lie inside the file, and so does its own
pub inside_before : (file : List ℕ) (at k d : ℕ) → d < k → Inside file at k → Inside file at d
inside_before file at zero d h i = absurd (not-suc-le-zero h)
inside_before file at (suc k) zero h i = tt
inside_before file at (suc k) (suc d) h i = (i.0, inside_before file (next_record file at) k d (le_of_suc-le-suc h) i.1)

inside_at : (file : List ℕ) (at k d : ℕ) → d < k → Inside file at k → next_record file (place file at d) ≤ length file
unfolding place
inside_at file at zero d h i = absurd (not-suc-le-zero h)
inside_at file at (suc k) zero h i = i.0
inside_at file at (suc k) (suc d) h i = inside_at file (next_record file at) k d (le_of_suc-le-suc h) i.1

-- the clause at a position
clause_there : (file : List ℕ) (at k d : ℕ) → d < k → get_or (section file at k) d [] ≡ clause_at file (place file at d)
unfolding section place
clause_there file at zero d h = absurd (not-suc-le-zero h)
clause_there file at (suc k) zero h = refl
clause_there file at (suc k) (suc d) h = clause_there file (next_record file at) k d (le_of_suc-le-suc h)

-- k marks are enough for k lemmas
marks_enough : (file : List ℕ) (at k : ℕ) (on : List Bool) → at_marks on (section file at k) ≡ at_marks (take k on) (section file at k)
unfolding section at_marks
marks_enough file at zero on = marks_none on ∙ sym (marks_none (take zero on))
marks_enough file at (suc k) [] = refl
marks_enough file at (suc k) (true ∷ on) = ap (λ (cs : List Clause). clause_at file at ∷ cs) (marks_enough file (next_record file at) k on)
marks_enough file at (suc k) (false ∷ on) = marks_enough file (next_record file at) k on

next_zero : (c : Clause) → map (next 0) c ≡ c
unfolding next
next_zero [] = refl
next_zero (pos x ∷ c) = cc (zero-add x, next_zero c)
next_zero (neg x ∷ c) = cc (zero-add x, next_zero c)

no_records : (file : List ℕ) → Records file 0 0
unfolding section
no_records file = record { inside = tt; within = tt }

module _ (file : List ℕ) (p : Problem) (placed : Placed file p) where
  n_small : p.n ≤ 96
  n_small = placed.n_in

  width_small : width (problem_at file p) ≤ 512
  unfolding problem_at width
  width_small = omega (arith, placed.n_in, placed.m_in)

  init_records : Records file p.init.at p.init.count
  unfolding problem_at
  init_records =
      record {
        inside = placed.init_in;
        within = within_wider p.n 512 (omega (arith, n_small)) (section file p.init.at p.init.count) placed.well_formed.init;
      }

  tr_records : Records file p.tr.at p.tr.count
  unfolding problem_at
  tr_records =
      record {
        inside = placed.tr_in;
        within = within_wider (width (problem_at file p)) 512 width_small (section file p.tr.at p.tr.count) placed.well_formed.tr;
      }

  bad_records : Records file p.bad.at p.bad.count
  unfolding problem_at width
  bad_records =
      record {
        inside = placed.bad_in;
        within =
            within_wider (width (problem_at file p)) 512 width_small (section file p.bad.at p.bad.count)
            (present_within p.n p.m (section file p.bad.at p.bad.count) placed.well_formed.bad);
      }

  lemma_records : Records file p.lemmas_at p.k
  unfolding problem_at
  lemma_records =
      record {
        inside = placed.lemmas_in;
        within = within_wider p.n 512 (omega (arith, n_small)) (section file p.lemmas_at p.k) placed.well_formed.lemmas;
      }

  -- the lemma of a position, read at its place
  module _ (d : ℕ) (h : d < p.k) (at : ℕ) (e : at ≡ place file p.lemmas_at d) where
    pub lemma_inside : at + 4 + two_at file at ≤ length file
    unfolding next_record
    lemma_inside = subst (λ (x : ℕ). x + 4 + two_at file x ≤ length file) (sym e) (inside_at file p.lemmas_at p.k d h placed.lemmas_in)

    pub lemma_there : (count : ℕ) → count ≡ two_at file at / 2 → LemmaAt file p d (record { at = at + 4; count = count })
    unfolding problem_at lemma clause_at
    lemma_there count half =
        record {
          inside = omega (arith, lemma_inside, half, half_twice (two_at file at));
          there =
              ap (literals file (at + 4)) half
              ∙ ap (clause_at file) e ∙ sym (clause_there file p.lemmas_at p.k d h);
        }

  -- the parts of a question about the lemma d, whose literals stand at r
  module _ (d : ℕ) (r : Section) (is : LemmaAt file p d r) where
    here_within : ClauseWithin p.n (literals file r.at r.count)
    unfolding problem_at
    here_within = subst (ClauseWithin p.n) (sym is.there) (lemma_within (problem_at file p) placed.well_formed d)

    pub initiation_parts : Asks file p (Initiation d) (record {
      first = record { at = p.init.at; count = p.init.count };
      lemmas = record { at = 0; count = 0 };
      last = record { at = 0; count = 0 };
      denied = r;
      added = 0;
    })
    unfolding parts_clauses clauses problem_at section
    initiation_parts =
        record {
          sound =
              record {
                first = init_records;
                lemmas = no_records file;
                few = omega arith;
                last = no_records file;
                deny =
                    record {
                      inside = is.inside;
                      within =
                          subst (ClauseWithin 512) (sym (next_zero (literals file r.at r.count)))
                          (clause_wider p.n 512 (omega (arith, n_small)) (literals file r.at r.count) here_within);
                    };
              };
          same =
              λ on.
              ap (λ (cs : List Clause). section file p.init.at p.init.count ++ cs)
              (ap (λ (cs : List Clause). cs ++ denied (map (next 0) (literals file r.at r.count))) (marks_none on)
              ∙ ap denied (next_zero (literals file r.at r.count) ∙ is.there));
        }

    pub step_parts : Asks file p (Step d) (record {
      first = record { at = p.tr.at; count = p.tr.count };
      lemmas = record { at = p.lemmas_at; count = p.k };
      last = record { at = 0; count = 0 };
      denied = r;
      added = p.n;
    })
    unfolding parts_clauses clauses problem_at section lemmas_of
    step_parts =
        record {
          sound =
              record {
                first = tr_records;
                lemmas = lemma_records;
                few = placed.k_in;
                last = no_records file;
                deny =
                    record {
                      inside = is.inside;
                      within =
                          clause_wider (p.n + p.n) 512 (omega (arith, n_small)) (map (next p.n) (literals file r.at r.count))
                          (next_within p.n (literals file r.at r.count) here_within);
                    };
              };
          same =
              λ on.
              ap (λ (cs : List Clause). section file p.tr.at p.tr.count ++ (cs ++ denied (map (next p.n) (literals file r.at r.count))))
              (marks_enough file p.lemmas_at p.k on)
              ∙ ap (λ (c : Clause).
              section file p.tr.at p.tr.count
              ++ (at_marks (take p.k on) (section file p.lemmas_at p.k) ++ denied (map (next p.n) c))) is.there;
        }

  pub safety_parts : Asks file p Safety (record {
    first = record { at = 0; count = 0 };
    lemmas = record { at = p.lemmas_at; count = p.k };
    last = record { at = p.bad.at; count = p.bad.count };
    denied = record { at = 0; count = 0 };
    added = 0;
  })
  unfolding parts_clauses clauses problem_at section lemmas_of literals denied
  safety_parts =
      record {
        sound =
            record {
              first = no_records file;
              lemmas = lemma_records;
              few = placed.k_in;
              last = bad_records;
              deny = record { inside = omega arith; within = tt };
            };
        same =
            λ on.
            ap (λ (cs : List Clause). cs ++ (section file p.bad.at p.bad.count ++ [])) (marks_enough file p.lemmas_at p.k on)
            ∙ ap (λ (cs : List Clause). at_marks (take p.k on) (section file p.lemmas_at p.k) ++ cs)
            (append-nil (section file p.bad.at p.bad.count));
      }

  -- the search of a question over all 512 variables answers it
  pub asked_here : (S : Meaning.Marks) (q : Rules.Question) (cs : List Clause) → cs ≡ clauses (problem_at file p) S q
      → answer (search_at cs (blank 512)) ≡ asked (problem_at file p) S q
  unfolding search_at asked searched
  asked_here S q cs e =
      ap (λ (ds : List Clause). answer (search_at ds (blank 512))) e
      ∙ ap (λ (f : ℕ). answer (search_from f (clauses (problem_at file p) S q) (blank 512))) (unset_blank 512)
      ∙ sym (wider (width (problem_at file p)) 512 width_small (clauses (problem_at file p) S q)
      (clauses_within (problem_at file p) placed.well_formed S q))

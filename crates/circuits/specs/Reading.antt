-- Both texts read, and the file that is written.
use Rattle.std.specs.Prelude.{ℕ, ◌+◌, ◌≤◌, ◌<◌, ◌≡◌, Bool, true, false, ◌||◌, cond, ltb, Result, Ok, Err, IsOkAnd, MatchResult}
use Rattle.std.proofs.Common.{arith, ◌∙◌}
use Rattle.std.proofs.Math.Path.{refl, sym, ap, subst}
use mathlib.Core.List.{List, [], ◌++◌}
use Rattle.std.proofs.Math.ListN.{length, take, drop, length-append}
use Rattle.std.proofs.Math.Seq.{take-append_seam}
use borrow.Author.Tests.{lt-ltb, le-ltb}
use Rattle.meaning.specs.Meaning.{Problem}
use Rattle.meaning.specs.File.{accepted, rejected}
use Rattle.meaning.specs.Filed.{file_of}
use Rattle.meaning.specs.LemmaText.{read_lemma_text}
use Rattle.meaning.specs.Clauses.{Clause}
use Rattle.meaning.specs.Built.{built}
use Rattle.meaning.specs.CircuitText
use Rattle.meaning.specs.CircuitText.{read_circuit_text}
use Rattle.meaning.specs.LemmaText
use Rattle.meaning.specs.Circuits.{read_circuit, on_circuit, on_lemmas, over_limits, has_liveness, clause_count, refusal_13, refusal_14, refusal_15}
use Rattle.circuit_laws.specs.Limits.{in_limits}
use Rattle.circuit_laws.specs.AcceptedTexts.{accepted_fits}
use Rattle.records.specs.Put.{put}
use Rattle.lines.specs.declared.fault.Fault.{Fault}
use Rattle.std.specs.Prelude.{Ok, Err}
use Rattle.circuit_text.specs.Read.{TextRead}
use Rattle.lines.specs.declared.fault.Fault.{Fault}
use Rattle.lemma_text.specs.declared.Lemmas.{Lemmas}
use Rattle.lemma_text.specs.Rest.{summary_of, lemmas_of, longest}
use Rattle.sections.specs.declared.circuit.Circuit.{Circuit}
use Rattle.sections.specs.Whole.{circuit_at, Whole, rows_few, latch_count, input_count, gate_count}
use Rattle.clause_count.specs.Bad.{OneBad}
use Rattle.clause_count.specs.Tally.{with_lemmas}
use Rattle.built.specs.Edges.{Small}
use Rattle.built.specs.Problem.{problem_of}
use Rattle.circuits.specs.declared.limits.Counted.{Counted}
use Rattle.circuits.specs.Limits.{over_counts, over_is, longest_within, one_within, text_within, lemmas_within, liveness, liveness_is}
use Rattle.circuits.specs.declared.refusal.Refusal.{Refusal}
use Rattle.circuits.specs.Refused.{number_of, place_of}

-- a circuit and lemmas whose problem is within the limits
pub record WithinLimits (text lemmas : List ℕ) (c : Circuit) : Type 0 where
  pub is : read_circuit text lemmas ≡ accepted (problem_of text c lemmas)
  pub small : Small text c
  pub one : OneBad c.properties
  pub short : IsOkAnd (summary_of (read_lemma_text c.latches.count lemmas)) (λ l. l.longest ≤ 64)

-- the reading refuses them so
abbrev pub Refuses : List ℕ → List ℕ → Refusal → Type 0
Refuses text lemmas r = read_circuit text lemmas ≡ rejected (record { number = number_of r; place = place_of r })

abbrev pub Judged : List ℕ → List ℕ → Result Circuit Refusal → Type 0
Judged text lemmas r = MatchResult r (WithinLimits text lemmas) (Refuses text lemmas)

-- a problem file in the first bytes
pub record WrittenAs (text lemmas out : List ℕ) (len : ℕ) : Type 0 where
  pub problem : Problem
  pub is : read_circuit text lemmas ≡ accepted problem
  pub bytes : take len out ≡ file_of problem
  pub inside : len ≤ length out
  pub most : len ≤ 46220

abbrev pub FiledAs : List ℕ → List ℕ → List ℕ → Result ℕ Refusal → Type 0
FiledAs text lemmas out r = MatchResult r (WrittenAs text lemmas out) (Refuses text lemmas)

-- ---- the lemmas, and the limits

-- a section stands in a text, so its count is small
pub few_latches : (text : List ℕ) (c : Circuit) → Whole text c → length text ≤ 18446744073709551615 → c.latches.count < 18446744073709551610
few_latches text c w short = omega (arith, rows_few 2 2 (omega arith) w.latches)

module _ (text lemmas : List ℕ) (c : Circuit) (whole : Whole text c) (reads : read_circuit_text text ≡ CircuitText.right (circuit_at text c)) where
  on_text : read_circuit text lemmas ≡ on_lemmas text lemmas (circuit_at text c) (read_lemma_text c.latches.count lemmas)
  unfolding read_circuit on_circuit
  on_text =
      ap (on_circuit text lemmas) reads
      ∙ ap (λ (n : ℕ). on_lemmas text lemmas (circuit_at text c) (read_lemma_text n lemmas)) (latch_count text c)

  pub lemmas_wrong : (fault : Fault) → Err fault ≡ summary_of (read_lemma_text c.latches.count lemmas)
      → read_circuit text lemmas ≡ rejected (record { number = 13; place = fault.at })
  unfolding on_lemmas refusal_13 summary_of
  lemmas_wrong fault is = on_text ∙ go (read_lemma_text c.latches.count lemmas) is
    where
      go : (l : LemmaText.Lemmas) → Err fault ≡ summary_of l
          → on_lemmas text lemmas (circuit_at text c) l ≡ rejected (record { number = 13; place = fault.at })
      go (LemmaText.wrong at) e = cc
      go (LemmaText.right cs) e = cc

  module _ (found : Lemmas) (found_is : Ok found ≡ summary_of (read_lemma_text c.latches.count lemmas)) where
    abbrev counted : Counted
    counted =
        record {
          text = length text;
          lemma_text = length lemmas;
          latches = c.latches.count;
          inputs = c.inputs.count;
          gates = c.gates.count;
          outputs = c.properties.outputs.count;
          bads = c.properties.bads.count;
          lemmas = found.count;
          longest = found.longest;
        }

    -- the lemmas, and what is counted of them
    right_is : (cs : List Clause) × (read_lemma_text c.latches.count lemmas ≡ LemmaText.right cs) × (found.count ≡ length cs) × (found.longest ≡ longest cs)
    unfolding summary_of
    right_is = go (read_lemma_text c.latches.count lemmas) refl found_is
      where
        go : (l : LemmaText.Lemmas) → read_lemma_text c.latches.count lemmas ≡ l → Ok found ≡ summary_of l
            → (cs : List Clause) × (read_lemma_text c.latches.count lemmas ≡ LemmaText.right cs) × (found.count ≡ length cs) × (found.longest ≡ longest cs)
        go (LemmaText.wrong at) t is = cc
        go (LemmaText.right cs) t is = (cs, t, cc, cc)

    on_right : read_circuit text lemmas
        ≡ cond (has_liveness (circuit_at text c)) refusal_15
        (cond (over_limits text lemmas (circuit_at text c) right_is.0) refusal_14 (accepted (built (circuit_at text c) right_is.0)))
    unfolding on_lemmas
    on_right = on_text ∙ ap (on_lemmas text lemmas (circuit_at text c)) right_is.1

    module _ (live : Bool) (live_said : live ≡ liveness c.properties) where
      pub liveness_wrong : live ≡ true → read_circuit text lemmas ≡ rejected (record { number = 15; place = 0 })
      unfolding refusal_15
      liveness_wrong e = on_right ∙ rw (liveness_is text c ∙ sym live_said ∙ e)

      module _ (not_live : live ≡ false) (b : Bool) (said : b ≡ over_counts counted) where
        -- over the limits, by counts and by clauses
        over_found : (n : ℕ) → n ≡ clause_count (built (circuit_at text c) [])
            → over_limits text lemmas (circuit_at text c) right_is.0 ≡ (over_counts counted || ltb 4096 (n + found.count))
        over_found n n_is =
            over_is text lemmas c right_is.0
            ∙ cc (right_is.2, right_is.3, with_lemmas (circuit_at text c) right_is.0, n_is)

        on_live : read_circuit text lemmas
            ≡ cond (over_limits text lemmas (circuit_at text c) right_is.0) refusal_14 (accepted (built (circuit_at text c) right_is.0))
        on_live = on_right ∙ rw (liveness_is text c ∙ sym live_said ∙ not_live)

        pub limits_over : b ≡ true → read_circuit text lemmas ≡ rejected (record { number = 14; place = 0 })
        unfolding refusal_14
        limits_over e = on_live ∙ rw (over_found _ refl, sym said ∙ e)

        module _ (kept : b ≡ false) where
          pub one_kept : OneBad c.properties
          one_kept = one_within counted (sym said ∙ kept)

          pub text_kept : length text ≤ 65536
          text_kept = text_within counted (sym said ∙ kept)

          pub lemmas_kept : found.count ≤ 128
          lemmas_kept = lemmas_within counted (sym said ∙ kept)

          module _ (n : ℕ) (n_is : n ≡ clause_count (built (circuit_at text c) [])) where
            pub clauses_over : 4096 < n + found.count → read_circuit text lemmas ≡ rejected (record { number = 14; place = 0 })
            unfolding refusal_14
            clauses_over more = on_live ∙ rw (over_found n n_is, sym said ∙ kept, lt-ltb 4096 (n + found.count) more)

            within : n + found.count ≤ 4096 → over_limits text lemmas (circuit_at text c) right_is.0 ≡ false
            within few = over_found n n_is ∙ rw (sym said ∙ kept, le-ltb 4096 (n + found.count) few)

            pub limits_kept : n + found.count ≤ 4096 → WithinLimits text lemmas c
            unfolding lemmas_of
            limits_kept few =
                let limits = in_limits text lemmas (circuit_at text c) right_is.0 (within few) in
                record {
                  is = on_live ∙ rw (within few) (ap (λ (l : LemmaText.Lemmas). accepted (built (circuit_at text c) (lemmas_of l))) (sym right_is.1));
                  small =
                      record {
                        whole = whole;
                        latches = subst (λ (k : ℕ). k ≤ 96) (latch_count text c) limits.latches_few;
                        helpers = omega (arith, limits.helpers_few, input_count text c, gate_count text c);
                      };
                  one = one_kept;
                  short =
                      subst (λ (r : Result Lemmas Fault). IsOkAnd r (λ (l : Lemmas). l.longest ≤ 64)) found_is
                      (longest_within counted (sym said ∙ kept));
                }

-- ---- both texts

pub circuit_wrong : (text lemmas : List ℕ) (at : ℕ) → read_circuit_text text ≡ CircuitText.wrong at
    → read_circuit text lemmas ≡ rejected (record { number = 13; place = at })
unfolding read_circuit on_circuit refusal_13
circuit_wrong text lemmas at e = ap (on_circuit text lemmas) e

pub found_fault : (text lemmas : List ℕ) (e : Fault) → TextRead text (Err e) → read_circuit text lemmas ≡ rejected (record { number = 13; place = e.at })
found_fault text lemmas e r = circuit_wrong text lemmas e.at r

pub found_whole : (text : List ℕ) (c : Circuit) → TextRead text (Ok c) → Whole text c × (read_circuit_text text ≡ CircuitText.right (circuit_at text c))
found_whole text c r = (r.1, r.0)

-- ---- the file

module _ (text lemmas : List ℕ) (c : Circuit) (within : WithinLimits text lemmas c) where
  pub texts_fit : length (file_of (problem_of text c lemmas)) ≤ 46220
  texts_fit = (accepted_fits text lemmas (problem_of text c lemmas) within.is).1

  pub texts_written : (out after : List ℕ) (len : ℕ) → 46220 ≤ length out → len ≡ length (file_of (problem_of text c lemmas))
      → after ≡ put 0 (file_of (problem_of text c lemmas)) out → WrittenAs text lemmas after len
  unfolding put
  texts_written out after len room len_is after_is =
      let bytes = file_of (problem_of text c lemmas) in
      record {
        problem = problem_of text c lemmas;
        is = within.is;
        bytes =
            ap (take len) after_is ∙ ap (λ (k : ℕ). take k (bytes ++ drop (0 + length bytes) out)) len_is
            ∙ take-append_seam bytes (drop (0 + length bytes) out);
        inside =
            omega (arith, len_is, ap length after_is, length-append bytes (drop (0 + length bytes) out));
        most = subst (λ (k : ℕ). k ≤ 46220) (sym len_is) texts_fit;
      }

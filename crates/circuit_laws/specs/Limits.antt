-- The problem built from a circuit and lemmas within the limits of the texts is within the limits of problem files, and so is its file.
use Rattle.std.specs.Prelude.{ℕ, zero, suc, ◌+◌, ◌*◌, ◌≤◌, ◌≡◌, refl, false, not, ◌||◌, List, [], ◌∷◌, ◌++◌, length, ltb, eqb}
use native.Mathlib.Omega.{arith}
use Rattle.std.proofs.Common.{ltb-false, eqb-true}
use Rattle.std.proofs.lemmas.Bool.{eqb-false}
use Rattle.meaning.specs.Clauses.{Clause, any}
use Rattle.meaning.specs.File.{file_most, n_most, m_most, clauses_most, lemmas_most}
use Rattle.meaning.specs.Filed.{file_of, clause_records}
use Rattle.meaning.specs.Circuit.{Circuit, bad_literal}
use Rattle.meaning.specs.Built.{n_of, gates_clauses, latches_clauses, start_clauses, one_clauses, built}
use Rattle.meaning.specs.Circuits.{over_limits, literals_most, clause_count}
use Rattle.laws.specs.Basics.{true_of_not}
use Rattle.laws.specs.Within.{Within}
use Rattle.laws.specs.Accepted.{or_false_left, or_false_right}
use Rattle.filed.specs.Fits.{Short, Fits}
use Rattle.filed.specs.Length.{records_length, file_length}
use Rattle.circuit_laws.specs.Sane.{Sane}
use Rattle.circuit_laws.specs.Numbers.{helper_count}
use Rattle.circuit_laws.specs.BuiltNames.{built_well_formed}
use Rattle.circuit_laws.specs.Sizes.{Sized, sized_append, gates_sized, latches_sized, starts_sized, ones_sized, short_sized}

-- ---- 14, taken apart

pub record InLimits (text lemma_text : List ℕ) (c : Circuit) (lemmas : List Clause) : Type 0 where
  pub text_few : length text ≤ file_most
  pub lemma_text_few : length lemma_text ≤ file_most
  pub latches_least : 1 ≤ length c.latches
  pub latches_few : length c.latches ≤ n_most
  pub helpers_few : length c.inputs + length c.gates ≤ m_most
  pub one_bad : length c.outputs + length c.bads ≡ 1
  pub lemmas_few : length lemmas ≤ lemmas_most
  pub lemmas_short : Short lemmas
  pub clauses_few : clause_count (built c lemmas) ≤ clauses_most

none_long : (cs : List Clause) → any (λ (d : Clause). ltb literals_most (length d)) cs ≡ false → Short cs
unfolding any
none_long [] h = tt
none_long (c ∷ cs) h = (
  ltb-false literals_most (length c) (or_false_left (ltb literals_most (length c)) _ h),
  none_long cs (or_false_right (ltb literals_most (length c)) _ h),
)

pub in_limits : (text lemma_text : List ℕ) (c : Circuit) (lemmas : List Clause) → over_limits text lemma_text c lemmas ≡ false
    → InLimits text lemma_text c lemmas
unfolding over_limits
in_limits text lemma_text c lemmas h =
    let long = ltb file_most (length text) in
    let long_lemmas = ltb file_most (length lemma_text) in
    let no_latch = eqb (length c.latches) 0 in
    let many_latches = ltb n_most (length c.latches) in
    let many_helpers = ltb m_most (length c.inputs + length c.gates) in
    let other_bad = not (eqb (length c.outputs + length c.bads) 1) in
    let many_lemmas = ltb lemmas_most (length lemmas) in
    let long_lemma = any (λ (d : Clause). ltb literals_most (length d)) lemmas in
    let many_clauses = ltb clauses_most (clause_count (built c lemmas)) in
    let upto₂ = long || long_lemmas in
    let upto₃ = upto₂ || no_latch in
    let upto₄ = upto₃ || many_latches in
    let upto₅ = upto₄ || many_helpers in
    let upto₆ = upto₅ || other_bad in
    let upto₇ = upto₆ || many_lemmas in
    let upto₈ = upto₇ || long_lemma in
    let h₈ = or_false_left upto₈ many_clauses h in
    let h₇ = or_false_left upto₇ long_lemma h₈ in
    let h₆ = or_false_left upto₆ many_lemmas h₇ in
    let h₅ = or_false_left upto₅ other_bad h₆ in
    let h₄ = or_false_left upto₄ many_helpers h₅ in
    let h₃ = or_false_left upto₃ many_latches h₄ in
    let h₂ = or_false_left upto₂ no_latch h₃ in
    record {
      text_few = ltb-false file_most (length text) (or_false_left long long_lemmas h₂);
      lemma_text_few = ltb-false file_most (length lemma_text) (or_false_right long long_lemmas h₂);
      latches_least = at_least_one (length c.latches) (eqb-false (length c.latches) 0 (or_false_right upto₂ no_latch h₃));
      latches_few = ltb-false n_most (length c.latches) (or_false_right upto₃ many_latches h₄);
      helpers_few = ltb-false m_most (length c.inputs + length c.gates) (or_false_right upto₄ many_helpers h₅);
      one_bad =
          eqb-true (length c.outputs + length c.bads) 1
          (true_of_not (eqb (length c.outputs + length c.bads) 1) (or_false_right upto₅ other_bad h₆));
      lemmas_few = ltb-false lemmas_most (length lemmas) (or_false_right upto₆ many_lemmas h₇);
      lemmas_short = none_long lemmas (or_false_right upto₇ long_lemma h₈);
      clauses_few = ltb-false clauses_most (clause_count (built c lemmas)) (or_false_right upto₈ many_clauses h);
    }
  where
    at_least_one : (k : ℕ) → (k ≡ 0 → ⊥) → 1 ≤ k
    at_least_one zero f = absurd (f refl)
    at_least_one (suc k) f = omega arith

-- ---- how much there is

-- 8 for the first record and 4 for the end; 6 for each of 4,096 clauses with its one literal; 2 for each literal beyond that: 4 a gate in Tr
-- and again in Bad, 2 a latch in Tr, 63 a lemma
abbrev pub built_most : ℕ
built_most = 46220

records_most : (kind : ℕ) (cs : List Clause) {excess : ℕ} → Sized cs excess → length (clause_records kind cs) ≤ 6 * length cs + 2 * excess
records_most kind cs h = omega (arith, records_length kind cs, h.small)

module _ (c : Circuit) where
  tr_sized : Sized (gates_clauses c c.gates ++ (latches_clauses c 1 c.latches ++ one_clauses c c.constraints))
      (4 * length c.gates + 2 * length c.latches)
  tr_sized =
      sized_append (gates_clauses c c.gates) (latches_clauses c 1 c.latches ++ one_clauses c c.constraints) _ (omega arith)
      (gates_sized c c.gates)
      (sized_append (latches_clauses c 1 c.latches) (one_clauses c c.constraints) (2 * length c.latches) (omega arith)
      (latches_sized c 1 c.latches) (ones_sized c c.constraints))

  bad_sized : Sized (gates_clauses c c.gates ++ one_clauses c (bad_literal c ∷ c.constraints)) (4 * length c.gates)
  bad_sized =
      sized_append (gates_clauses c c.gates) (one_clauses c (bad_literal c ∷ c.constraints)) _ (omega arith)
      (gates_sized c c.gates) (ones_sized c (bad_literal c ∷ c.constraints))

module _ (text lemma_text : List ℕ) (c : Circuit) (lemmas : List Clause) (h : InLimits text lemma_text c lemmas) where
  pub built_length : length (file_of (built c lemmas)) ≤ built_most
  unfolding built clause_count
  built_length =
      omega (
        arith,
        file_length (built c lemmas),
        records_most 2 (start_clauses 1 c.latches) (starts_sized 1 c.latches),
        records_most 3 (gates_clauses c c.gates ++ (latches_clauses c 1 c.latches ++ one_clauses c c.constraints)) (tr_sized c),
        records_most 4 (gates_clauses c c.gates ++ one_clauses c (bad_literal c ∷ c.constraints)) (bad_sized c),
        records_most 5 lemmas (short_sized lemmas h.lemmas_short),
        h.latches_few,
        h.helpers_few,
        h.lemmas_few,
        h.clauses_few,
      )

  built_within : Sane c → Within (length c.latches) lemmas → Fits (built c lemmas)
  unfolding built n_of clause_count
  built_within s within =
      record {
        n_least = h.latches_least;
        n_most = h.latches_few;
        m_most = rw helper_count h.helpers_few;
        named = built_well_formed c lemmas s h.one_bad within;
        init_short = (starts_sized 1 c.latches).short;
        tr_short = (tr_sized c).short;
        bad_short = (bad_sized c).short;
        lemmas_short = h.lemmas_short;
        clauses = h.clauses_few;
        lemmas = h.lemmas_few;
        bytes = omega (arith, built_length);
      }

pub built_fits : (text lemma_text : List ℕ) (c : Circuit) (lemmas : List Clause) → Sane c → Within (length c.latches) lemmas
    → over_limits text lemma_text c lemmas ≡ false → Fits (built c lemmas) × (length (file_of (built c lemmas)) ≤ built_most)
built_fits text lemma_text c lemmas s within e =
    let h = in_limits text lemma_text c lemmas e in
    (built_within text lemma_text c lemmas h s within, built_length text lemma_text c lemmas h)

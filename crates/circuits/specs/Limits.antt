-- 14 and 15, by counts.
use Rattle.std.specs.Prelude.{ℕ, zero, suc, ◌+◌, ◌≤◌, max, ◌≡◌, refl, ◌⊎◌, Bool, true, false, not, ◌||◌, List, [], ◌∷◌, length, ltb, eqb}
use Rattle.std.proofs.Common.{arith, sym, ap, inl, inr, true≢false, lt-ltb, le-ltb, ltb-true, ltb-false, eqb-true, ne_eqb}
use Rattle.meaning.specs.Clauses.{Clause, any}
use Rattle.meaning.specs.Circuits.{over_limits, has_liveness, clause_count, literals_most}
use Rattle.meaning.specs.Built.{built}
use Rattle.laws.specs.Basics.{bool_cases}
use Rattle.laws.specs.Accepted.{or_false_left, or_false_right}
use Rattle.lemma_text.specs.Rest.{longest}
use Rattle.sections.specs.declared.circuit.Circuit.{Circuit}
use Rattle.sections.specs.declared.circuit.Properties.{Properties}
use Rattle.circuits.specs.declared.limits.Counted.{Counted}
use Rattle.sections.specs.Whole.{circuit_at, latch_count, input_count, output_count, bad_count, justice_count, fairness_count, gate_count}

unfoldable pub over_counts : Counted → Bool
over_counts x =
    ltb 65536 x.text || ltb 65536 x.lemma_text || eqb x.latches 0 || ltb 96 x.latches || ltb 320 (x.inputs + x.gates)
    || not (eqb (x.outputs + x.bads) 1) || ltb 128 x.lemmas || ltb 64 x.longest

pub longest_within : (x : Counted) → over_counts x ≡ false → x.longest ≤ 64
unfolding over_counts
longest_within x h =
    ltb-false 64 x.longest
    (or_false_right
    (ltb 65536 x.text || ltb 65536 x.lemma_text || eqb x.latches 0 || ltb 96 x.latches || ltb 320 (x.inputs + x.gates)
    || not (eqb (x.outputs + x.bads) 1) || ltb 128 x.lemmas)
    (ltb 64 x.longest) h)

-- some lemma is too long exactly if the longest is
pub longest_over : (cs : List Clause) → any (λ (d : Clause). ltb literals_most (length d)) cs ≡ ltb 64 (longest cs)
unfolding any longest
longest_over [] = refl
longest_over (c ∷ cs) = go (bool_cases (ltb 64 (length c))) (bool_cases (ltb 64 (longest cs))) (longest_over cs)
  where
    go : (ltb 64 (length c) ≡ true) ⊎ (ltb 64 (length c) ≡ false) → (ltb 64 (longest cs) ≡ true) ⊎ (ltb 64 (longest cs) ≡ false)
        → any (λ (d : Clause). ltb literals_most (length d)) cs ≡ ltb 64 (longest cs)
        → (ltb 64 (length c) || any (λ (d : Clause). ltb literals_most (length d)) cs) ≡ ltb 64 (max (length c) (longest cs))
    go (inl t) v on = rw t (sym (lt-ltb 64 (max (length c) (longest cs)) (omega (arith, ltb-true 64 (length c) t))))
    go (inr t) (inl v) on =
        rw (t, on, v) (sym (lt-ltb 64 (max (length c) (longest cs)) (omega (arith, ltb-true 64 (longest cs) v))))
    go (inr t) (inr v) on =
        rw (t, on, v)
        (sym (le-ltb 64 (max (length c) (longest cs)) (omega (arith, ltb-false 64 (length c) t, ltb-false 64 (longest cs) v))))

pub over_is : (text lemmas : List ℕ) (c : Circuit) (cs : List Clause)
    → over_limits text lemmas (circuit_at text c) cs
    ≡ (over_counts
    (record {
      text = length text;
      lemma_text = length lemmas;
      latches = c.latches.count;
      inputs = c.inputs.count;
      gates = c.gates.count;
      outputs = c.properties.outputs.count;
      bads = c.properties.bads.count;
      lemmas = length cs;
      longest = longest cs;
    })
    || ltb 4096 (clause_count (built (circuit_at text c) cs)))
unfolding over_limits over_counts
over_is text lemmas c cs =
    rw (latch_count text c, input_count text c, gate_count text c, output_count text c, bad_count text c, longest_over cs)

-- what is within every limit but that of clauses
none_of : (a b c d e f g h : Bool) → (a || b || c || d || e || f || g || h) ≡ false → (a ≡ false) × (f ≡ false) × (g ≡ false)
none_of a b c d e f g h none =
    let seven = or_false_left (a || b || c || d || e || f || g) h none in
    let six = or_false_left (a || b || c || d || e || f) g seven in
    let five = or_false_left (a || b || c || d || e) f six in
    let four = or_false_left (a || b || c || d) e five in
    let three = or_false_left (a || b || c) d four in (
      or_false_left a b (or_false_left (a || b) c three),
      or_false_right (a || b || c || d || e) f six,
      or_false_right (a || b || c || d || e || f) g seven,
    )

module _ (x : Counted) (within : over_counts x ≡ false) where
  parts : (ltb 65536 x.text ≡ false) × (not (eqb (x.outputs + x.bads) 1) ≡ false) × (ltb 128 x.lemmas ≡ false)
  unfolding over_counts
  parts =
      none_of (ltb 65536 x.text) (ltb 65536 x.lemma_text) (eqb x.latches 0) (ltb 96 x.latches) (ltb 320 (x.inputs + x.gates))
      (not (eqb (x.outputs + x.bads) 1)) (ltb 128 x.lemmas) (ltb 64 x.longest) within

  pub one_within : x.outputs + x.bads ≡ 1
  one_within = go (eqb (x.outputs + x.bads) 1) refl parts.1
    where
      go : (b : Bool) → eqb (x.outputs + x.bads) 1 ≡ b → not b ≡ false → x.outputs + x.bads ≡ 1
      go true t h = eqb-true (x.outputs + x.bads) 1 t
      go false t h = absurd (true≢false h)

  pub text_within : x.text ≤ 65536
  text_within = ltb-false 65536 x.text parts.0

  pub lemmas_within : x.lemmas ≤ 128
  lemmas_within = ltb-false 128 x.lemmas parts.2

-- ---- one literal in outputs and bad literals together

module _ (outputs bads : ℕ) where
  pub one_of_bads : outputs ≡ 0 → eqb bads 1 ≡ eqb (outputs + bads) 1
  one_of_bads e = ap (λ (k : ℕ). eqb k 1) (only e)
    where
      only : outputs ≡ 0 → bads ≡ outputs + bads
      only z = omega arith

  pub one_of_outputs : bads ≡ 0 → eqb outputs 1 ≡ eqb (outputs + bads) 1
  one_of_outputs e = ap (λ (k : ℕ). eqb k 1) (only e)
    where
      only : bads ≡ 0 → outputs ≡ outputs + bads
      only z = omega arith

  pub two_or_more : (outputs ≡ 0 → ⊥) → (bads ≡ 0 → ⊥) → false ≡ eqb (outputs + bads) 1
  two_or_more f g = sym (ne_eqb (outputs + bads) 1 (λ e. apart outputs bads f g e))
    where
      apart : (a b : ℕ) → (a ≡ 0 → ⊥) → (b ≡ 0 → ⊥) → a + b ≡ 1 → ⊥
      apart zero b f g e = f refl
      apart (suc a) zero f g e = g refl
      apart (suc a) (suc b) f g e = omega (arith, e)

-- ---- 15

unfoldable pub liveness : Properties → Bool
liveness p = ltb 0 p.counts.count || ltb 0 p.fairness.count

pub liveness_is : (text : List ℕ) (c : Circuit) → has_liveness (circuit_at text c) ≡ liveness c.properties
unfolding has_liveness liveness
liveness_is text c = rw (justice_count text c, fairness_count text c)

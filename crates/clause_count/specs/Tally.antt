-- How many clauses come of the lines of a section, one after another, and of a whole circuit.
use Prim.Native.Nat.{ℕ, zero, suc, ◌+◌, ◌-◌, ◌*◌, ◌≤◌, ◌<◌}
use native.Mathlib.Omega.{arith}
use Rattle.std.proofs.Common.{zero-add, sym, ◌∙◌}
use Rattle.std.specs.Prelude.{◌≡◌, get_or}
use Rattle.std.proofs.Math.Path.{refl, ap}
use mathlib.Core.List.{List, [], ◌∷◌, ◌++◌, map, append_assoc}
use Rattle.std.proofs.Math.ListN.{length, length-append}
use Rattle.meaning.specs.Clauses.{Clause}
use Rattle.meaning.specs.Circuit as Meant
use Rattle.meaning.specs.Circuit.{bad_literal}
use Rattle.meaning.specs.Built.{edge, n_of, clause_if, and_clauses, gates_clauses, next_clauses, latches_clauses, start_clause, start_clauses, one_clauses, built}
use Rattle.meaning.specs.Lines.{next_line}
use Rattle.meaning.specs.CircuitText.{numbers_at, at_number, latch_of, gate_of, start_of, circuit_of}
use Rattle.meaning.specs.Circuits.{clause_count}
use Rattle.sections.specs.declared.find.Lines.{Lines}
use Rattle.sections.specs.declared.circuit.Circuit.{Circuit}
use Rattle.sections.specs.Lists.{first_lines}
use Rattle.sections.specs.Whole.{RowsAt, circuit_at, sections_of, properties_of, lines_of, rows_few}
use Rattle.clause_count.specs.declared.count.Kind.{Kind}
use Rattle.clause_count.specs.declared.count.Kind.TheVariants as kind
use Rattle.clause_count.specs.Bad.{OneBad, literals_of, bad_lines, bad_is}
use Rattle.clause_count.specs.Lengths.{clauses_of, one_length, latch_length, gate_length}

-- the clauses of so many lines from a place on
unfoldable pub tally : Kind → List ℕ → ℕ → ℕ → ℕ
tally w text at zero = 0
tally w text at (suc k) = clauses_of w (numbers_at text at) + tally w text (next_line text at) k

-- those of a section's
unfoldable pub tally_of : Kind → List ℕ → Lines → ℕ
tally_of w text s = tally w text s.at s.count

-- ---- a section as the definition has it

module _ (c : Meant.Circuit) (text : List ℕ) where
  gates_tally : (at k : ℕ) → length (gates_clauses c (map gate_of (first_lines text at k))) ≡ tally kind.Gate text at k
  unfolding gates_clauses first_lines gate_of at_number tally
  gates_tally at zero = refl
  gates_tally at (suc k) =
      let ns = numbers_at text at in
      length-append (and_clauses (edge c (get_or ns 0 0)) (edge c (get_or ns 1 0)) (edge c (get_or ns 2 0))) _
      ∙ rw (gate_length c ns, gates_tally (next_line text at) k)

  latches_tally : (i at k : ℕ)
      → length (start_clauses i (map latch_of (first_lines text at k))) + length (latches_clauses c i (map latch_of (first_lines text at k)))
      ≡ tally kind.Latch text at k
  unfolding start_clauses latches_clauses first_lines latch_of at_number tally
  latches_tally i at zero = refl
  latches_tally i at (suc k) =
      let ns = numbers_at text at in
      let qs = map latch_of (first_lines text (next_line text at) k) in
      omega (
        arith,
        length-append (start_clause i (start_of (get_or ns 2 0))) (start_clauses (suc i) qs),
        length-append (next_clauses (n_of c + i) (edge c (get_or ns 1 0))) (latches_clauses c (suc i) qs),
        latch_length c i (n_of c + i) ns,
        latches_tally (suc i) (next_line text at) k,
      )

  ones_tally : (at k : ℕ) → length (one_clauses c (map (at_number 0) (first_lines text at k))) ≡ tally kind.One text at k
  unfolding one_clauses first_lines at_number tally
  ones_tally at zero = refl
  ones_tally at (suc k) =
      let ns = numbers_at text at in
      length-append (clause_if (edge c (get_or ns 0 0) ∷ [])) _ ∙ rw (one_length c ns, ones_tally (next_line text at) k)

pub ones_append : (c : Meant.Circuit) (ls ms : List ℕ) → one_clauses c (ls ++ ms) ≡ one_clauses c ls ++ one_clauses c ms
unfolding one_clauses
ones_append c [] ms = refl
ones_append c (l ∷ ls) ms =
    ap (λ (cs : List Clause). clause_if (edge c l ∷ []) ++ cs) (ones_append c ls ms)
    ∙ sym (append_assoc (clause_if (edge c l ∷ [])) (one_clauses c ls) (one_clauses c ms))

-- ---- a whole circuit

module _ (text : List ℕ) (c : Circuit) where
  abbrev C : Meant.Circuit
  C = circuit_at text c

  gates_part : length (gates_clauses C C.gates) ≡ tally_of kind.Gate text c.gates
  unfolding circuit_at circuit_of sections_of lines_of tally_of
  gates_part = gates_tally (circuit_at text c) text c.gates.at c.gates.count

  latches_part : length (start_clauses 1 C.latches) + length (latches_clauses C 1 C.latches) ≡ tally_of kind.Latch text c.latches
  unfolding circuit_at circuit_of sections_of lines_of tally_of
  latches_part = latches_tally (circuit_at text c) text 1 c.latches.at c.latches.count

  ones_part : (s : Lines) → length (one_clauses C (literals_of text s)) ≡ tally_of kind.One text s
  unfolding literals_of lines_of tally_of
  ones_part s = ones_tally (circuit_at text c) text s.at s.count

  pub constraints_are : C.constraints ≡ literals_of text c.properties.constraints
  unfolding circuit_at circuit_of sections_of properties_of literals_of
  constraints_are = refl

  bad_part : OneBad c.properties
      → length (one_clauses C (bad_literal C ∷ C.constraints))
      ≡ tally_of kind.One text (bad_lines c.properties) + tally_of kind.One text c.properties.constraints
  bad_part one =
      let bad = literals_of text (bad_lines c.properties) in
      let rest = literals_of text c.properties.constraints in
      ap (λ (ls : List ℕ). length (one_clauses C (ls ++ C.constraints))) (sym (bad_is text c one))
      ∙ ap (λ (ls : List ℕ). length (one_clauses C (bad ++ ls))) constraints_are
      ∙ ap length (ones_append C bad rest)
      ∙ length-append (one_clauses C bad) (one_clauses C rest)
      ∙ rw (ones_part (bad_lines c.properties), ones_part c.properties.constraints)

  -- gates and constraints stand in Tr and in Bad
  pub all_counted : OneBad c.properties → (l g k b : ℕ) → l ≡ tally_of kind.Latch text c.latches → g ≡ tally_of kind.Gate text c.gates
      → k ≡ tally_of kind.One text c.properties.constraints → b ≡ tally_of kind.One text (bad_lines c.properties)
      → l + g + g + k + k + b ≡ clause_count (built C [])
  unfolding clause_count built
  all_counted one l g k b l_is g_is k_is b_is =
      let constraints = ap (λ (ls : List ℕ). length (one_clauses C ls)) constraints_are ∙ ones_part c.properties.constraints in
      omega (
        arith,
        l_is,
        g_is,
        k_is,
        b_is,
        gates_part,
        latches_part,
        constraints,
        bad_part one,
        length-append (gates_clauses C C.gates) (latches_clauses C 1 C.latches ++ one_clauses C C.constraints),
        length-append (latches_clauses C 1 C.latches) (one_clauses C C.constraints),
        length-append (gates_clauses C C.gates) (one_clauses C (bad_literal C ∷ C.constraints)),
      )

-- the lemmas come to it
pub with_lemmas : (c : Meant.Circuit) (lemmas : List Clause) → clause_count (built c lemmas) ≡ clause_count (built c []) + length lemmas
unfolding clause_count built
with_lemmas c lemmas = omega arith

-- a text within the limits has few lines of numbers
pub lines_few : (text : List ℕ) (width : ℕ) (s : Lines) → 1 ≤ width → RowsAt text width s → length text ≤ 65536 → s.count ≤ 32768
lines_few text width s least rows short = omega (arith, rows_few {text = text} {s = s} width 2 (omega arith) rows)

-- ---- the sum as far as it is made

pub record Tallied (w : Kind) (text : List ℕ) (at count i p sum : ℕ) : Type 0 where
  pub low : i ≤ count
  pub left : sum + tally w text p (count - i) ≡ tally w text at count
  pub small : sum ≤ 3 * i

pub tallied_none : (w : Kind) (text : List ℕ) (at count : ℕ) → Tallied w text at count 0 at 0
tallied_none w text at count =
    let same : count - 0 ≡ count = omega arith in
    record { low = omega arith; left = ap (λ (k : ℕ). 0 + tally w text at k) same ∙ zero-add (tally w text at count); small = omega arith }

module _ {w : Kind} {text : List ℕ} {at count i p sum : ℕ} (t : Tallied w text at count i p sum) where
  pub tallied_next : i < count → (k q : ℕ) → k ≡ clauses_of w (numbers_at text p) → k ≤ 3 → q ≡ next_line text p
      → Tallied w text at count (i + 1) q (sum + k)
  unfolding tally
  tallied_next less k q is most q_is =
      let up : count - i ≡ suc (count - (i + 1)) = omega arith in
      let cut : tally w text p (count - i) ≡ clauses_of w (numbers_at text p) + tally w text (next_line text p) (count - (i + 1)) =
      ap (tally w text p) up in
      record {
        low = omega arith;
        left = omega (arith, t.left, cut, is, ap (λ (r : ℕ). tally w text r (count - (i + 1))) q_is);
        small = omega (arith, t.small);
      }

  pub tallied_all : (i < count → ⊥) → sum ≡ tally w text at count
  unfolding tally
  tallied_all past =
      let none : count - i ≡ 0 = nothing_left t.low in
      omega (arith, t.left, ap (tally w text p) none)
    where
      nothing_left : i ≤ count → count - i ≡ 0
      nothing_left h = omega arith

-- The gates of a circuit text by number: where their literals come from, and which of their lines cannot be worked out.
use Rattle.std.specs.Prelude.{ℕ, zero, suc, ◌+◌, ◌≤◌, ◌<◌, ◌≡◌, refl, ◌⊎◌, true, false, length, set, replicate, eqb}
use Rattle.std.proofs.Common.{arith, sym, subst, ◌∙◌, inl, inr, true≢false, length-set, get_or-set_same, eqb-true}
use Rattle.std.proofs.Math.Path.{ap}
use Rattle.std.proofs.Math.Bool.{not}
use mathlib.Core.List.{List, []}
use Rattle.std.proofs.Math.ListN.{get_or, get_or-map}
use Rattle.std.proofs.lemmas.List.{length-replicate}
use Rattle.std.proofs.Math.Seq.{get_or-set_other}
use Rattle.std.proofs.lemmas.Bool.{eqb-false}
use Rattle.meaning.specs.Demands.{In}
use Rattle.meaning.specs.Lines.{next_line}
use Rattle.meaning.specs.Circuit.{Gate, var, gate_variables}
use Rattle.meaning.specs.CircuitText.{numbers_at, at_number, gate_of, circuit_of, given, gate_works}
use Rattle.laws.specs.Basics.{bool_cases}
use Rattle.circuit_laws.specs.Sane.{Once}
use Rattle.sections.specs.declared.circuit.Circuit.{Circuit}
use Rattle.sections.specs.Lists.{first_lines, line_after, variables_length}
use Rattle.sections.specs.Whole.{circuit_at, sections_of, lines_of, gates_are, gate_count}
use Rattle.uses.specs.Sources.{source_of}
use Rattle.uses.specs.Solve.{is_done, InReach, Solved}
use Rattle.uses.specs.Passing.{line_here}
use Rattle.uses.specs.Works.{nth_gate, source_most, works_is}

-- number j of gate line k
unfoldable pub gate_number : List ℕ → Circuit → ℕ → ℕ → ℕ
gate_number text c j k = get_or (numbers_at text (line_after text c.gates.at k)) j 0

-- so many entries say where number j of each gate line comes from
pub record Filled (text : List ℕ) (c : Circuit) (j : ℕ) (xs : List ℕ) (i : ℕ) : Type 0 where
  pub is : (k : ℕ) → k < i → get_or xs k 0 ≡ source_of (circuit_at text c) (var (gate_number text c j k))
  pub long : length xs ≡ 10923

pub filled_none : (text : List ℕ) (c : Circuit) (j : ℕ) (xs : List ℕ) → length xs ≡ 10923 → Filled text c j xs 0
filled_none text c j xs e = record { is = λ k h. absurd (omega arith); long = e }

pub filled_more : (text : List ℕ) (c : Circuit) (j : ℕ) (xs : List ℕ) (i p v r : ℕ) → Filled text c j xs i → i < 10923
    → p ≡ line_after text c.gates.at i → v ≡ get_or (numbers_at text p) j 0 → r ≡ source_of (circuit_at text c) (var v)
    → Filled text c j (set xs i r) (i + 1)
unfolding gate_number
filled_more text c j xs i p v r f less p_is v_is r_is =
    record { is = λ k h. go k h (bool_cases (eqb k i)); long = length-set xs i r ∙ f.long }
  where
    go : (k : ℕ) → k < i + 1 → (eqb k i ≡ true) ⊎ (eqb k i ≡ false)
        → get_or (set xs i r) k 0 ≡ source_of (circuit_at text c) (var (get_or (numbers_at text (line_after text c.gates.at k)) j 0))
    go k h (inl t) =
        ap (λ (a : ℕ). get_or (set xs i r) a 0) (eqb-true k i t)
        ∙ get_or-set_same xs i r 0 (subst (λ (n : ℕ). i < n) (sym f.long) less)
        ∙ r_is ∙ ap (λ (a : ℕ). source_of (circuit_at text c) (var a)) (v_is ∙ ap (λ (a : ℕ). get_or (numbers_at text a) j 0) p_is)
        ∙ ap (λ (a : ℕ). source_of (circuit_at text c) (var (get_or (numbers_at text (line_after text c.gates.at a)) j 0))) (sym (eqb-true k i t))
    go k h (inr t) = get_or-set_other xs i k r 0 (eqb-false k i t) ∙ f.is k (below (eqb-false k i t))
      where
        below : (k ≡ i → ⊥) → k < i
        below other = omega arith

pub filled_all : (text : List ℕ) (c : Circuit) (j : ℕ) (xs : List ℕ) (i count : ℕ) → i ≤ count → (i < count → ⊥) → Filled text c j xs i
    → Filled text c j xs count
filled_all text c j xs i count low past f = subst (Filled text c j xs) same f
  where
    same : i ≡ count
    same = omega arith

-- ---- gate k, by its line

nth_line : (text : List ℕ) (at n k : ℕ) → k < n → get_or (first_lines text at n) k (record { at = 0; numbers = [] }) ≡ line_here text (line_after text at k)
unfolding first_lines line_after line_here
nth_line text at zero k h = absurd (omega arith)
nth_line text at (suc n) zero h = refl
nth_line text at (suc n) (suc k) h = nth_line text (next_line text at) n k (omega arith)

pub gate_line : (text : List ℕ) (c : Circuit) (k : ℕ) → k < c.gates.count
    → nth_gate (circuit_at text c) k ≡ gate_of (line_here text (line_after text c.gates.at k))
unfolding nth_gate circuit_at circuit_of sections_of lines_of gate_of at_number
gate_line text c k h =
    get_or-map gate_of (first_lines text c.gates.at c.gates.count) k (record { at = 0; numbers = [] })
    ∙ ap gate_of (nth_line text c.gates.at c.gates.count k h)

-- the marks before the first round: what is given
zeros : (n k : ℕ) → ◌≡◌ {A = ℕ} (get_or (replicate n 0) k 0) 0
zeros zero k = refl
zeros (suc n) zero = refl
zeros (suc n) (suc k) = zeros n k

module _ (d : List ℕ) (is : d ≡ replicate 10925 0) where
  length_is : length d ≡ 10925
  length_is = ap length is ∙ length-replicate {A = ℕ} 10925 0

  pub begun_given : is_done (set d 0 1) 0 ≡ true
  unfolding is_done
  begun_given = ap (λ (b : ℕ). not (eqb b 0)) (get_or-set_same d 0 1 0 (subst (λ (n : ℕ). 0 < n) (sym length_is) (omega arith)))

  pub begun_only : (k : ℕ) → is_done (set d 0 1) k ≡ true → k ≡ 0
  unfolding is_done
  begun_only k h = go (bool_cases (eqb k 0))
    where
      none : (k ≡ 0 → ⊥) → get_or (set d 0 1) k 0 ≡ 0
      none other = get_or-set_other d 0 k 1 0 other ∙ ap (λ (l : List ℕ). get_or l k 0) is ∙ zeros 10925 k

      go : (eqb k 0 ≡ true) ⊎ (eqb k 0 ≡ false) → k ≡ 0
      go (inl t) = eqb-true k 0 t
      go (inr t) = absurd (true≢false (sym h ∙ ap (λ (b : ℕ). not (eqb b 0)) (none (eqb-false k 0 t))))

  pub begun_long : length (set d 0 1) ≡ 10925
  begun_long = length-set d 0 1 ∙ length_is

-- ---- put together

pub sources_most : (text : List ℕ) (c : Circuit) (u : ℕ) → source_of (circuit_at text c) u ≤ c.gates.count + 1
sources_most text c u =
    subst (λ (n : ℕ). source_of (circuit_at text c) u ≤ n + 1) (ap length (gates_are text c) ∙ variables_length text c.gates)
    (source_most (circuit_at text c) u)

pub filled_in : (text : List ℕ) (c : Circuit) (j : ℕ) (xs : List ℕ) → Filled text c j xs c.gates.count → InReach xs c.gates.count
filled_in text c j xs f i h = subst (λ (a : ℕ). a ≤ c.gates.count + 1) (sym (f.is i h)) (sources_most text c (var (gate_number text c j i)))

-- each gate line's mark says whether it can be worked out
pub marks_are : (text : List ℕ) (c : Circuit) (left right d after : List ℕ) → Once (gate_variables (circuit_at text c))
    → ((g : Gate) → In g (circuit_at text c).gates → given (circuit_at text c) (var g.lit) ≡ false)
    → Filled text c 1 left c.gates.count → Filled text c 2 right c.gates.count → is_done d 0 ≡ true
    → ((k : ℕ) → is_done d k ≡ true → k ≡ 0) → Solved left right c.gates.count d after
    → (k : ℕ) → k < c.gates.count
    → is_done after (suc k) ≡ gate_works (circuit_at text c) (gate_of (line_here text (line_after text c.gates.at k)))
unfolding gate_of line_here at_number gate_number
marks_are text c left right d after once apart l r start only s k h =
    works_is (circuit_at text c) once apart left right d after start only left_is right_is
    (subst (λ (n : ℕ). Solved left right n d after) (sym (gate_count text c)) s) k (subst (λ (n : ℕ). k < n) (sym (gate_count text c)) h)
    ∙ ap (gate_works (circuit_at text c)) (gate_line text c k h)
  where
    left_is : (i : ℕ) → i < length (circuit_at text c).gates
        → get_or left i 0 ≡ source_of (circuit_at text c) (var (nth_gate (circuit_at text c) i).left)
    left_is i less =
        let below = subst (λ (n : ℕ). i < n) (gate_count text c) less in
        l.is i below ∙ ap (λ (g : Gate). source_of (circuit_at text c) (var g.left)) (sym (gate_line text c i below))

    right_is : (i : ℕ) → i < length (circuit_at text c).gates
        → get_or right i 0 ≡ source_of (circuit_at text c) (var (nth_gate (circuit_at text c) i).right)
    right_is i less =
        let below = subst (λ (n : ℕ). i < n) (gate_count text c) less in
        r.is i below ∙ ap (λ (g : Gate). source_of (circuit_at text c) (var g.right)) (sym (gate_line text c i below))

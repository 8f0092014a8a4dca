-- The first line that uses what it may not, put together.
use Rattle.std.specs.Prelude.{ℕ, suc, ◌+◌, ◌<◌, ◌≡◌, refl, Bool, true, false, List, get_or, eqb, Result, Ok, Err}
use Rattle.std.proofs.Common.{add-one, sym, ◌∙◌, eq-eqb, ne_eqb}
use Rattle.std.proofs.Math.Path.{ap}
use Rattle.std.proofs.Math.Bool.{not}
use Rattle.std.proofs.Math.Option.{Option, none, some}
use Rattle.meaning.specs.Demands.{In}
use Rattle.meaning.specs.Circuit
use Rattle.meaning.specs.Circuit.{Gate, var, gate_variables}
use Rattle.meaning.specs.CircuitText.{Line, Properties, Sections, gate_of, given, gate_works, first_not, first_unknown, or_else, uses_fault}
use Rattle.circuit_laws.specs.Sane.{Once}
use Rattle.sections.specs.declared.circuit.Circuit.{Circuit}
use Rattle.lines.specs.declared.fault.Fault.{Fault}
use Rattle.lines.specs.Faults.{fault_of}
use Rattle.sections.specs.Lists.{line_after}
use Rattle.sections.specs.Whole.{circuit_at}
use Rattle.uses.specs.Passing.{line_here}
use Rattle.uses.specs.Solve.{is_done}

-- a gate line can be worked out
unfoldable pub gate_passes : Circuit.Circuit → Line → Bool
gate_passes c l = gate_works c (gate_of l)

-- no two gates have the same variable, and none that of an input, a latch or a constant
pub record Distinct (c : Circuit.Circuit) : Type 0 where
  pub once : Once (gate_variables c)
  pub apart : (g : Gate) → In g c.gates → given c (var g.lit) ≡ false

-- each gate line's mark says whether it can be worked out
abbrev pub MarksAre : List ℕ → Circuit → List ℕ → Type 0
MarksAre text c d =
    (k : ℕ) → k < c.gates.count → is_done d (suc k) ≡ gate_passes (circuit_at text c) (line_here text (line_after text c.gates.at k))

module _ (text : List ℕ) (c : Circuit) (d : List ℕ) (m : MarksAre text c d) (i p : ℕ) (less : i < c.gates.count) (p_is : p ≡ line_after text c.gates.at i) where
  mark_is : not (eqb (get_or d (i + 1) 0) 0) ≡ gate_passes (circuit_at text c) (line_here text p)
  unfolding is_done
  mark_is =
      ap (λ (k : ℕ). not (eqb (get_or d k 0) 0)) (add-one i) ∙ m i less
      ∙ ap (λ (k : ℕ). gate_passes (circuit_at text c) (line_here text k)) (sym p_is)

  pub mark_stuck : get_or d (i + 1) 0 ≡ 0 → gate_passes (circuit_at text c) (line_here text p) ≡ false
  mark_stuck e = sym mark_is ∙ ap not (eq-eqb (get_or d (i + 1) 0) 0 e)

  pub mark_works : (get_or d (i + 1) 0 ≡ 0 → ⊥) → gate_passes (circuit_at text c) (line_here text p) ≡ true
  mark_works other = sym mark_is ∙ ap not (ne_eqb (get_or d (i + 1) 0) 0 other)

-- ---- latches, then what stands between, then gates

or_else_assoc : (a b d : Option ℕ) → or_else (or_else a b) d ≡ or_else a (or_else b d)
unfolding or_else
or_else_assoc none b d = refl
or_else_assoc (some at) b d = refl

-- the first of two is at fault, or the second says it
pub here : (a b : Option ℕ) (e : Fault) → Err e ≡ fault_of a → Err e ≡ fault_of (or_else a b)
unfolding fault_of or_else
here none b e is = absurd (cc)
here (some at) b e is = is

pub later : (a b : Option ℕ) (u : Unit {0}) → Ok u ≡ fault_of a → (q : Result (Unit {0}) Fault) → q ≡ fault_of b → q ≡ fault_of (or_else a b)
unfolding fault_of or_else
later none b u is q q_is = q_is
later (some at) b u is q q_is = absurd (cc)

-- the first line between latches and gates that uses what it may not
unfoldable pub properties_fault : Circuit.Circuit → Properties → Option ℕ
properties_fault c p =
    or_else (first_unknown c 0 p.outputs)
    (or_else (first_unknown c 0 p.bads)
    (or_else (first_unknown c 0 p.constraints) (or_else (first_unknown c 0 p.justice) (first_unknown c 0 p.fairness))))

pub in_three : (c : Circuit.Circuit) (s : Sections)
    → or_else (first_unknown c 1 s.latches) (or_else (properties_fault c s.properties) (first_not (gate_passes c) s.gates)) ≡ uses_fault c s
unfolding uses_fault properties_fault gate_passes
in_three c s =
    let p = s.properties in
    let outputs = first_unknown c 0 p.outputs in
    let bads = first_unknown c 0 p.bads in
    let constraints = first_unknown c 0 p.constraints in
    let justice = first_unknown c 0 p.justice in
    let fairness = first_unknown c 0 p.fairness in
    let gates = first_not (gate_passes c) s.gates in
    ap (or_else (first_unknown c 1 s.latches))
    (or_else_assoc outputs (or_else bads (or_else constraints (or_else justice fairness))) gates
    ∙ ap (or_else outputs)
    (or_else_assoc bads (or_else constraints (or_else justice fairness)) gates
    ∙ ap (or_else bads)
    (or_else_assoc constraints (or_else justice fairness) gates ∙ ap (or_else constraints) (or_else_assoc justice fairness gates))))

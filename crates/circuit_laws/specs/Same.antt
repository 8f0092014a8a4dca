-- The problem built from a circuit means the circuit: they have the same start states, steps, bad states and runs.
use Rattle.std.specs.Prelude.{ℕ, suc, ◌+◌, ◌-◌, ◌≤◌, ◌≡◌, ◌↔◌, ◌⊎◌, Bool, not, ◌&&◌, ◌||◌, length, get_or}
use native.Mathlib.Omega.{arith}
use Rattle.std.proofs.Math.Path.{refl, sym, ap}
use Rattle.std.proofs.Common.{◌∙◌, inl, inr, eqb-true, ne_eqb}
use Rattle.std.proofs.Math.Bool.{true, false, cond, or-false}
use Rattle.std.specs.Bool.{beq}
use mathlib.Core.List.{List, [], ◌∷◌, ◌++◌}
use Rattle.std.proofs.Math.Dec.{eqb}
use Rattle.std.proofs.lemmas.Bool.{eqb-false}
use Rattle.meaning.specs.Clauses.{Clause, Values, is_true, any, all, holds, all_hold}
use Rattle.meaning.specs.Meaning.{State, moment, InitState, BadState, Step, StepsFrom, Run}
use Rattle.meaning.specs.Demands.{In}
use Rattle.meaning.specs.Circuit.{Circuit, Latch, Gate, Start, at_0, at_1, at_either, var, negated, bad_literal, value, GatesAre, Worth, StartsWith, AllStart, StartState, AllOne, AllNext, NextState, NextStates, CircuitRun, CanBeBad, input_variables, latch_variables, gate_variables, variables}
use Rattle.meaning.specs.Built.{position, n_of, helpers, number, constant, named, literal_if, edge, clause_if, and_clauses, gates_clauses, next_clauses, latches_clauses, start_clause, start_clauses, one_clauses, built}
use Rattle.meaning.specs.CircuitText.{known}
use Rattle.laws.specs.Basics.{and_left, and_right, and_both, all_append}
use Rattle.laws.specs.Within.{UpTo}
use Rattle.laws.specs.Moment.{moment_next}
use Rattle.circuit_laws.specs.Sane.{Sane}
use Rattle.circuit_laws.specs.Listed.{at_position, position_first}
use Rattle.circuit_laws.specs.Edges.{edge_true, clause_if_holds, beq_is, and_clauses_hold, next_clauses_hold}
use Rattle.circuit_laws.specs.Known.{inputs_of, latches_at, latches_of, input_variable, latch_variable, latch_or_helper, input_no_latch, helper_no_latch, known_cases, gate_known, left_known, right_known, bad_or_constraint, at_latch, at_helper}

-- ---- clauses and what they say

-- the clauses of two lists together
append_says : (w : Values) (cs ds : List Clause) {P Q : Type 0} → (all_hold w cs ≡ true) ↔ P → (all_hold w ds ≡ true) ↔ Q
    → (all_hold w (cs ++ ds) ≡ true) ↔ (P × Q)
unfolding all_hold
append_says w cs ds first second = (
  λ h.
      let both = sym (all_append (holds w) cs ds) ∙ h in
      (first.0 (and_left (all_hold w cs) (all_hold w ds) both), second.0 (and_right (all_hold w cs) (all_hold w ds) both)),
  λ (p, q). all_append (holds w) cs ds ∙ and_both (all_hold w cs) (all_hold w ds) (first.1 p) (second.1 q),
)

-- clauses that hold exactly where two values are the same
same_says : {a b h : Bool} → h ≡ beq a b → (h ≡ true) ↔ (a ≡ b)
same_says {a} {b} e = (λ t. (beq_is a b).0 (sym e ∙ t), λ t. e ∙ (beq_is a b).1 t)

-- (-i), and (i)
zero_law : (b : Bool) → ((not b || false) && true) ≡ beq b false
zero_law true = refl
zero_law false = refl

one_law : (b : Bool) → ((b || false) && true) ≡ beq b true
one_law true = refl
one_law false = refl

-- where a latch starts, and where all do
start_says : (s : State) (i : ℕ) (from : Start) → (all_hold s (start_clause i from) ≡ true) ↔ StartsWith from (s i)
unfolding start_clause all_hold all holds any is_true
start_says s i at_0 = same_says (zero_law (s i))
start_says s i at_1 = same_says (one_law (s i))
start_says s i at_either = (λ h. tt, λ h. refl)

starts_say : (s : State) (i : ℕ) (qs : List Latch) → (all_hold s (start_clauses i qs) ≡ true) ↔ AllStart s i qs
unfolding start_clauses all_hold all
starts_say s i [] = (λ h. tt, λ h. refl)
starts_say s i (q ∷ qs) =
    append_says s (start_clause i q.start) (start_clauses (suc i) qs) (start_says s i q.start) (starts_say s (suc i) qs)

-- ---- values that agree

-- v gives each variable what w gives its number
pub record Agrees (c : Circuit) (v w : Values) : Type 0 where
  pub constant : v 0 ≡ false
  pub variables : (u : ℕ) → In u (variables c) → v u ≡ w (number c u)

-- of a constant, and of a literal that is named
constant_law : (n b : Bool) → b ≡ false → n ≡ cond n (not b) b
constant_law true b e = sym (ap not e)
constant_law false b e = sym e

named_law : (w : Values) (n : Bool) (at : ℕ) → edge_true w (named (literal_if n at)) ≡ cond n (not (w at)) (w at)
unfolding edge_true literal_if is_true
named_law w true at = refl
named_law w false at = refl

module _ (c : Circuit) where
  -- helper j with the value of the variable that it stands for
  helper_values : Values → Values
  helper_values v j = v (get_or (helpers c) (j - 1) 0)

  helper_value : (v : Values) (u : ℕ) → In u (helpers c) → helper_values v (1 + position u (helpers c)) ≡ v u
  unfolding helper_values
  helper_value v u i =
      let back : 1 + position u (helpers c) - 1 ≡ position u (helpers c) = omega arith in
      ap (λ (p : ℕ). v (get_or (helpers c) p 0)) back ∙ ap v (at_position u (helpers c) i)

  -- each variable with the value of its number
  values_of : Values → Values
  values_of w u = cond (eqb u 0) false (w (number c u))

module _ (c : Circuit) (sane : Sane c) where
  module _ (v w : Values) (agrees : Agrees c v w) where
    -- what stands for a literal has its value
    edge_is : (l : ℕ) → known c (var l) ≡ true → edge_true w (edge c l) ≡ value v l
    unfolding edge value edge_true
    edge_is l known_l = go (eqb (var l) 0) refl (known_cases c (var l) known_l)
      where
        go : (b : Bool) → eqb (var l) 0 ≡ b → (var l ≡ 0) ⊎ In (var l) (variables c)
            → edge_true w (cond b (constant (negated l)) (named (literal_if (negated l) (number c (var l)))))
            ≡ cond (negated l) (not (v (var l))) (v (var l))
        go true e i = constant_law (negated l) (v (var l)) (ap v (eqb-true (var l) 0 e) ∙ agrees.constant)
        go false e (inl is_0) = absurd (eqb-false (var l) 0 e is_0)
        go false e (inr i) =
            named_law w (negated l) (number c (var l))
            ∙ ap (λ (b : Bool). cond (negated l) (not b) b) (sym (agrees.variables (var l) i))

    -- the three clauses of a gate
    gate_says : (g : Gate) → In g c.gates
        → (all_hold w (and_clauses (edge c g.lit) (edge c g.left) (edge c g.right)) ≡ true)
        ↔ (v (var g.lit) ≡ (value v g.left && value v g.right))
    unfolding value
    gate_says g i =
        let works = sane.works g i in
        let g_is : edge_true w (edge c g.lit) ≡ v (var g.lit) =
        edge_is g.lit (gate_known c g i) ∙ ap (λ (b : Bool). cond b (not (v (var g.lit))) (v (var g.lit))) (sane.even g i) in
        same_says
        (and_clauses_hold w (edge c g.lit) (edge c g.left) (edge c g.right)
        ∙ cc (g_is, edge_is g.left (left_known c g works), edge_is g.right (right_known c g works)))

    gates_say : (gs : List Gate) → ((g : Gate) → In g gs → In g c.gates) → (all_hold w (gates_clauses c gs) ≡ true) ↔ GatesAre v gs
    unfolding gates_clauses all_hold all
    gates_say [] part = (λ h. tt, λ h. refl)
    gates_say (g ∷ gs) part =
        append_says w (and_clauses (edge c g.lit) (edge c g.left) (edge c g.right)) (gates_clauses c gs)
        (gate_says g (part g (inl refl))) (gates_say gs (λ h i. part h (inr i)))

    -- the two clauses of each latch, where w has the next state t
    latches_say : (t : State) → ((j : ℕ) → UpTo (n_of c) j → w (n_of c + j) ≡ t j) → (i : ℕ) (qs : List Latch) → 1 ≤ i
        → i + length qs ≤ suc (n_of c) → ((q : Latch) → In q qs → In q c.latches)
        → (all_hold w (latches_clauses c i qs) ≡ true) ↔ AllNext v t i qs
    unfolding latches_clauses all_hold all
    latches_say t next_is i [] low high part = (λ h. tt, λ h. refl)
    latches_say t next_is i (q ∷ qs) low high part =
        append_says w (next_clauses (n_of c + i) (edge c q.next)) (latches_clauses c (suc i) qs)
        (same_says
        (next_clauses_hold w (n_of c + i) (edge c q.next)
        ∙ cc (next_is i (omega arith), edge_is q.next (sane.next_known q (part q (inl refl))))))
        (latches_say t next_is (suc i) qs (omega arith) (omega arith) (λ p j. part p (inr j)))

    -- a clause for each of some literals: all of them are 1
    one_says : (l : ℕ) → known c (var l) ≡ true → (all_hold w (clause_if (edge c l ∷ [])) ≡ true) ↔ (value v l ≡ true)
    unfolding any
    one_says l known_l =
        let is : all_hold w (clause_if (edge c l ∷ [])) ≡ value v l =
        clause_if_holds w (edge c l ∷ []) ∙ or-false (edge_true w (edge c l)) ∙ edge_is l known_l in
        (λ h. sym is ∙ h, λ h. is ∙ h)

    ones_say : (ls : List ℕ) → ((l : ℕ) → In l ls → known c (var l) ≡ true) → (all_hold w (one_clauses c ls) ≡ true) ↔ AllOne v ls
    unfolding one_clauses all_hold all
    ones_say [] are_known = (λ h. tt, λ h. refl)
    ones_say (l ∷ ls) are_known =
        append_says w (clause_if (edge c l ∷ [])) (one_clauses c ls) (one_says l (are_known l (inl refl)))
        (ones_say ls (λ k i. are_known k (inr i)))

  -- ---- from a circuit's values to helpers, and back

  worth_agrees : (s t : State) (x v : Values) → Worth c s x v → Agrees c v (moment (n_of c) s t (helper_values c v))
  worth_agrees s t x v worth = record { constant = worth.constant; variables = λ u i. go u (latch_or_helper c u i) }
    where
      go : (u : ℕ) → In u (latch_variables c) ⊎ In u (helpers c) → v u ≡ moment (n_of c) s t (helper_values c v) (number c u)
      go u (inl i) =
          latches_at c v s worth.latches u i ∙ sym (at_latch c s t (helper_values c v) u i)
      go u (inr i) =
          sym (at_helper c s t (helper_values c v) u (helper_no_latch c sane.once u i) ∙ helper_value c v u i)

  moment_agrees : (w : Values) → Agrees c (values_of c w) w
  unfolding values_of
  moment_agrees w =
      record {
        constant = refl;
        variables = λ u i. cc (ne_eqb u 0 (sane.nonzero u i));
      }

  -- the inputs are the first helpers
  moment_worth : (s t : State) (x : Values) → GatesAre (values_of c (moment (n_of c) s t x)) c.gates
      → Worth c s x (values_of c (moment (n_of c) s t x))
  moment_worth s t x gates_are =
      record {
        constant = agrees.constant;
        inputs = inputs_of c v x sane.once input;
        latches = latches_of c v s sane.once latch;
        gates = gates_are;
      }
    where
      w : Values
      w = moment (n_of c) s t x

      v : Values
      v = values_of c w

      agrees : Agrees c v w
      agrees = moment_agrees w

      input : (u : ℕ) → In u (input_variables c) → v u ≡ x (1 + position u (input_variables c))
      input u i =
          agrees.variables u (input_variable c u i) ∙ at_helper c s t x u (input_no_latch c sane.once u i)
          ∙ ap (λ (p : ℕ). x (1 + p)) (unfold helpers in position_first u (input_variables c) (gate_variables c) i)

      latch : (u : ℕ) → In u (latch_variables c) → v u ≡ s (1 + position u (latch_variables c))
      latch u i = agrees.variables u (latch_variable c u i) ∙ at_latch c s t x u i

  -- ---- what Tr says, and what Bad says

  tr_says : (v : Values) (s t : State) (x : Values) → Agrees c v (moment (n_of c) s t x)
      → (all_hold (moment (n_of c) s t x)
      (gates_clauses c c.gates ++ (latches_clauses c 1 c.latches ++ one_clauses c c.constraints)) ≡ true)
      ↔ (GatesAre v c.gates × (AllNext v t 1 c.latches × AllOne v c.constraints))
  tr_says v s t x agrees =
      let w : Values = moment (n_of c) s t x in
      append_says w (gates_clauses c c.gates) (latches_clauses c 1 c.latches ++ one_clauses c c.constraints)
      (gates_say v w agrees c.gates (λ g i. i))
      (append_says w (latches_clauses c 1 c.latches) (one_clauses c c.constraints)
      (latches_say v w agrees t (moment_next (n_of c) s t x) 1 c.latches (omega arith) (unfold n_of in omega arith) (λ q i. i))
      (ones_say v w agrees c.constraints sane.constraint_known))

  bad_says : known c (var (bad_literal c)) ≡ true → (v : Values) (s : State) (x : Values) → Agrees c v (moment (n_of c) s s x)
      → (all_hold (moment (n_of c) s s x) (gates_clauses c c.gates ++ one_clauses c (bad_literal c ∷ c.constraints)) ≡ true)
      ↔ (GatesAre v c.gates × AllOne v (bad_literal c ∷ c.constraints))
  bad_says bad_known v s x agrees =
      let w : Values = moment (n_of c) s s x in
      append_says w (gates_clauses c c.gates) (one_clauses c (bad_literal c ∷ c.constraints))
      (gates_say v w agrees c.gates (λ g i. i))
      (ones_say v w agrees (bad_literal c ∷ c.constraints) (bad_or_constraint c sane bad_known))

  -- ---- the problem built

  module _ (lemmas : List Clause) where
    pub same_start : (s : State) → StartState c s ↔ InitState (built c lemmas) s
    unfolding built
    same_start s = let says = starts_say s 1 c.latches in (says.1, says.0)

    pub same_step : (s t : State) → NextState c s t ↔ Step (built c lemmas) s t
    unfolding built
    same_step s t = (
      λ (x, v, worth, next, ones).
          let h = helper_values c v in
          (h, (tr_says v s t h (worth_agrees s t x v worth)).1 (worth.gates, (next, ones))),
      λ (x, h).
          let w : Values = moment (n_of c) s t x in
          let says = (tr_says (values_of c w) s t x (moment_agrees w)).0 h in
          (x, values_of c w, moment_worth s t x says.0, says.1.0, says.1.1),
    )

    pub same_bad : known c (var (bad_literal c)) ≡ true → (s : State) → CanBeBad c s ↔ BadState (built c lemmas) s
    unfolding built
    same_bad bad_known s = (
      λ (x, v, worth, ones).
          let h = helper_values c v in
          (h, (bad_says bad_known v s h (worth_agrees s s x v worth)).1 (worth.gates, ones)),
      λ (x, h).
          let w : Values = moment (n_of c) s s x in
          let says = (bad_says bad_known (values_of c w) s x (moment_agrees w)).0 h in
          (x, values_of c w, moment_worth s s x says.0, says.1),
    )

    same_steps : (s : State) (ts : List State) → NextStates c s ts ↔ StepsFrom (built c lemmas) s ts
    same_steps s [] = (λ h. tt, λ h. tt)
    same_steps s (t ∷ ts) =
        let step = same_step s t in
        let on = same_steps t ts in
        (λ (h, rest). (step.0 h, on.0 rest), λ (h, rest). (step.1 h, on.1 rest))

    pub same_runs : (ss : List State) → CircuitRun c ss ↔ Run (built c lemmas) ss
    same_runs [] = (λ h. h, λ h. h)
    same_runs (s ∷ ts) =
        let start = same_start s in
        let on = same_steps s ts in
        (λ (h, rest). (start.0 h, on.0 rest), λ (h, rest). (start.1 h, on.1 rest))

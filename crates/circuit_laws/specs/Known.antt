-- The variables of a circuit: which are known, their numbers in the problem built, and what a moment gives those numbers.
use Prim.Native.Nat.{ℕ, suc, ◌+◌, ◌-◌, ◌<◌}
use native.Mathlib.Omega.{arith}
use Rattle.std.specs.Prelude.{◌≡◌, refl, ◌⊎◌, ◌||◌, get_or, eqb}
use Rattle.std.proofs.Math.Path.{ap}
use Rattle.std.proofs.Common.{◌∙◌}
use Rattle.std.proofs.Math.Logic.{inl, inr}
use Rattle.std.proofs.Math.Bool.{true}
use mathlib.Core.List.{List, [], ◌∷◌, ◌++◌, map}
use Rattle.std.proofs.Math.ListN.{length, length-map}
use borrow.Author.Tests.{eqb-true, eq-eqb, lt-leb}
use Rattle.meaning.specs.Clauses.{Values}
use Rattle.meaning.specs.Meaning.{State, moment}
use Rattle.meaning.specs.Demands.{In}
use Rattle.meaning.specs.Circuit.{Circuit, Latch, Gate, var, bad_literal, input_variables, latch_variables, gate_variables, variables, InputsAre, LatchesAre}
use Rattle.meaning.specs.Built.{among, position, n_of, helpers, number}
use Rattle.meaning.specs.CircuitText.{known, given, worked_out, gate_works}
use Rattle.laws.specs.Basics.{and_left, and_right, or_cases, or_left, or_right, in_append_left, in_append_right, in_append_cases}
use Rattle.laws.specs.Moment.{moment_now}
use Rattle.circuit_laws.specs.Sane.{Once, Sane}
use Rattle.circuit_laws.specs.Listed.{among_of, among_is, not_among, position_range, once_left, once_right, once_apart, in_map, map_at, Stand, stand_at, stand_of}
use Rattle.circuit_laws.specs.Rounds.{closed_contains}

-- ---- inputs and latches, by the numbers of their variables

module _ (v x : Values) where
  inputs_stand : (i : ℕ) (ls : List ℕ) → InputsAre v x i ls → Stand v x i (map var ls)
  inputs_stand i [] h = tt
  inputs_stand i (l ∷ ls) h = (h.0, inputs_stand (suc i) ls h.1)

  stand_inputs : (i : ℕ) (ls : List ℕ) → Stand v x i (map var ls) → InputsAre v x i ls
  stand_inputs i [] h = tt
  stand_inputs i (l ∷ ls) h = (h.0, stand_inputs (suc i) ls h.1)

  latches_stand : (i : ℕ) (qs : List Latch) → LatchesAre v x i qs → Stand v x i (map (λ (q : Latch). var q.lit) qs)
  latches_stand i [] h = tt
  latches_stand i (q ∷ qs) h = (h.0, latches_stand (suc i) qs h.1)

  stand_latches : (i : ℕ) (qs : List Latch) → Stand v x i (map (λ (q : Latch). var q.lit) qs) → LatchesAre v x i qs
  stand_latches i [] h = tt
  stand_latches i (q ∷ qs) h = (h.0, stand_latches (suc i) qs h.1)

module _ (c : Circuit) where
  -- ---- which are which

  pub in_gates : (g : Gate) → In g c.gates → In (var g.lit) (gate_variables c)
  unfolding gate_variables
  in_gates g i = in_map (λ (h : Gate). var h.lit) g c.gates i

  pub gate_line : (u : ℕ) → In u (gate_variables c) → (g : Gate) × In g c.gates × (u ≡ var g.lit)
  unfolding gate_variables
  gate_line u i = map_at (λ (h : Gate). var h.lit) u c.gates i

  pub input_variable : (u : ℕ) → In u (input_variables c) → In u (variables c)
  unfolding variables
  input_variable u i = in_append_left u (input_variables c) (latch_variables c ++ gate_variables c) i

  pub latch_variable : (u : ℕ) → In u (latch_variables c) → In u (variables c)
  unfolding variables
  latch_variable u i =
      in_append_right u (input_variables c) (latch_variables c ++ gate_variables c)
      (in_append_left u (latch_variables c) (gate_variables c) i)

  pub gate_variable : (u : ℕ) → In u (gate_variables c) → In u (variables c)
  unfolding variables
  gate_variable u i =
      in_append_right u (input_variables c) (latch_variables c ++ gate_variables c)
      (in_append_right u (latch_variables c) (gate_variables c) i)

  pub variable_cases : (u : ℕ) → In u (variables c)
      → In u (input_variables c) ⊎ (In u (latch_variables c) ⊎ In u (gate_variables c))
  unfolding variables
  variable_cases u i = go (in_append_cases u (input_variables c) (latch_variables c ++ gate_variables c) i)
    where
      go : In u (input_variables c) ⊎ In u (latch_variables c ++ gate_variables c)
          → In u (input_variables c) ⊎ (In u (latch_variables c) ⊎ In u (gate_variables c))
      go (inl j) = inl j
      go (inr j) = inr (in_append_cases u (latch_variables c) (gate_variables c) j)

  -- a variable is a latch's, or a helper's
  pub latch_or_helper : (u : ℕ) → In u (variables c) → In u (latch_variables c) ⊎ In u (helpers c)
  unfolding helpers
  latch_or_helper u i = go (variable_cases u i)
    where
      go : In u (input_variables c) ⊎ (In u (latch_variables c) ⊎ In u (gate_variables c))
          → In u (latch_variables c) ⊎ In u (input_variables c ++ gate_variables c)
      go (inl j) = inr (in_append_left u (input_variables c) (gate_variables c) j)
      go (inr (inl j)) = inl j
      go (inr (inr j)) = inr (in_append_right u (input_variables c) (gate_variables c) j)

  module _ (once : Once (variables c)) where
    once_inputs : Once (input_variables c)
    unfolding variables
    once_inputs = once_left (input_variables c) (latch_variables c ++ gate_variables c) once

    once_latches : Once (latch_variables c)
    unfolding variables
    once_latches =
        once_left (latch_variables c) (gate_variables c)
        (once_right (input_variables c) (latch_variables c ++ gate_variables c) once)

    pub once_gates : Once (gate_variables c)
    unfolding variables
    once_gates =
        once_right (latch_variables c) (gate_variables c)
        (once_right (input_variables c) (latch_variables c ++ gate_variables c) once)

    pub input_no_latch : (u : ℕ) → In u (input_variables c) → In u (latch_variables c) → ⊥
    unfolding variables
    input_no_latch u i j =
        once_apart (input_variables c) (latch_variables c ++ gate_variables c) once u i
        (in_append_left u (latch_variables c) (gate_variables c) j)

    pub input_no_gate : (u : ℕ) → In u (input_variables c) → In u (gate_variables c) → ⊥
    unfolding variables
    input_no_gate u i j =
        once_apart (input_variables c) (latch_variables c ++ gate_variables c) once u i
        (in_append_right u (latch_variables c) (gate_variables c) j)

    pub latch_no_gate : (u : ℕ) → In u (latch_variables c) → In u (gate_variables c) → ⊥
    unfolding variables
    latch_no_gate u i j =
        once_apart (latch_variables c) (gate_variables c)
        (once_right (input_variables c) (latch_variables c ++ gate_variables c) once)
        u i j

    pub helper_no_latch : (u : ℕ) → In u (helpers c) → In u (latch_variables c) → ⊥
    unfolding helpers
    helper_no_latch u i j = go (in_append_cases u (input_variables c) (gate_variables c) i)
      where
        go : In u (input_variables c) ⊎ In u (gate_variables c) → ⊥
        go (inl k) = input_no_latch u k j
        go (inr k) = latch_no_gate u j k

  -- ---- inputs and latches, by their variables

  module _ (v x : Values) where
    pub inputs_at : InputsAre v x 1 c.inputs → (u : ℕ) → In u (input_variables c) → v u ≡ x (1 + position u (input_variables c))
    unfolding input_variables
    inputs_at are = stand_at v x 1 (input_variables c) (inputs_stand v x 1 c.inputs are)

    pub inputs_of : Once (variables c) → ((u : ℕ) → In u (input_variables c) → v u ≡ x (1 + position u (input_variables c)))
        → InputsAre v x 1 c.inputs
    unfolding input_variables
    inputs_of once f = stand_inputs v x 1 c.inputs (stand_of v x 1 (input_variables c) (once_inputs once) f)

    pub latches_at : LatchesAre v x 1 c.latches → (u : ℕ) → In u (latch_variables c) → v u ≡ x (1 + position u (latch_variables c))
    unfolding latch_variables
    latches_at are = stand_at v x 1 (latch_variables c) (latches_stand v x 1 c.latches are)

    pub latches_of : Once (variables c) → ((u : ℕ) → In u (latch_variables c) → v u ≡ x (1 + position u (latch_variables c)))
        → LatchesAre v x 1 c.latches
    unfolding latch_variables
    latches_of once f = stand_latches v x 1 c.latches (stand_of v x 1 (latch_variables c) (once_latches once) f)

  -- ---- known, and given

  pub known_cases : (u : ℕ) → known c u ≡ true → (u ≡ 0) ⊎ In u (variables c)
  unfolding known
  known_cases u h = go (or_cases (eqb u 0) (among u (variables c)) h)
    where
      go : (eqb u 0 ≡ true) ⊎ (among u (variables c) ≡ true) → (u ≡ 0) ⊎ In u (variables c)
      go (inl e) = inl (eqb-true u 0 e)
      go (inr e) = inr (among_is u (variables c) e)

  pub known_variable : (u : ℕ) → In u (variables c) → known c u ≡ true
  unfolding known
  known_variable u i = or_right (eqb u 0) _ (among_of u (variables c) i)

  pub given_cases : (u : ℕ) → given c u ≡ true → (u ≡ 0) ⊎ (In u (input_variables c) ⊎ In u (latch_variables c))
  unfolding given
  given_cases u h = go (or_cases (eqb u 0) (among u (input_variables c) || among u (latch_variables c)) h)
    where
      further : (among u (input_variables c) ≡ true) ⊎ (among u (latch_variables c) ≡ true)
          → In u (input_variables c) ⊎ In u (latch_variables c)
      further (inl e) = inl (among_is u (input_variables c) e)
      further (inr e) = inr (among_is u (latch_variables c) e)

      go : (eqb u 0 ≡ true) ⊎ ((among u (input_variables c) || among u (latch_variables c)) ≡ true)
          → (u ≡ 0) ⊎ (In u (input_variables c) ⊎ In u (latch_variables c))
      go (inl e) = inl (eqb-true u 0 e)
      go (inr e) = inr (further (or_cases (among u (input_variables c)) (among u (latch_variables c)) e))

  pub given_zero : (u : ℕ) → u ≡ 0 → given c u ≡ true
  unfolding given
  given_zero u e = or_left (eqb u 0) _ (eq-eqb u 0 e)

  pub given_input : (u : ℕ) → In u (input_variables c) → given c u ≡ true
  unfolding given
  given_input u i = or_right (eqb u 0) _ (or_left (among u (input_variables c)) _ (among_of u (input_variables c) i))

  pub given_latch : (u : ℕ) → In u (latch_variables c) → given c u ≡ true
  unfolding given
  given_latch u i = or_right (eqb u 0) _ (or_right (among u (input_variables c)) _ (among_of u (latch_variables c) i))

  pub given_known : (u : ℕ) → given c u ≡ true → known c u ≡ true
  given_known u h = go (given_cases u h)
    where
      go : (u ≡ 0) ⊎ (In u (input_variables c) ⊎ In u (latch_variables c)) → known c u ≡ true
      go (inl e) = unfold known in or_left (eqb u 0) _ (eq-eqb u 0 e)
      go (inr (inl i)) = known_variable u (input_variable u i)
      go (inr (inr i)) = known_variable u (latch_variable u i)

  pub gate_known : (g : Gate) → In g c.gates → known c (var g.lit) ≡ true
  gate_known g i = known_variable (var g.lit) (gate_variable (var g.lit) (in_gates g i))

  -- what is worked out is known
  pub out_known : (r u : ℕ) → worked_out r c u ≡ true → known c u ≡ true
  out_known r u h = closed_contains c (known c) given_known (λ g i a b. gate_known g i) r u h

  -- the two literals of a gate that can be worked out
  pub left_out : (g : Gate) → gate_works c g ≡ true → worked_out (length c.gates) c (var g.left) ≡ true
  unfolding gate_works
  left_out g h = and_left (worked_out (length c.gates) c (var g.left)) _ h

  pub right_out : (g : Gate) → gate_works c g ≡ true → worked_out (length c.gates) c (var g.right) ≡ true
  unfolding gate_works
  right_out g h = and_right (worked_out (length c.gates) c (var g.left)) _ h

  -- they are known
  pub left_known : (g : Gate) → gate_works c g ≡ true → known c (var g.left) ≡ true
  left_known g h = out_known (length c.gates) (var g.left) (left_out g h)

  pub right_known : (g : Gate) → gate_works c g ≡ true → known c (var g.right) ≡ true
  right_known g h = out_known (length c.gates) (var g.right) (right_out g h)

  -- the bad literal or single output is known
  pub bad_is_known : Sane c → length c.outputs + length c.bads ≡ 1 → known c (var (bad_literal c)) ≡ true
  unfolding bad_literal
  bad_is_known sane one = go c.bads c.outputs one sane.bad_known sane.output_known
    where
      go : (bads outputs : List ℕ) → length outputs + length bads ≡ 1 → ((l : ℕ) → In l bads → known c (var l) ≡ true)
          → ((l : ℕ) → In l outputs → known c (var l) ≡ true) → known c (var (get_or (bads ++ outputs) 0 0)) ≡ true
      go [] [] e f g = absurd (omega arith)
      go [] (l ∷ ls) e f g = g l (inl refl)
      go (l ∷ ls) outputs e f g = f l (inl refl)

  -- the bad literal and the constraints are known
  pub bad_or_constraint : Sane c → known c (var (bad_literal c)) ≡ true → (l : ℕ) → In l (bad_literal c ∷ c.constraints)
      → known c (var l) ≡ true
  bad_or_constraint sane bad l (inl e) = ap (λ (k : ℕ). known c (var k)) e ∙ bad
  bad_or_constraint sane bad l (inr i) = sane.constraint_known l i

  -- ---- a moment at the number of a variable

  pub latch_count : length (latch_variables c) ≡ length c.latches
  unfolding latch_variables
  latch_count = length-map c.latches (λ (q : Latch). var q.lit)

  pub at_latch : (s t : State) (x : Values) (u : ℕ) → In u (latch_variables c)
      → moment (n_of c) s t x (number c u) ≡ s (1 + position u (latch_variables c))
  unfolding number n_of latch_variables
  at_latch s t x u i =
      let at = position u (latch_variables c) in
      let near = position_range u (latch_variables c) i in
      let many : length (latch_variables c) ≡ n_of c = latch_count in
      let same : suc at ≡ 1 + at = omega arith in
      let there : number c u ≡ suc at = cc (among_of u (latch_variables c) i) in
      ap (moment (n_of c) s t x) there
      ∙ moment_now (n_of c) s t x (suc at) (omega arith) ∙ ap s same

  pub at_helper : (s t : State) (x : Values) (u : ℕ) → (In u (latch_variables c) → ⊥)
      → moment (n_of c) s t x (number c u) ≡ x (1 + position u (helpers c))
  unfolding number moment
  at_helper s t x u f =
      let at = position u (helpers c) in
      let n = n_of c in
      let where_it_is : number c u ≡ n + n + suc at = cc (not_among u (latch_variables c) f) in
      let past_state : n < n + n + suc at = omega arith in
      let past_next : n + n < n + n + suc at = omega arith in
      let back : n + n + suc at - (n + n) ≡ 1 + at = omega arith in
      cc (lt-leb (n + n + suc at) n past_state, lt-leb (n + n + suc at) (n + n) past_next)

-- Gates in a circle are refused, so each gate has exactly one value: at every state and inputs there are values of a circuit's variables, and
-- any two agree on all that is known.
use Prim.Native.Nat.{ℕ, zero, suc, ◌+◌}
use Rattle.std.specs.Prelude.{◌≡◌, ◌⊎◌, false, not, ◌&&◌, List, [], ◌∷◌, eqb}
use Rattle.std.proofs.Math.Path.{refl, sym, ap}
use Rattle.std.proofs.Common.{◌∙◌, inl, inr, eqb-true, eq-eqb, ne_eqb}
use Rattle.std.proofs.Math.Bool.{Bool, true, cond}
use Rattle.std.specs.Bool.{beq}
use Rattle.std.proofs.Math.ListN.{length}
use Rattle.meaning.specs.Clauses.{Values, any}
use Rattle.meaning.specs.Meaning.{State}
use Rattle.meaning.specs.Demands.{In}
use Rattle.meaning.specs.Circuit.{Circuit, Gate, var, negated, value, GatesAre, Worth, input_variables, latch_variables, gate_variables, variables}
use Rattle.meaning.specs.Built.{among, position}
use Rattle.meaning.specs.CircuitText.{known, given, worked_out}
use Rattle.laws.specs.Basics.{not_true_is_false, and_left, and_right, and_both, any_of, any_at}
use Rattle.circuit_laws.specs.Sane.{Sane}
use Rattle.circuit_laws.specs.Listed.{among_of, not_among, once_one}
use Rattle.circuit_laws.specs.Rounds.{given_out, gate_out, GateOf, out_cases, closed_contains}
use Rattle.circuit_laws.specs.Edges.{beq_is}
use Rattle.circuit_laws.specs.Known.{inputs_at, inputs_of, latches_at, latches_of, in_gates, input_variable, latch_variable, gate_variable, once_gates, input_no_latch, input_no_gate, latch_no_gate, variable_cases, gate_line, known_cases, given_cases, given_zero, given_input, given_latch, left_out, right_out}

-- the value of a literal depends on that of its variable alone
pub value_same : (v w : Values) (l : ℕ) → v (var l) ≡ w (var l) → value v l ≡ value w l
unfolding value
value_same v w l e = ap (λ (b : Bool). cond (negated l) (not b) b) e

-- gates by members
pub gates_at : (v : Values) (gs : List Gate) → GatesAre v gs → (g : Gate) → In g gs
    → v (var g.lit) ≡ (value v g.left && value v g.right)
gates_at v [] are g x'' = elim x'' [ ]
gates_at v (h ∷ gs) are g (inl e) =
    ap (λ (a : Gate). v (var a.lit)) e ∙ are.0
    ∙ sym (ap (λ (a : Gate). value v a.left && value v a.right) e)
gates_at v (h ∷ gs) are g (inr i) = gates_at v gs are.1 g i

pub gates_of : (v : Values) (gs : List Gate)
    → ((g : Gate) → In g gs → v (var g.lit) ≡ (value v g.left && value v g.right)) → GatesAre v gs
gates_of v [] f = tt
gates_of v (g ∷ gs) f = (f g (inl refl), gates_of v gs (λ h i. f h (inr i)))

-- two truth values of which each follows from the other
both_ways : {a b : Bool} → (a ≡ true → b ≡ true) → (b ≡ true → a ≡ true) → a ≡ b
both_ways {a} {b} to from = go a b to from
  where
    go : (a b : Bool) → (a ≡ true → b ≡ true) → (b ≡ true → a ≡ true) → a ≡ b
    go true b to from = sym (to refl)
    go false true to from = from refl
    go false false to from = refl

module _ (c : Circuit) (s : State) (x : Values) where
  -- what is given
  given_value : Values
  given_value u =
      cond (eqb u 0) false
      (cond (among u (input_variables c)) (x (1 + position u (input_variables c))) (s (1 + position u (latch_variables c))))

  -- the value of a variable, by so many rounds
  fueled : ℕ → Values
  fueled zero u = given_value u
  fueled (suc r) u =
      cond (given c u) (given_value u)
      (any (λ (g : Gate). eqb u (var g.lit) && (value (fueled r) g.left && value (fueled r) g.right)) c.gates)

module _ (c : Circuit) (sane : Sane c) where
  -- all that is known is worked out
  pub known_out : (u : ℕ) → known c u ≡ true → worked_out (suc (length c.gates)) c u ≡ true
  known_out u h = go (known_cases c u h)
    where
      is_out : ℕ → Type 0
      is_out a = worked_out (suc (length c.gates)) c a ≡ true

      gate : (g : Gate) → In g c.gates → is_out (var g.lit)
      gate g i = gate_out (length c.gates) c g i (left_out c g (sane.works g i)) (right_out c g (sane.works g i))

      by_line : In u (input_variables c) ⊎ (In u (latch_variables c) ⊎ In u (gate_variables c)) → is_out u
      by_line (inl i) = given_out (suc (length c.gates)) c u (given_input c u i)
      by_line (inr (inl i)) = given_out (suc (length c.gates)) c u (given_latch c u i)
      by_line (inr (inr i)) =
          let found = gate_line c u i in
          ap (worked_out (suc (length c.gates)) c) found.2 ∙ gate found.0 found.1

      go : (u ≡ 0) ⊎ In u (variables c) → is_out u
      go (inl e) = given_out (suc (length c.gates)) c u (given_zero c u e)
      go (inr i) = by_line (variable_cases c u i)

  -- ---- at most one

  pub one_value : (s : State) (x v w : Values) → Worth c s x v → Worth c s x w → (u : ℕ) → known c u ≡ true → v u ≡ w u
  one_value s x v w a b u h =
      (beq_is (v u) (w u)).0 (closed_contains c (λ i. beq (v i) (w i)) start on (suc (length c.gates)) u (known_out u h))
    where
      given_same : (i : ℕ) → (i ≡ 0) ⊎ (In i (input_variables c) ⊎ In i (latch_variables c)) → v i ≡ w i
      given_same i (inl e) = ap v e ∙ a.constant ∙ sym (ap w e ∙ b.constant)
      given_same i (inr (inl j)) = inputs_at c v x a.inputs i j ∙ sym (inputs_at c w x b.inputs i j)
      given_same i (inr (inr j)) = latches_at c v s a.latches i j ∙ sym (latches_at c w s b.latches i j)

      start : (i : ℕ) → given c i ≡ true → beq (v i) (w i) ≡ true
      start i g = (beq_is (v i) (w i)).1 (given_same i (given_cases c i g))

      on : (g : Gate) → In g c.gates → beq (v (var g.left)) (w (var g.left)) ≡ true
          → beq (v (var g.right)) (w (var g.right)) ≡ true → beq (v (var g.lit)) (w (var g.lit)) ≡ true
      on g i p q =
          let left = value_same v w g.left ((beq_is (v (var g.left)) (w (var g.left))).0 p) in
          let right = value_same v w g.right ((beq_is (v (var g.right)) (w (var g.right))).0 q) in
          (beq_is (v (var g.lit)) (w (var g.lit))).1
          (cc (gates_at v c.gates a.gates g i, gates_at w c.gates b.gates g i, left, right))

  -- ---- at least one

  module _ (s : State) (x : Values) where
    given_is : (r u : ℕ) → given c u ≡ true → fueled c s x r u ≡ given_value c s x u
    unfolding fueled
    given_is zero u h = refl
    given_is (suc r) u h = cc

    -- a gate's variable is not given
    gate_not_given : (g : Gate) → In g c.gates → given c (var g.lit) ≡ false
    gate_not_given g i = not_true_is_false (λ h. go (given_cases c (var g.lit) h))
      where
        go : (var g.lit ≡ 0) ⊎ (In (var g.lit) (input_variables c) ⊎ In (var g.lit) (latch_variables c)) → ⊥
        go (inl e) = sane.nonzero (var g.lit) (gate_variable c (var g.lit) (in_gates c g i)) e
        go (inr (inl j)) = input_no_gate c sane.once (var g.lit) j (in_gates c g i)
        go (inr (inr j)) = latch_no_gate c sane.once (var g.lit) j (in_gates c g i)

    -- the gate's variable is that of this gate alone
    gate_is : (r : ℕ) (g : Gate) → In g c.gates
        → fueled c s x (suc r) (var g.lit) ≡ (value (fueled c s x r) g.left && value (fueled c s x r) g.right)
    unfolding fueled gate_variables
    gate_is r g i =
        ap (λ (b : Bool). cond b (given_value c s x (var g.lit)) (any test c.gates)) (gate_not_given g i) ∙ same
      where
        both : Gate → Bool
        both h = value (fueled c s x r) h.left && value (fueled c s x r) h.right

        test : Gate → Bool
        test h = eqb (var g.lit) (var h.lit) && both h

        this : (h : Gate) → In h c.gates → test h ≡ true → both g ≡ true
        this h j passes =
            let e = eqb-true (var g.lit) (var h.lit) (and_left (eqb (var g.lit) (var h.lit)) (both h) passes) in
            ap both (once_one (λ (a : Gate). var a.lit) c.gates (once_gates c sane.once) g h i j e)
            ∙ and_right (eqb (var g.lit) (var h.lit)) (both h) passes

        same : any test c.gates ≡ both g
        same =
            both_ways (λ h. let found = any_at test c.gates h in this found.0 found.1 found.2)
            (λ h. any_of test g c.gates i (and_both (eqb (var g.lit) (var g.lit)) (both g) (eq-eqb (var g.lit) (var g.lit) refl) h))

    -- what is worked out does not change with more fuel
    stays : (r u : ℕ) → worked_out r c u ≡ true → fueled c s x (suc r) u ≡ fueled c s x r u
    unfolding worked_out
    stays zero u h = given_is 1 u h ∙ sym (given_is 0 u h)
    stays (suc r) u h = go (out_cases r c u h) (stays r)
      where
        go : (given c u ≡ true) ⊎ GateOf r c u → ((a : ℕ) → worked_out r c a ≡ true → fueled c s x (suc r) a ≡ fueled c s x r a)
            → fueled c s x (suc (suc r)) u ≡ fueled c s x (suc r) u
        go (inl e) before = given_is (suc (suc r)) u e ∙ sym (given_is (suc r) u e)
        go (inr (g, i, e, a, b)) before =
            let left = value_same (fueled c s x (suc r)) (fueled c s x r) g.left (before (var g.left) a) in
            let right = value_same (fueled c s x (suc r)) (fueled c s x r) g.right (before (var g.right) b) in
            cc (e, gate_is (suc r) g i, gate_is r g i, left, right)

    pub some_value : (v : Values) × Worth c s x v
    unfolding given_value
    some_value = (
      v,
      record {
        constant = is 0 (given_zero c 0 refl);
        inputs = inputs_of c v x sane.once input;
        latches = latches_of c v s sane.once latch;
        gates = gates_of v c.gates gate;
      },
    )
      where
        most : ℕ
        most = length c.gates

        v : Values
        v = fueled c s x (suc most)

        is : (u : ℕ) → given c u ≡ true → v u ≡ given_value c s x u
        is u h = given_is (suc most) u h

        input : (u : ℕ) → In u (input_variables c) → v u ≡ x (1 + position u (input_variables c))
        input u i = is u (given_input c u i) ∙ cc (ne_eqb u 0 (sane.nonzero u (input_variable c u i)), among_of u (input_variables c) i)

        latch : (u : ℕ) → In u (latch_variables c) → v u ≡ s (1 + position u (latch_variables c))
        latch u i =
            is u (given_latch c u i)
            ∙ cc (ne_eqb u 0 (sane.nonzero u (latch_variable c u i)), not_among u (input_variables c) (λ j. input_no_latch c sane.once u j i))

        gate : (g : Gate) → In g c.gates → v (var g.lit) ≡ (value v g.left && value v g.right)
        gate g i =
            let works = sane.works g i in
            let left = value_same v (fueled c s x most) g.left (stays most (var g.left) (left_out c g works)) in
            let right = value_same v (fueled c s x most) g.right (stays most (var g.right) (right_out c g works)) in
            cc (gate_is most g i, left, right)

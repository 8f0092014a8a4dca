-- Edges as the code holds them, and the number of a variable as the code finds it.
use Rattle.std.specs.Prelude.{ℕ, suc, ◌+◌, ◌/◌, ◌%◌, ◌≤◌, ◌<◌, ◌≡◌, refl, ◌⊎◌, Bool, true, false, not, ◌||◌, cond, List, [], ◌∷◌, ◌++◌, length, ltb, eqb}
use Rattle.std.proofs.Common.{arith, add-one, ap, ◌∙◌, inl, inr, eq-eqb, ne_eqb, eqb-true, lt-ltb, le-ltb}
use Rattle.std.proofs.Math.Path.{sym}
use Rattle.std.proofs.lemmas.Bool.{eqb-false}
use Rattle.meaning.specs.Clauses.{any, negation}
use Rattle.meaning.specs.Circuit as Meant
use Rattle.meaning.specs.Circuit.{var, negated, latch_variables}
use Rattle.meaning.specs.Built as Built
use Rattle.meaning.specs.Built.{constant, named, among, position, n_of, helpers, number, literal_if, edge, opposite}
use Rattle.laws.specs.Basics.{bool_cases}
use Rattle.lines.specs.declared.number.Number.{Number}
use Rattle.lines.specs.Numbers.{worth}
use Rattle.sections.specs.declared.circuit.Circuit.{Circuit}
use Rattle.sections.specs.Lists.{variables_of, variables_length, defines_is}
use Rattle.sections.specs.Rows.{value_small, value_least}
use Rattle.sections.specs.Whole.{Whole, circuit_at, inputs_are, latches_are, gates_are, latch_count}
use Rattle.built.specs.declared.edge.Edge.{Edge}
use Rattle.built.specs.declared.edge.Edge.TheVariants.{Constant, Named}

-- what an edge of the code stands for
abbrev pub edge_of : Edge → Built.Edge
edge_of (Constant b) = constant b
edge_of (Named l) = named (literal_if l.negative l.variable)

-- its variable; 0 for a constant
abbrev pub variable_of : Edge → ℕ
variable_of (Constant b) = 0
variable_of (Named l) = l.variable

abbrev pub is_named : Edge → Bool
is_named (Constant b) = false
is_named (Named l) = true

-- a circuit that stands in its text, within the limits of a problem
pub record Small (text : List ℕ) (c : Circuit) : Type 0 where
  pub whole : Whole text c
  pub latches : c.latches.count ≤ 96
  pub helpers : c.inputs.count + c.gates.count ≤ 320

-- ---- edges

literal_not : (b : Bool) (v : ℕ) → literal_if (not b) v ≡ negation (literal_if b v)
unfolding literal_if negation
literal_not true v = refl
literal_not false v = refl

pub opposite_named : (b s : Bool) (v : ℕ) → s ≡ not b → named (literal_if s v) ≡ opposite (named (literal_if b v))
unfolding opposite
opposite_named b s v is = ap (λ (t : Bool). named (literal_if t v)) is ∙ ap named (literal_not b v)

parity : (l : ℕ) → not (eqb (l % 2) 0) ≡ eqb (l % 2) 1
parity l = go (bool_cases (eqb (l % 2) 0))
  where
    go : (eqb (l % 2) 0 ≡ true) ⊎ (eqb (l % 2) 0 ≡ false) → not (eqb (l % 2) 0) ≡ eqb (l % 2) 1
    go (inl t) = rw (eqb-true (l % 2) 0 t)
    go (inr t) = rw t (sym (eq-eqb (l % 2) 1 (omega (arith, eqb-false (l % 2) 0 t))))

-- an edge made of the sign and the variable of a literal
module _ (c : Meant.Circuit) (l w : ℕ) (is : w ≡ l) (sign : Bool) (sign_is : sign ≡ not (eqb (w % 2) 0)) where
  pub edge_constant : eqb (var w) 0 ≡ true → constant sign ≡ edge c l
  unfolding edge negated
  edge_constant none = ap (λ (b : Bool). constant b) (sign_is ∙ parity w) ∙ sym (rw none) ∙ ap (edge c) is

  pub edge_named : eqb (var w) 0 ≡ false → (v : ℕ) → v ≡ number c (var w) → named (literal_if sign v) ≡ edge c l
  unfolding edge negated
  edge_named some v v_is = rw (v_is, sign_is, parity w) (sym (rw some)) ∙ ap (edge c) is

-- ---- the number of a variable

-- a position in two lists, one behind the other
position_append : (u : ℕ) (us vs : List ℕ) → position u (us ++ vs) ≡ cond (among u us) (position u us) (length us + position u vs)
unfolding position among any
position_append u [] vs = omega arith
position_append u (v ∷ us) vs = go (eqb u v) (any (eqb u) us) (position_append u us vs)
  where
    go : (b t : Bool) → position u (us ++ vs) ≡ cond t (position u us) (length us + position u vs)
        → cond b 0 (suc (position u (us ++ vs)))
        ≡ cond (b || t) (cond b 0 (suc (position u us))) (suc (length us) + position u vs)
    go true t e = refl
    go false true e = ap suc e
    go false false e = omega (arith, e)

pub var_zero : (l : ℕ) → l < 2 → eqb (var l) 0 ≡ true
unfolding var
var_zero l h = eq-eqb (l / 2) 0 (omega arith)

pub var_some : (l : ℕ) → 2 ≤ l → eqb (var l) 0 ≡ false
unfolding var
var_some l h = ne_eqb (l / 2) 0 (λ e. omega (arith, e))

module _ (text : List ℕ) (c : Circuit) (x : Number) where
  abbrev u : ℕ
  u = var (worth x)

  abbrev Is : ℕ → Type 0
  Is r = r ≡ number (circuit_at text c) (var (worth x))

  pub is_constant : x.value < 2 → eqb u 0 ≡ true
  is_constant less = var_zero (worth x) (value_small x less)

  pub no_constant : 2 ≤ x.value → eqb u 0 ≡ false
  no_constant some = var_some (worth x) (value_least x some)

  module _ (latch : ℕ) (latch_is : latch ≡ position u (variables_of text c.latches)) where
    by_kind : number (circuit_at text c) u
        ≡ cond (ltb latch c.latches.count) (suc latch)
        (c.latches.count + c.latches.count + suc (position u (variables_of text c.inputs ++ variables_of text c.gates)))
    unfolding number n_of helpers
    by_kind =
        rw (
          latches_are text c,
          inputs_are text c,
          gates_are text c,
          latch_count text c,
          sym (defines_is text c.latches u latch latch_is),
          sym latch_is,
        )

    pub variable_latch : latch < c.latches.count → Is (latch + 1)
    variable_latch less = add-one latch ∙ sym (by_kind ∙ rw (lt-ltb latch c.latches.count less))

    module _ (past : c.latches.count ≤ latch) (input : ℕ) (input_is : input ≡ position u (variables_of text c.inputs)) where
      abbrev n : ℕ
      n = c.latches.count

      helper_is : (k : ℕ) → position u (variables_of text c.inputs ++ variables_of text c.gates) ≡ k → Is (n + n + k + 1)
      helper_is k e = up ∙ sym (by_kind ∙ rw (le-ltb latch c.latches.count past, e))
        where
          up : n + n + k + 1 ≡ n + n + suc k
          up = omega arith

      found : position u (variables_of text c.inputs ++ variables_of text c.gates)
          ≡ cond (ltb input c.inputs.count) input (c.inputs.count + position u (variables_of text c.gates))
      found =
          position_append u (variables_of text c.inputs) (variables_of text c.gates)
          ∙ rw (sym (defines_is text c.inputs u input input_is), sym input_is, variables_length text c.inputs)

      pub variable_input : input < c.inputs.count → Is (n + n + input + 1)
      variable_input less = helper_is input (found ∙ rw (lt-ltb input c.inputs.count less))

      pub variable_gate : c.inputs.count ≤ input → (gate : ℕ) → gate ≡ position u (variables_of text c.gates)
          → Is (n + n + c.inputs.count + gate + 1)
      variable_gate over gate gate_is =
          let up : n + n + c.inputs.count + gate + 1 ≡ n + n + (c.inputs.count + gate) + 1 = omega arith in
          up ∙ helper_is (c.inputs.count + gate) (found ∙ rw (le-ltb input c.inputs.count over, sym gate_is))

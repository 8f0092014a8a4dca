-- Where a variable comes from.
use Prim.Native.Nat.{ℕ, suc, ◌+◌, ◌/◌, ◌≤◌, ◌<◌}
use Rattle.std.proofs.Common.{arith, ◌∙◌}
use Rattle.std.proofs.Math.Numerals.{add-one}
use Rattle.std.specs.Prelude.{◌≡◌, Bool, ◌||◌, cond, List, ◌++◌, length, Option, Some, None, is_some, unwrap_or}
use Rattle.std.proofs.Math.Path.{refl, sym, ap}
use Rattle.std.proofs.Math.Bool.{true, false}
use Rattle.std.proofs.Math.Dec.{ltb, leb, eqb}
use borrow.Author.Tests.{eq-eqb, ne_eqb, le-leb, lt-leb, leb-false, ltb-false}
use Rattle.meaning.specs.Circuit
use Rattle.meaning.specs.Circuit.{var, variables, input_variables, latch_variables, gate_variables}
use Rattle.meaning.specs.Built.{among, position}
use Rattle.meaning.specs.CircuitText.{known, given}
use Rattle.lines.specs.declared.number.Number.{Number}
use Rattle.lines.specs.Numbers.{worth}
use Rattle.sections.specs.declared.circuit.Circuit.{Circuit}
use Rattle.sections.specs.Lists.{variables_of, variables_length, among_position, defines_is, found_at, found_none}
use Rattle.sections.specs.Rows.{value_small, value_least, among_append}
use Rattle.sections.specs.Whole.{circuit_at, inputs_are, latches_are, gates_are}

-- 0 where it is given; 1 more than its position where it is a gate's; 1 more than the number of gates where no line defines it
unfoldable pub source_of : Circuit.Circuit → ℕ → ℕ
source_of c u = cond (given c u) 0 (suc (position u (gate_variables c)))

-- the same, and none where no line defines it
unfoldable pub source_at : Circuit.Circuit → ℕ → Option ℕ
source_at c u = cond (known c u) (Some (source_of c u)) None

-- ---- as the code finds it

var_zero : (l : ℕ) → l < 2 → eqb (var l) 0 ≡ true
unfolding var
var_zero l h = eq-eqb (l / 2) 0 (omega arith)

var_some : (l : ℕ) → 2 ≤ l → eqb (var l) 0 ≡ false
unfolding var
var_some l h = ne_eqb (l / 2) 0 (λ e. omega (arith, e))

module _ (text : List ℕ) (c : Circuit) (x : Number) where
  abbrev u : ℕ
  u = var (worth x)

  abbrev Source : ℕ → Type 0
  Source r = r ≡ source_of (circuit_at text c) (var (worth x))

  pub source_constant : x.value < 2 → Source 0
  unfolding source_of given
  source_constant less = sym (rw (var_zero (worth x) (value_small x less)))

  module _ (some : 2 ≤ x.value) where
    given_is : given (circuit_at text c) u
        ≡ (among u (variables_of text c.inputs) || among u (variables_of text c.latches))
    unfolding given
    given_is = rw (var_some (worth x) (value_least x some), inputs_are text c, latches_are text c)

    pub source_input : among u (variables_of text c.inputs) ≡ true → Source 0
    unfolding source_of
    source_input e = sym (rw (given_is, e))

    pub source_latch : among u (variables_of text c.inputs) ≡ false → among u (variables_of text c.latches) ≡ true → Source 0
    unfolding source_of
    source_latch e f = sym (rw (given_is, e, f))

    pub source_gate : among u (variables_of text c.inputs) ≡ false → among u (variables_of text c.latches) ≡ false → (r : ℕ)
        → r ≡ position u (variables_of text c.gates) → Source (r + 1)
    unfolding source_of
    source_gate e f r is =
        add-one r ∙ ap suc (is ∙ ap (position u) (sym (gates_are text c))) ∙ sym (rw (given_is, e, f))

-- ---- what it says

module _ (c : Circuit.Circuit) (u : ℕ) where
  -- some line defines it, or it is a constant, exactly if it comes from somewhere
  pub known_source : leb (source_of c u) (length (gate_variables c)) ≡ known c u
  unfolding known given source_of variables
  known_source =
      go (eqb u 0) (among u (input_variables c)) (among u (latch_variables c)) (among u (gate_variables c)) (among_position u (gate_variables c))
      ∙ sym
      (ap (λ (b : Bool). eqb u 0 || b)
      (among_append u (input_variables c) (latch_variables c ++ gate_variables c)
      ∙ ap (λ (b : Bool). among u (input_variables c) || b) (among_append u (latch_variables c) (gate_variables c))))
    where
      go : (z i l g : Bool) → ltb (position u (gate_variables c)) (length (gate_variables c)) ≡ g
          → leb (cond (z || (i || l)) 0 (suc (position u (gate_variables c)))) (length (gate_variables c)) ≡ (z || (i || (l || g)))
      go true i l g e = le-leb 0 (length (gate_variables c)) (omega arith)
      go false true l g e = le-leb 0 (length (gate_variables c)) (omega arith)
      go false false true g e = le-leb 0 (length (gate_variables c)) (omega arith)
      go false false false g e = e

pub known_found : (text : List ℕ) (c : Circuit) (u r : ℕ) → r ≡ source_of (circuit_at text c) u
    → leb r c.gates.count ≡ known (circuit_at text c) u
known_found text c u r is =
    ap (λ (k : ℕ). leb k c.gates.count) is
    ∙ ap (leb (source_of (circuit_at text c) u)) (sym (ap length (gates_are text c) ∙ variables_length text c.gates))
    ∙ known_source (circuit_at text c) u

-- it comes from somewhere, or from nowhere
pub source_some : (text : List ℕ) (c : Circuit) (u r : ℕ) → r ≡ source_of (circuit_at text c) u → r ≤ c.gates.count
    → Some r ≡ source_at (circuit_at text c) u
unfolding source_at
source_some text c u r is most = sym (rw (sym (known_found text c u r is) ∙ le-leb r c.gates.count most) (ap Some (sym is)))

pub source_none : (text : List ℕ) (c : Circuit) (u r : ℕ) → r ≡ source_of (circuit_at text c) u → c.gates.count < r
    → None ≡ source_at (circuit_at text c) u
unfolding source_at
source_none text c u r is past = sym (rw (sym (known_found text c u r is) ∙ lt-leb r c.gates.count past))

pub source_nowhere : (text : List ℕ) (c : Circuit) (x : Number) → 2 ≤ x.value
    → among (var (worth x)) (variables_of text c.inputs) ≡ false → among (var (worth x)) (variables_of text c.latches) ≡ false
    → None ≡ found_at (var (worth x)) (variables_of text c.gates) → None ≡ source_at (circuit_at text c) (var (worth x))
source_nowhere text c x some e f none =
    let v = var (worth x) in
    let r = position v (variables_of text c.gates) in
    let past = ltb-false r c.gates.count (defines_is text c.gates v r refl ∙ found_none v (variables_of text c.gates) none) in
    source_none text c v (r + 1) (source_gate text c x some e f r refl) (omega (arith, past))

pub source_known : (c : Circuit.Circuit) (u : ℕ) → is_some (source_at c u) ≡ known c u
unfolding source_at
source_known c u = go (known c u)
  where
    go : (b : Bool) → is_some (cond b (Some (source_of c u)) None) ≡ b
    go true = refl
    go false = refl

-- with one more than the number of gates for none it is the number again
pub source_or : (text : List ℕ) (c : Circuit) (u : ℕ) (r : Option ℕ) → r ≡ source_at (circuit_at text c) u
    → source_of (circuit_at text c) u ≤ c.gates.count + 1 → unwrap_or r (c.gates.count + 1) ≡ source_of (circuit_at text c) u
unfolding source_at
source_or text c u r is most = ap (λ (o : Option ℕ). unwrap_or o (c.gates.count + 1)) is ∙ go (known (circuit_at text c) u) refl
  where
    go : (b : Bool) → known (circuit_at text c) u ≡ b
        → unwrap_or (cond b (Some (source_of (circuit_at text c) u)) None) (c.gates.count + 1) ≡ source_of (circuit_at text c) u
    go true t = refl
    go false t =
        let past = leb-false (source_of (circuit_at text c) u) c.gates.count (known_found text c u _ refl ∙ t) in
        omega (arith, past, most)

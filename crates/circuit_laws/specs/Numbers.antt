-- What a circuit's literals are named in the problem built from it: a variable that a line may use is one of the present moment.
use Rattle.std.specs.Prelude.{ℕ, suc, ◌+◌, ◌≡◌, refl, ◌⊎◌, Bool, true, false, cond, List, [], ◌∷◌, map, length, eqb}
use Rattle.std.proofs.Common.{arith, inl, inr, length-append}
use Rattle.std.proofs.lemmas.List.{length-map}
use Rattle.std.proofs.lemmas.Bool.{eqb-false}
use Rattle.meaning.specs.Clauses.{pos, neg, Clause, variable, negation}
use Rattle.meaning.specs.Demands.{In}
use Rattle.meaning.specs.Circuit.{Circuit, var, negated, variables, input_variables, latch_variables, gate_variables}
use Rattle.meaning.specs.Built.{Edge, constant, named, among, position, n_of, helpers, number, literal_if, edge, opposite, clause_if}
use Rattle.meaning.specs.CircuitText.{known}
use Rattle.laws.specs.Basics.{not_both}
use Rattle.laws.specs.Within.{ClausesOf, Present}
use Rattle.circuit_laws.specs.Listed.{among_of, among_is, position_range}
use Rattle.circuit_laws.specs.Known.{latch_count, latch_or_helper, known_cases}

pub helper_count : (c : Circuit) → length (helpers c) ≡ length c.inputs + length c.gates
unfolding helpers input_variables gate_variables
helper_count c = simp (length-append, length-map)

-- ---- numbers

pub number_present : (c : Circuit) (u : ℕ) → In u (variables c) → Present (n_of c) (length (helpers c)) (number c u)
unfolding number n_of
number_present c u h = go (among u (latch_variables c)) refl
  where
    helper : among u (latch_variables c) ≡ false → In u (latch_variables c) ⊎ In u (helpers c) → In u (helpers c)
    helper e (inl g) = absurd (not_both (among_of u (latch_variables c) g) e)
    helper e (inr g) = g

    go : (b : Bool) → among u (latch_variables c) ≡ b
        → Present (n_of c) (length (helpers c))
        (cond b (suc (position u (latch_variables c))) (n_of c + n_of c + suc (position u (helpers c))))
    go true e =
        let less = position_range u (latch_variables c) (among_is u (latch_variables c) e) in
        inl (omega arith, omega (arith, less, latch_count c))
    go false e =
        let less = position_range u (helpers c) (helper e (latch_or_helper c u h)) in
        inr (omega arith, omega (arith, less))

-- ---- edges

-- what an edge names, if it is no constant, is of a sort
abbrev pub EdgeOf : (ℕ → Type 0) → Edge → Type 0
EdgeOf P (constant b) = Unit {0}
EdgeOf P (named l) = P (variable l)

abbrev pub EdgesOf : (ℕ → Type 0) → List Edge → Type 0
EdgesOf P [] = Unit {0}
EdgesOf P (e ∷ es) = EdgeOf P e × EdgesOf P es

pub variable_if : (b : Bool) (v : ℕ) → variable (literal_if b v) ≡ v
unfolding literal_if variable
variable_if true v = refl
variable_if false v = refl

pub edge_present : (c : Circuit) (l : ℕ) → known c (var l) ≡ true → EdgeOf (Present (n_of c) (length (helpers c))) (edge c l)
unfolding edge
edge_present c l h = go (eqb (var l) 0) refl
  where
    n : ℕ
    n = n_of c

    m : ℕ
    m = length (helpers c)

    used : eqb (var l) 0 ≡ false → (var l ≡ 0) ⊎ In (var l) (variables c) → Present n m (number c (var l))
    used e (inl z) = absurd (eqb-false (var l) 0 e z)
    used e (inr g) = number_present c (var l) g

    go : (b : Bool) → eqb (var l) 0 ≡ b
        → EdgeOf (Present n m) (cond b (constant (negated l)) (named (literal_if (negated l) (number c (var l)))))
    go true e = tt
    go false e = rw (variable_if (negated l) (number c (var l))) (used e (known_cases c (var l) h))

pub opposite_of : (P : ℕ → Type 0) (e : Edge) → EdgeOf P e → EdgeOf P (opposite e)
unfolding opposite negation variable
opposite_of P (constant b) h = tt
opposite_of P (named (pos v)) h = h
opposite_of P (named (neg v)) h = h

-- the clause of edges names what they name
pub clause_if_of : (P : ℕ → Type 0) (es : List Edge) → EdgesOf P es → ClausesOf P (clause_if es)
unfolding clause_if
clause_if_of P [] h = (tt, tt)
clause_if_of P (constant true ∷ es) h = tt
clause_if_of P (constant false ∷ es) h = clause_if_of P es h.1
clause_if_of P (named l ∷ es) h = with_literal (clause_if es) (clause_if_of P es h.1)
  where
    with_literal : (cs : List Clause) → ClausesOf P cs → ClausesOf P (map (λ (c : Clause). l ∷ c) cs)
    with_literal [] g = tt
    with_literal (c ∷ cs) g = ((h.0, g.0), with_literal cs g.1)

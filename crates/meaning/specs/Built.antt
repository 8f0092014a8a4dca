-- The problem that is built from a circuit and its lemmas: which variable is which, and its clauses in their order.
use Rattle.std.specs.Prelude.{ℕ, suc, ◌+◌, Bool, true, false, not, cond, List, [], ◌∷◌, ◌++◌, map, length, eqb}
use Rattle.meaning.specs.Clauses.{Literal, pos, neg, Clause, negation, any}
use Rattle.meaning.specs.Meaning.{Problem}
use Rattle.meaning.specs.Circuit.{Circuit, Latch, Gate, Start, at_0, at_1, at_either, var, negated, bad_literal, input_variables, latch_variables, gate_variables}

-- a number is one of a list
unfoldable pub among : ℕ → List ℕ → Bool
among u us = any (eqb u) us

-- the position of a number in a list, counted from 0
unfoldable pub position : ℕ → List ℕ → ℕ
position u [] = 0
position u (v ∷ us) = cond (eqb u v) 0 (suc (position u us))

-- n = L: latches become state variables
unfoldable pub n_of : Circuit → ℕ
n_of c = length c.latches

-- inputs by line order, and then gates by line order, become helpers
unfoldable pub helpers : Circuit → List ℕ
helpers c = input_variables c ++ gate_variables c

-- Latch i is variable i; helper i is variable 2n+i.
unfoldable pub number : Circuit → ℕ → ℕ
number c u =
    cond (among u (latch_variables c)) (suc (position u (latch_variables c))) (n_of c + n_of c + suc (position u (helpers c)))

-- what stands for a literal of the circuit: a constant, or a literal of the problem
pub data Edge : Type 0 where
  constant : Bool → Edge
  named : Literal → Edge

unfoldable pub literal_if : Bool → ℕ → Literal
literal_if true v = neg v
literal_if false v = pos v

unfoldable pub edge : Circuit → ℕ → Edge
edge c l = cond (eqb (var l) 0) (constant (negated l)) (named (literal_if (negated l) (number c (var l))))

unfoldable pub opposite : Edge → Edge
opposite (constant b) = constant (not b)
opposite (named l) = named (negation l)

-- A constant false leaves its clause, a constant true drops it: the clause of some edges, or none.
unfoldable pub clause_if : List Edge → List Clause
clause_if [] = [] ∷ []
clause_if (constant true ∷ es) = []
clause_if (constant false ∷ es) = clause_if es
clause_if (named l ∷ es) = map (λ (c : Clause). l ∷ c) (clause_if es)

-- for a gate g = a and b: (a -g)(b -g)(g -a -b)
unfoldable pub and_clauses : Edge → Edge → Edge → List Clause
and_clauses g a b =
    clause_if (a ∷ opposite g ∷ []) ++ (clause_if (b ∷ opposite g ∷ []) ++ clause_if (g ∷ opposite a ∷ opposite b ∷ []))

unfoldable pub gates_clauses : Circuit → List Gate → List Clause
gates_clauses c [] = []
gates_clauses c (g ∷ gs) = and_clauses (edge c g.lit) (edge c g.left) (edge c g.right) ++ gates_clauses c gs

-- for latch i with next literal x: (-(n+i) x)(n+i -x)
unfoldable pub next_clauses : ℕ → Edge → List Clause
next_clauses y x = clause_if (named (neg y) ∷ x ∷ []) ++ clause_if (named (pos y) ∷ opposite x ∷ [])

unfoldable pub latches_clauses : Circuit → ℕ → List Latch → List Clause
latches_clauses c i [] = []
latches_clauses c i (q ∷ qs) = next_clauses (n_of c + i) (edge c q.next) ++ latches_clauses c (suc i) qs

-- (-i) for a latch that starts at 0, (i) for one that starts at 1, none for one that starts at either
unfoldable pub start_clause : ℕ → Start → List Clause
start_clause i at_0 = (neg i ∷ []) ∷ []
start_clause i at_1 = (pos i ∷ []) ∷ []
start_clause i at_either = []

unfoldable pub start_clauses : ℕ → List Latch → List Clause
start_clauses i [] = []
start_clauses i (q ∷ qs) = start_clause i q.start ++ start_clauses (suc i) qs

-- (l) for each of some literals: the constraints, and before them the bad literal
unfoldable pub one_clauses : Circuit → List ℕ → List Clause
one_clauses c [] = []
one_clauses c (l ∷ ls) = clause_if (edge c l ∷ []) ++ one_clauses c ls

-- Init: where each latch starts. Tr: the gates, then the latches, then the constraints. Bad: the gates again, then the bad literal, then the
-- constraints.
unfoldable pub built : Circuit → List Clause → Problem
built c lemmas =
    record {
      n = n_of c;
      m = length (helpers c);
      init = start_clauses 1 c.latches;
      tr = gates_clauses c c.gates ++ (latches_clauses c 1 c.latches ++ one_clauses c c.constraints);
      bad = gates_clauses c c.gates ++ one_clauses c (bad_literal c ∷ c.constraints);
      lemmas = lemmas;
    }

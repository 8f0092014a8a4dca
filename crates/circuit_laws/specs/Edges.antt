-- What clauses of edges say of any values: one holds where some edge is true, the three of a gate where the gate is the conjunction of its
-- literals, the two of a latch where its next value is that of its next literal.
use Rattle.std.specs.Prelude.{ℕ, ◌≡◌, refl, ◌↔◌, Bool, true, false, not, ◌&&◌, ◌||◌, List, [], ◌∷◌, ◌++◌, map}
use Rattle.std.proofs.Common.{sym, ap, ◌∙◌}
use Rattle.std.specs.Bool.{beq}
use Rattle.meaning.specs.Clauses.{Literal, pos, neg, Clause, Values, is_true, any, all, holds, all_hold}
use Rattle.meaning.specs.Built.{Edge, constant, named, opposite, clause_if, and_clauses, next_clauses}
use Rattle.laws.specs.Basics.{all_append}
use Rattle.laws.specs.Setting.{is_true_negation}

unfoldable pub edge_true : Values → Edge → Bool
edge_true w (constant b) = b
edge_true w (named l) = is_true w l

pub opposite_is : (w : Values) (e : Edge) → edge_true w (opposite e) ≡ not (edge_true w e)
unfolding edge_true opposite
opposite_is w (constant b) = refl
opposite_is w (named l) = is_true_negation w l

-- one literal more in front of every clause
with_literal : (w : Values) (l : Literal) (cs : List Clause)
    → all_hold w (map (λ (c : Clause). l ∷ c) cs) ≡ (is_true w l || all_hold w cs)
unfolding all_hold all holds any
with_literal w l cs = go (is_true w l) refl cs
  where
    go : (b : Bool) → is_true w l ≡ b → (cs : List Clause)
        → all_hold w (map (λ (c : Clause). l ∷ c) cs) ≡ (b || all_hold w cs)
    go true e [] = refl
    go false e [] = refl
    go true e (c ∷ cs) = cc (go true e cs)
    go false e (c ∷ cs) = cc (go false e cs)

-- A constant false leaves its clause, a constant true drops it.
pub clause_if_holds : (w : Values) (es : List Edge) → all_hold w (clause_if es) ≡ any (edge_true w) es
unfolding all_hold all holds any clause_if edge_true
clause_if_holds w [] = refl
clause_if_holds w (constant true ∷ es) = refl
clause_if_holds w (constant false ∷ es) = clause_if_holds w es
clause_if_holds w (named l ∷ es) = with_literal w l (clause_if es) ∙ ap (λ (b : Bool). is_true w l || b) (clause_if_holds w es)

-- ---- truth values

pub beq_is : (a b : Bool) → (beq a b ≡ true) ↔ (a ≡ b)
beq_is true true = (λ h. refl, λ h. refl)
beq_is true false = (λ h. sym h, λ h. sym h)
beq_is false true = (λ h. h, λ h. h)
beq_is false false = (λ h. refl, λ h. refl)

-- (a -g)(b -g)(g -a -b)
gate_law : (g a b : Bool)
    → ((a || (not g || false)) && ((b || (not g || false)) && (g || (not a || (not b || false))))) ≡ beq g (a && b)
gate_law true true true = refl
gate_law true true false = refl
gate_law true false true = refl
gate_law true false false = refl
gate_law false true true = refl
gate_law false true false = refl
gate_law false false true = refl
gate_law false false false = refl

-- (-y x)(y -x)
latch_law : (y x : Bool) → ((not y || (x || false)) && (y || (not x || false))) ≡ beq y x
latch_law true true = refl
latch_law true false = refl
latch_law false true = refl
latch_law false false = refl

-- ---- the clauses of a gate, and of a latch

pub and_clauses_hold : (w : Values) (g a b : Edge)
    → all_hold w (and_clauses g a b) ≡ beq (edge_true w g) (edge_true w a && edge_true w b)
unfolding and_clauses all_hold any
and_clauses_hold w g a b =
    let first = a ∷ opposite g ∷ [] in
    let second = b ∷ opposite g ∷ [] in
    let third = g ∷ opposite a ∷ opposite b ∷ [] in
    cc (
      all_append (holds w) (clause_if first) (clause_if second ++ clause_if third),
      all_append (holds w) (clause_if second) (clause_if third),
      clause_if_holds w first,
      clause_if_holds w second,
      clause_if_holds w third,
      opposite_is w g,
      opposite_is w a,
      opposite_is w b,
      gate_law (edge_true w g) (edge_true w a) (edge_true w b),
    )

pub next_clauses_hold : (w : Values) (y : ℕ) (x : Edge) → all_hold w (next_clauses y x) ≡ beq (w y) (edge_true w x)
unfolding next_clauses all_hold any edge_true is_true
next_clauses_hold w y x =
    let first = named (neg y) ∷ x ∷ [] in
    let second = named (pos y) ∷ opposite x ∷ [] in
    cc (
      all_append (holds w) (clause_if first) (clause_if second),
      clause_if_holds w first,
      clause_if_holds w second,
      opposite_is w x,
      latch_law (w y) (edge_true w x),
    )

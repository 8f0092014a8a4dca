-- How many clauses come of a line: those of its edges, less those that a constant true drops.
use Rattle.std.specs.Prelude.{ℕ, zero, suc, ◌+◌, ◌/◌, ◌≤◌, ◌≡◌, Bool, true, false, ◌||◌, Option, is_none}
use native.Mathlib.Omega.{arith}
use Rattle.std.proofs.Math.Path.{refl}
use Rattle.std.proofs.Common.{sym, ◌∙◌, ne_eqb}
use mathlib.Core.List.{List, [], ◌∷◌, ◌++◌}
use Rattle.std.proofs.Math.ListN.{length, get_or, length-append}
use Rattle.std.proofs.lemmas.List.{length-map}
use Rattle.std.proofs.Math.Dec.{eqb}
use Rattle.meaning.specs.Clauses.{Clause, pos, neg, any}
use Rattle.meaning.specs.Circuit.{Circuit, Start, at_0, at_1, at_either, var, negated}
use Rattle.meaning.specs.Built.{Edge, constant, named, edge, opposite, clause_if, and_clauses, next_clauses, start_clause}
use Rattle.meaning.specs.CircuitText.{start_of}
use Rattle.lines.specs.Numbers.{capped}
use Rattle.clause_count.specs.declared.count.Kind.{Kind}
use Rattle.clause_count.specs.declared.count.Kind.TheVariants as kind
use Rattle.clause_count.specs.Start.{start_code, start_in, capped_is}

-- it is constantly true
unfoldable pub is_true : Edge → Bool
is_true (constant b) = b
is_true (named l) = false

-- one, unless it is dropped
unfoldable pub unless : Bool → ℕ
unless true = 0
unless false = 1

pub unless_most : (b : Bool) → unless b ≤ 1
unfolding unless
unless_most true = omega arith
unless_most false = omega arith

-- ---- the clause of some edges: one, unless an edge is constantly true

pub clause_length : (es : List Edge) → length (clause_if es) ≡ unless (any is_true es)
unfolding clause_if is_true any unless
clause_length [] = refl
clause_length (constant true ∷ es) = refl
clause_length (constant false ∷ es) = clause_length es
clause_length (named l ∷ es) = length-map (clause_if es) (λ (c : Clause). l ∷ c) ∙ clause_length es

-- literal 1 is constantly true, and so is the negation of literal 0
pub true_is : (c : Circuit) (l : ℕ) → is_true (edge c l) ≡ eqb l 1
unfolding is_true edge var negated
true_is c zero = refl
true_is c (suc zero) = refl
true_is c (suc (suc l)) =
    rw (ne_eqb (suc (suc l) / 2) 0 (λ e. omega (arith, e))) (sym (ne_eqb (suc (suc l)) 1 (λ e. omega (arith, e))))

pub false_is : (c : Circuit) (l : ℕ) → is_true (opposite (edge c l)) ≡ eqb l 0
unfolding is_true edge opposite var negated
false_is c zero = refl
false_is c (suc zero) = refl
false_is c (suc (suc l)) =
    rw (ne_eqb (suc (suc l) / 2) 0 (λ e. omega (arith, e))) (sym (ne_eqb (suc (suc l)) 0 (λ e. omega (arith, e))))

-- the same of literals that are constantly true or not
unfoldable pub unless_any : List Bool → ℕ
unless_any bs = unless (any (λ (b : Bool). b) bs)

-- ---- the clauses of a line with these numbers

-- of a literal that is to be 1
unfoldable pub clauses_of_one : List ℕ → ℕ
clauses_of_one ns = unless_any (eqb (get_or ns 0 0) 1 ∷ [])

-- of a start as the code holds it
unfoldable pub clauses_of_start : Option Bool → ℕ
clauses_of_start start = unless_any (is_none start ∷ [])

-- of a latch: its start, and its next value
unfoldable pub clauses_of_latch : List ℕ → ℕ
clauses_of_latch ns =
    clauses_of_start (start_in ns) + unless_any (eqb (get_or ns 1 0) 1 ∷ []) + unless_any (eqb (get_or ns 1 0) 0 ∷ [])

-- of a gate
unfoldable pub clauses_of_gate : List ℕ → ℕ
clauses_of_gate ns =
    unless_any (eqb (get_or ns 1 0) 1 ∷ eqb (get_or ns 0 0) 0 ∷ []) + unless_any (eqb (get_or ns 2 0) 1 ∷ eqb (get_or ns 0 0) 0 ∷ [])
    + unless_any (eqb (get_or ns 0 0) 1 ∷ eqb (get_or ns 1 0) 0 ∷ eqb (get_or ns 2 0) 0 ∷ [])

-- how many numbers a line of a kind has at least
abbrev pub width_of : Kind → ℕ
width_of kind.One = 1
width_of kind.Latch = 2
width_of kind.Gate = 3

-- by what stands on it
abbrev pub clauses_of : Kind → List ℕ → ℕ
clauses_of kind.One ns = clauses_of_one ns
clauses_of kind.Latch ns = clauses_of_latch ns
clauses_of kind.Gate ns = clauses_of_gate ns

module _ (c : Circuit) where
  pub one_length : (ns : List ℕ) → length (clause_if (edge c (get_or ns 0 0) ∷ [])) ≡ clauses_of_one ns
  unfolding clauses_of_one unless_any any
  one_length ns = clause_length (edge c (get_or ns 0 0) ∷ []) ∙ rw (true_is c (get_or ns 0 0))

  start_length : (i : ℕ) (s : Start) → length (start_clause i s) ≡ clauses_of_start (start_code s)
  unfolding start_clause clauses_of_start start_code unless_any any unless
  start_length i at_0 = refl
  start_length i at_1 = refl
  start_length i at_either = refl

  next_length : (y x : ℕ)
      → length (next_clauses y (edge c x)) ≡ unless_any (eqb x 1 ∷ []) + unless_any (eqb x 0 ∷ [])
  unfolding next_clauses unless_any any is_true
  next_length y x =
      let first = clause_length (named (neg y) ∷ edge c x ∷ []) in
      let second = clause_length (named (pos y) ∷ opposite (edge c x) ∷ []) in
      length-append (clause_if (named (neg y) ∷ edge c x ∷ [])) (clause_if (named (pos y) ∷ opposite (edge c x) ∷ []))
      ∙ rw (first, second, true_is c x, false_is c x)

  pub latch_length : (i y : ℕ) (ns : List ℕ)
      → length (start_clause i (start_of (get_or ns 2 0))) + length (next_clauses y (edge c (get_or ns 1 0))) ≡ clauses_of_latch ns
  unfolding clauses_of_latch start_in
  latch_length i y ns = omega (arith, start_length i (start_of (get_or ns 2 0)), next_length y (get_or ns 1 0))

  pub gate_length : (ns : List ℕ)
      → length (and_clauses (edge c (get_or ns 0 0)) (edge c (get_or ns 1 0)) (edge c (get_or ns 2 0))) ≡ clauses_of_gate ns
  unfolding clauses_of_gate and_clauses unless_any any
  gate_length ns =
      let g = get_or ns 0 0 in
      let a = get_or ns 1 0 in
      let b = get_or ns 2 0 in
      let first = edge c a ∷ opposite (edge c g) ∷ [] in
      let second = edge c b ∷ opposite (edge c g) ∷ [] in
      let third = edge c g ∷ opposite (edge c a) ∷ opposite (edge c b) ∷ [] in
      let is_first : length (clause_if first) ≡ unless (eqb a 1 || (eqb g 0 || false)) =
      clause_length first ∙ rw (true_is c a, false_is c g) in
      let is_second : length (clause_if second) ≡ unless (eqb b 1 || (eqb g 0 || false)) =
      clause_length second ∙ rw (true_is c b, false_is c g) in
      let is_third : length (clause_if third) ≡ unless (eqb g 1 || (eqb a 0 || (eqb b 0 || false))) =
      clause_length third ∙ rw (true_is c g, false_is c a, false_is c b) in
      omega (
        arith,
        length-append (clause_if first) (clause_if second ++ clause_if third),
        length-append (clause_if second) (clause_if third),
        is_first,
        is_second,
        is_third,
      )

-- ---- the same by values below the bound

pub one_counted : (ns : List ℕ) (l : ℕ) → l ≡ capped (get_or ns 0 0) → unless_any (eqb l 1 ∷ []) ≡ clauses_of_one ns
unfolding clauses_of_one
one_counted ns l is = rw (is, capped_is (get_or ns 0 0) 1 (omega arith))

pub latch_counted : (ns : List ℕ) (s : Option Bool) (x : ℕ) → s ≡ start_in ns → x ≡ capped (get_or ns 1 0)
    → unless_any (is_none s ∷ []) + unless_any (eqb x 1 ∷ []) + unless_any (eqb x 0 ∷ []) ≡ clauses_of_latch ns
unfolding clauses_of_latch clauses_of_start
latch_counted ns s x start is = rw (start, is, capped_is (get_or ns 1 0) 1 (omega arith), capped_is (get_or ns 1 0) 0 (omega arith))

pub gate_counted : (ns : List ℕ) (g a b : ℕ) → g ≡ capped (get_or ns 0 0) → a ≡ capped (get_or ns 1 0) → b ≡ capped (get_or ns 2 0)
    → unless_any (eqb a 1 ∷ eqb g 0 ∷ []) + unless_any (eqb b 1 ∷ eqb g 0 ∷ []) + unless_any (eqb g 1 ∷ eqb a 0 ∷ eqb b 0 ∷ [])
    ≡ clauses_of_gate ns
unfolding clauses_of_gate
gate_counted ns g a b g_is a_is b_is =
    rw (
      g_is,
      a_is,
      b_is,
      capped_is (get_or ns 0 0) 0 (omega arith),
      capped_is (get_or ns 0 0) 1 (omega arith),
      capped_is (get_or ns 1 0) 0 (omega arith),
      capped_is (get_or ns 1 0) 1 (omega arith),
      capped_is (get_or ns 2 0) 0 (omega arith),
      capped_is (get_or ns 2 0) 1 (omega arith),
    )

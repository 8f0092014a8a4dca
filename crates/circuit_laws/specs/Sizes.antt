-- How many literals a built problem's lists of clauses have: one for each clause, and so many beyond that.
use Rattle.std.specs.Prelude.{ℕ, suc, ◌+◌, ◌*◌, ◌≤◌, ◌≡◌, refl, true, false, List, [], ◌∷◌, ◌++◌, map, length}
use Rattle.std.proofs.Common.{arith, le_trans, length-append}
use Rattle.std.proofs.lemmas.List.{length-map}
use Rattle.meaning.specs.Clauses.{Literal, pos, neg, Clause}
use Rattle.meaning.specs.Circuit.{Circuit, Latch, Gate, Start, at_0, at_1, at_either}
use Rattle.meaning.specs.Built.{Edge, constant, named, n_of, edge, opposite, clause_if, and_clauses, gates_clauses, next_clauses, latches_clauses, start_clause, start_clauses, one_clauses}
use Rattle.filed.specs.Fits.{Short}
use Rattle.filed.specs.Length.{literal_total}

-- at most one literal a clause and so many more, no clause of more than 64
pub record Sized (cs : List Clause) (excess : ℕ) : Type 0 where
  pub small : literal_total cs ≤ length cs + excess
  pub short : Short cs

total_append : (cs ds : List Clause) → literal_total (cs ++ ds) ≡ literal_total cs + literal_total ds
unfolding literal_total
total_append [] ds = omega arith
total_append (c ∷ cs) ds = omega (arith, total_append cs ds)

short_append : (cs ds : List Clause) → Short cs → Short ds → Short (cs ++ ds)
short_append [] ds g h = h
short_append (c ∷ cs) ds g h = (g.0, short_append cs ds g.1 h)

pub sized_append : (cs ds : List Clause) {a b : ℕ} (excess : ℕ) → a + b ≤ excess → Sized cs a → Sized ds b → Sized (cs ++ ds) excess
sized_append cs ds excess most g h =
    record {
      small = rw (total_append cs ds) (rw length-append (omega (arith, g.small, h.small)));
      short = short_append cs ds g.short h.short;
    }

-- few literals in all are few in each clause
total_short : (cs : List Clause) → literal_total cs ≤ 64 → Short cs
unfolding literal_total
total_short [] h = tt
total_short (c ∷ cs) h = (omega arith, total_short cs (omega arith))

total_with : (l : Literal) (cs : List Clause) → literal_total (map (λ (c : Clause). l ∷ c) cs) ≡ length cs + literal_total cs
unfolding literal_total
total_with l [] = refl
total_with l (c ∷ cs) = omega (arith, total_with l cs)

clause_if_few : (es : List Edge) → length (clause_if es) ≤ 1
unfolding clause_if
clause_if_few [] = omega arith
clause_if_few (constant true ∷ es) = omega arith
clause_if_few (constant false ∷ es) = clause_if_few es
clause_if_few (named l ∷ es) = rw length-map (clause_if_few es)

clause_if_small : (es : List Edge) → literal_total (clause_if es) ≤ length es
unfolding clause_if literal_total
clause_if_small [] = omega arith
clause_if_small (constant true ∷ es) = omega arith
clause_if_small (constant false ∷ es) = omega (arith, clause_if_small es)
clause_if_small (named l ∷ es) = rw (total_with l (clause_if es)) (omega (arith, clause_if_few es, clause_if_small es))

-- where there is a literal there is a clause
total_beyond : (cs : List Clause) (excess : ℕ) → literal_total cs ≤ suc excess → literal_total cs ≤ length cs + excess
unfolding literal_total
total_beyond [] excess h = omega arith
total_beyond (c ∷ cs) excess h = omega arith

-- a clause of some edges, if it stands, has one literal and as many more as there are other edges
pub clause_if_sized : (es : List Edge) (excess : ℕ) → length es ≤ suc excess → excess ≤ 63 → Sized (clause_if es) excess
clause_if_sized es excess h few =
    record {
      small = total_beyond (clause_if es) excess (le_trans (clause_if_small es) h);
      short = total_short (clause_if es) (omega (arith, clause_if_small es));
    }

none_sized : Sized [] 0
unfolding literal_total
none_sized = record { small = omega arith; short = tt }

and_sized : (g a b : Edge) → Sized (and_clauses g a b) 4
unfolding and_clauses
and_sized g a b =
    sized_append _ _ 4 (omega arith) (clause_if_sized (a ∷ opposite g ∷ []) 1 (omega arith) (omega arith))
    (sized_append _ _ 3 (omega arith) (clause_if_sized (b ∷ opposite g ∷ []) 1 (omega arith) (omega arith))
    (clause_if_sized (g ∷ opposite a ∷ opposite b ∷ []) 2 (omega arith) (omega arith)))

next_sized : (y : ℕ) (x : Edge) → Sized (next_clauses y x) 2
unfolding next_clauses
next_sized y x =
    sized_append _ _ 2 (omega arith) (clause_if_sized (named (neg y) ∷ x ∷ []) 1 (omega arith) (omega arith))
    (clause_if_sized (named (pos y) ∷ opposite x ∷ []) 1 (omega arith) (omega arith))

-- four a gate
pub gates_sized : (c : Circuit) (gs : List Gate) → Sized (gates_clauses c gs) (4 * length gs)
unfolding gates_clauses
gates_sized c [] = none_sized
gates_sized c (g ∷ gs) =
    sized_append _ (gates_clauses c gs) (4 * suc (length gs)) (omega arith)
    (and_sized (edge c g.lit) (edge c g.left) (edge c g.right)) (gates_sized c gs)

-- two a latch for its next value
pub latches_sized : (c : Circuit) (i : ℕ) (qs : List Latch) → Sized (latches_clauses c i qs) (2 * length qs)
unfolding latches_clauses
latches_sized c i [] = none_sized
latches_sized c i (q ∷ qs) =
    sized_append _ (latches_clauses c (suc i) qs) (2 * suc (length qs)) (omega arith)
    (next_sized (n_of c + i) (edge c q.next)) (latches_sized c (suc i) qs)

-- none for where a latch starts
start_sized : (i : ℕ) (from : Start) → Sized (start_clause i from) 0
unfolding start_clause literal_total
start_sized i at_0 = record { small = omega arith; short = (omega arith, tt) }
start_sized i at_1 = record { small = omega arith; short = (omega arith, tt) }
start_sized i at_either = none_sized

pub starts_sized : (i : ℕ) (qs : List Latch) → Sized (start_clauses i qs) 0
unfolding start_clauses
starts_sized i [] = none_sized
starts_sized i (q ∷ qs) =
    sized_append (start_clause i q.start) (start_clauses (suc i) qs) 0 (omega arith) (start_sized i q.start) (starts_sized (suc i) qs)

-- none for literals that are to be 1
pub ones_sized : (c : Circuit) (ls : List ℕ) → Sized (one_clauses c ls) 0
unfolding one_clauses
ones_sized c [] = none_sized
ones_sized c (l ∷ ls) =
    sized_append (clause_if (edge c l ∷ [])) (one_clauses c ls) 0 (omega arith)
    (clause_if_sized (edge c l ∷ []) 0 (omega arith) (omega arith)) (ones_sized c ls)

-- lemmas of 64 literals at most
pub short_sized : (cs : List Clause) → Short cs → Sized cs (63 * length cs)
unfolding literal_total
short_sized cs h = record { small = total_most cs h; short = h }
  where
    total_most : (ds : List Clause) → Short ds → literal_total ds ≤ length ds + 63 * length ds
    total_most [] g = omega arith
    total_most (d ∷ ds) g = omega (arith, g.0, total_most ds g.1)

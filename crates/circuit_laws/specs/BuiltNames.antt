-- Every clause of a built problem names the variables that its kind may name.
use Rattle.std.specs.Prelude.{ℕ, suc, ◌+◌, ◌≤◌, ◌≡◌, refl, true}
use native.Mathlib.Omega.{arith}
use Rattle.std.proofs.Common.{inl, inr}
use mathlib.Core.List.{List, [], ◌∷◌, ◌++◌}
use Rattle.std.proofs.Math.ListN.{length}
use Rattle.meaning.specs.Clauses.{pos, neg, Clause, variable}
use Rattle.meaning.specs.Demands.{In}
use Rattle.meaning.specs.Rules.{width}
use Rattle.meaning.specs.Circuit.{Circuit, Latch, Gate, Start, at_0, at_1, at_either, var, bad_literal}
use Rattle.meaning.specs.Built.{Edge, constant, named, n_of, helpers, edge, opposite, clause_if, and_clauses, gates_clauses, next_clauses, latches_clauses, start_clause, start_clauses, one_clauses, built}
use Rattle.meaning.specs.CircuitText.{known}
use Rattle.laws.specs.Within.{ClausesOf, UpTo, Within, Present, WellFormed}
use Rattle.laws.specs.Range.{of_append, present_within}
use Rattle.circuit_laws.specs.Sane.{Sane}
use Rattle.circuit_laws.specs.Known.{gate_known, left_known, right_known, bad_is_known, bad_or_constraint}
use Rattle.circuit_laws.specs.Numbers.{EdgeOf, edge_present, opposite_of, clause_if_of}

module _ (P : ℕ → Type 0) where
  and_of : (g a b : Edge) → EdgeOf P g → EdgeOf P a → EdgeOf P b → ClausesOf P (and_clauses g a b)
  unfolding and_clauses
  and_of g a b hg ha hb =
      let left = a ∷ opposite g ∷ [] in
      let right = b ∷ opposite g ∷ [] in
      let both = g ∷ opposite a ∷ opposite b ∷ [] in
      of_append P (clause_if left) (clause_if right ++ clause_if both) (clause_if_of P left (ha, (opposite_of P g hg, tt)))
      (of_append P (clause_if right) (clause_if both) (clause_if_of P right (hb, (opposite_of P g hg, tt)))
      (clause_if_of P both (hg, (opposite_of P a ha, (opposite_of P b hb, tt)))))

  next_of : (y : ℕ) (x : Edge) → P y → EdgeOf P x → ClausesOf P (next_clauses y x)
  unfolding next_clauses variable
  next_of y x hy hx =
      let up = named (neg y) ∷ x ∷ [] in
      let down = named (pos y) ∷ opposite x ∷ [] in
      of_append P (clause_if up) (clause_if down) (clause_if_of P up (hy, (hx, tt)))
      (clause_if_of P down (hy, (opposite_of P x hx, tt)))

-- an edge of the present moment is one of all variables
edge_within : (n m : ℕ) (e : Edge) → EdgeOf (Present n m) e → EdgeOf (UpTo (n + n + m)) e
edge_within n m (constant b) h = tt
edge_within n m (named l) h = (present_within n m ((l ∷ []) ∷ []) ((h, tt), tt)).0.0

-- the clauses of literals that are known
ones_present : (c : Circuit) (ls : List ℕ) → ((l : ℕ) → In l ls → known c (var l) ≡ true)
    → ClausesOf (Present (n_of c) (length (helpers c))) (one_clauses c ls)
unfolding one_clauses
ones_present c [] are_known = tt
ones_present c (l ∷ ls) are_known =
    let P = Present (n_of c) (length (helpers c)) in
    of_append P (clause_if (edge c l ∷ [])) (one_clauses c ls)
    (clause_if_of P (edge c l ∷ []) (edge_present c l (are_known l (inl refl)), tt))
    (ones_present c ls (λ k i. are_known k (inr i)))

module _ (c : Circuit) (s : Sane c) where
  gates_present : (gs : List Gate) → ((g : Gate) → In g gs → In g c.gates)
      → ClausesOf (Present (n_of c) (length (helpers c))) (gates_clauses c gs)
  unfolding gates_clauses
  gates_present [] part = tt
  gates_present (g ∷ gs) part =
      let g_in = part g (inl refl) in
      let of_it = and_clauses (edge c g.lit) (edge c g.left) (edge c g.right) in
      of_append (Present (n_of c) (length (helpers c))) of_it (gates_clauses c gs)
      (and_of (Present (n_of c) (length (helpers c))) (edge c g.lit) (edge c g.left) (edge c g.right)
      (edge_present c g.lit (gate_known c g g_in)) (edge_present c g.left (left_known c g (s.works g g_in)))
      (edge_present c g.right (right_known c g (s.works g g_in))))
      (gates_present gs (λ d h. part d (inr h)))

  latches_within : (i : ℕ) (qs : List Latch) → ((q : Latch) → In q qs → In q c.latches) → 1 ≤ i → i + length qs ≤ suc (n_of c)
      → Within (n_of c + n_of c + length (helpers c)) (latches_clauses c i qs)
  unfolding latches_clauses
  latches_within i [] part least most = tt
  latches_within i (q ∷ qs) part least most =
      let all = n_of c + n_of c + length (helpers c) in
      of_append (UpTo all) (next_clauses (n_of c + i) (edge c q.next)) (latches_clauses c (suc i) qs)
      (next_of (UpTo all) (n_of c + i) (edge c q.next) (omega arith, omega arith)
      (edge_within (n_of c) (length (helpers c)) (edge c q.next)
      (edge_present c q.next (s.next_known q (part q (inl refl))))))
      (latches_within (suc i) qs (λ d h. part d (inr h)) (omega arith) (omega arith))

start_within : (n i : ℕ) (s : Start) → UpTo n i → Within n (start_clause i s)
unfolding start_clause variable
start_within n i at_0 h = ((h, tt), tt)
start_within n i at_1 h = ((h, tt), tt)
start_within n i at_either h = tt

starts_within : (n i : ℕ) (qs : List Latch) → 1 ≤ i → i + length qs ≤ suc n → Within n (start_clauses i qs)
unfolding start_clauses
starts_within n i [] least most = tt
starts_within n i (q ∷ qs) least most =
    of_append (UpTo n) (start_clause i q.start) (start_clauses (suc i) qs) (start_within n i q.start (least, omega arith))
    (starts_within n (suc i) qs (omega arith) (omega arith))

pub built_well_formed : (c : Circuit) (lemmas : List Clause) → Sane c → length c.outputs + length c.bads ≡ 1
    → Within (length c.latches) lemmas → WellFormed (built c lemmas)
unfolding built n_of width
built_well_formed c lemmas s one within =
    let n = length c.latches in
    let m = length (helpers c) in
    let gates = gates_present c s c.gates (λ g h. h) in
    let constraints = ones_present c c.constraints s.constraint_known in
    record {
      init = starts_within n 1 c.latches (omega arith) (omega arith);
      tr =
          of_append (UpTo (n + n + m)) (gates_clauses c c.gates) (latches_clauses c 1 c.latches ++ one_clauses c c.constraints)
          (present_within n m (gates_clauses c c.gates) gates)
          (of_append (UpTo (n + n + m)) (latches_clauses c 1 c.latches) (one_clauses c c.constraints)
          (latches_within c s 1 c.latches (λ q h. h) (omega arith) (omega arith))
          (present_within n m (one_clauses c c.constraints) constraints));
      bad =
          of_append (Present n m) (gates_clauses c c.gates) (one_clauses c (bad_literal c ∷ c.constraints)) gates
          (ones_present c (bad_literal c ∷ c.constraints) (bad_or_constraint c s (bad_is_known c s one)));
      lemmas = within;
    }

-- Which variables are worked out, round by round: more rounds work out no less, as many rounds as there are gates are enough, and what
-- holds of the given variables and passes from a gate's literals to the gate holds of all that is worked out.
use Prim.Native.Nat.{ℕ, zero, suc, ◌+◌, ◌-◌, ◌≤◌, ◌<◌}
use native.Mathlib.Omega.{arith}
use Rattle.std.specs.Prelude.{◌≡◌, ◌⊎◌, Bool, ◌&&◌, eqb}
use Rattle.std.proofs.Math.Path.{refl, ap}
use Rattle.std.proofs.Common.{sym, subst, ◌∙◌, inr, eqb-true, eq-eqb}
use Rattle.std.proofs.Math.Logic.{inl}
use Rattle.std.proofs.Math.Bool.{true, false}
use mathlib.Core.List.{List, [], ◌∷◌, map}
use Rattle.std.proofs.Math.ListN.{length}
use Rattle.meaning.specs.Clauses.{any}
use Rattle.meaning.specs.Demands.{In}
use Rattle.meaning.specs.Rules.{size}
use Rattle.meaning.specs.Circuit.{Circuit, Gate, var}
use Rattle.meaning.specs.CircuitText.{given, worked_out}
use Rattle.laws.specs.Basics.{not_both, and_left, and_right, and_both, or_cases, or_left, or_right, any_of, any_at}

-- ---- one round

-- what is given is worked out in any number of rounds
pub given_out : (r : ℕ) (c : Circuit) (u : ℕ) → given c u ≡ true → worked_out r c u ≡ true
unfolding worked_out
given_out zero c u h = h
given_out (suc r) c u h = or_left (given c u) _ h

-- a gate is, one round after its two literals
pub gate_out : (r : ℕ) (c : Circuit) (g : Gate) → In g c.gates → worked_out r c (var g.left) ≡ true
    → worked_out r c (var g.right) ≡ true → worked_out (suc r) c (var g.lit) ≡ true
unfolding worked_out
gate_out r c g i a b =
    or_right (given c (var g.lit)) _
    (any_of
    (λ (h : Gate). eqb (var g.lit) (var h.lit) && (worked_out r c (var h.left) && worked_out r c (var h.right)))
    g c.gates i
    (and_both (eqb (var g.lit) (var g.lit)) _ (eq-eqb (var g.lit) (var g.lit) refl) (and_both (worked_out r c (var g.left)) _ a b)))

-- a gate of this variable whose two literals are worked out
abbrev pub GateOf : ℕ → Circuit → ℕ → Type 0
GateOf r c u =
    (g : Gate) × In g c.gates × (u ≡ var g.lit) × (worked_out r c (var g.left) ≡ true) × (worked_out r c (var g.right) ≡ true)

-- and nothing else is
pub out_cases : (r : ℕ) (c : Circuit) (u : ℕ) → worked_out (suc r) c u ≡ true → (given c u ≡ true) ⊎ GateOf r c u
unfolding worked_out
out_cases r c u h = go (or_cases (given c u) (any test c.gates) h)
  where
    both : Gate → Bool
    both g = worked_out r c (var g.left) && worked_out r c (var g.right)

    test : Gate → Bool
    test g = eqb u (var g.lit) && both g

    go : (given c u ≡ true) ⊎ (any test c.gates ≡ true) → (given c u ≡ true) ⊎ GateOf r c u
    go (inl e) = inl e
    go (inr e) =
        let (g, i, passes) = any_at test c.gates e in
        let two = and_right (eqb u (var g.lit)) (both g) passes in
        inr (
          g,
          i,
          eqb-true u (var g.lit) (and_left (eqb u (var g.lit)) (both g) passes),
          and_left (worked_out r c (var g.left)) _ two,
          and_right (worked_out r c (var g.left)) _ two,
        )

-- ---- what is worked out

-- a test that passes from a gate's two literals to the gate
abbrev pub Closed : Circuit → (ℕ → Bool) → Type 0
Closed c K =
    (g : Gate) → In g c.gates → K (var g.left) ≡ true → K (var g.right) ≡ true → K (var g.lit) ≡ true

-- A test that all given variables pass, and that passes from a gate's literals to the gate, is passed by all that is worked out.
pub closed_contains : (c : Circuit) (K : ℕ → Bool) → ((u : ℕ) → given c u ≡ true → K u ≡ true) → Closed c K
    → (r u : ℕ) → worked_out r c u ≡ true → K u ≡ true
unfolding worked_out
closed_contains c K start on zero u h = start u h
closed_contains c K start on (suc r) u h = go (out_cases r c u h) (closed_contains c K start on r)
  where
    go : (given c u ≡ true) ⊎ GateOf r c u → ((a : ℕ) → worked_out r c a ≡ true → K a ≡ true) → K u ≡ true
    go (inl e) before = start u e
    go (inr (g, i, e, a, b)) before = ap K e ∙ on g i (before (var g.left) a) (before (var g.right) b)

pub rounds_more : (r : ℕ) (c : Circuit) (u : ℕ) → worked_out r c u ≡ true → worked_out (suc r) c u ≡ true
unfolding worked_out
rounds_more zero c u h = given_out 1 c u h
rounds_more (suc r) c u h = go (out_cases r c u h) (rounds_more r c)
  where
    go : (given c u ≡ true) ⊎ GateOf r c u → ((a : ℕ) → worked_out r c a ≡ true → worked_out (suc r) c a ≡ true)
        → worked_out (suc (suc r)) c u ≡ true
    go (inl e) before = given_out (suc (suc r)) c u e
    go (inr (g, i, e, a, b)) before =
        ap (worked_out (suc (suc r)) c) e
        ∙ gate_out (suc r) c g i (before (var g.left) a) (before (var g.right) b)

pub rounds_add : (more r : ℕ) (c : Circuit) (u : ℕ) → worked_out r c u ≡ true → worked_out (more + r) c u ≡ true
rounds_add zero r c u h = let same : 0 + r ≡ r = omega arith in rw same h
rounds_add (suc more) r c u h =
    let same : suc more + r ≡ suc (more + r) = omega arith in
    rw same (rounds_more (more + r) c u (rounds_add more r c u h))

pub rounds_up : (r r' : ℕ) → r ≤ r' → (c : Circuit) (u : ℕ) → worked_out r c u ≡ true → worked_out r' c u ≡ true
rounds_up r r' le c u h =
    let same : r' - r + r ≡ r' = omega arith in
    subst (λ (n : ℕ). worked_out n c u ≡ true) same (rounds_add (r' - r) r c u h)

-- ---- as many rounds as there are gates

module _ {A : Type 0} where
  -- how many pass a test; where all that pass one test pass another
  passing_most : (test : A → Bool) (as' : List A) → size (map test as') ≤ length as'
  unfolding size
  passing_most test [] = omega arith
  passing_most test (a ∷ as') = go (test a) (passing_most test as')
    where
      go : (b : Bool) → size (map test as') ≤ length as' → size (b ∷ map test as') ≤ suc (length as')
      go true h = omega arith
      go false h = omega arith

  -- where as many pass as there are, each passes
  all_pass : (test : A → Bool) (as' : List A) → length as' ≤ size (map test as') → (a : A) → In a as' → test a ≡ true
  unfolding size
  all_pass test [] full a i = elim i [ ]
  all_pass test (x ∷ as') full a i = go (test x) refl full i (all_pass test as')
    where
      go : (b : Bool) → test x ≡ b → suc (length as') ≤ size (b ∷ map test as') → In a (x ∷ as')
          → (length as' ≤ size (map test as') → (a : A) → In a as' → test a ≡ true) → test a ≡ true
      go true t h (inl e) rest = ap test e ∙ t
      go true t h (inr j) rest = rest (omega arith) a j
      go false t h j rest = absurd (omega (arith, passing_most test as'))

  module _ (few most : A → Bool) (wider : (a : A) → few a ≡ true → most a ≡ true) where
    no_fewer : (as' : List A) → size (map few as') ≤ size (map most as')
    unfolding size
    no_fewer [] = omega arith
    no_fewer (a ∷ as') = go (few a) (most a) (wider a) (no_fewer as')
      where
        go : (f m : Bool) → (f ≡ true → m ≡ true) → size (map few as') ≤ size (map most as')
            → size (f ∷ map few as') ≤ size (m ∷ map most as')
        go true true w h = omega arith
        go true false w h = absurd (not_both (w refl) refl)
        go false true w h = omega arith
        go false false w h = h

    -- they pass the same, or one more passes the wider test
    same_or_more : (as' : List A) → ((a : A) → In a as' → most a ≡ true → few a ≡ true) ⊎ (size (map few as') < size (map most as'))
    unfolding size
    same_or_more [] = inl (λ a i. absurd i)
    same_or_more (x ∷ as') = go (few x) (most x) refl refl (same_or_more as')
      where
        Alike : List A → Type 0
        Alike l = (a : A) → In a l → most a ≡ true → few a ≡ true

        also : (most x ≡ true → few x ≡ true) → Alike as' → Alike (x ∷ as')
        also first rest a (inl e) h = ap few e ∙ first (sym (ap most e) ∙ h)
        also first rest a (inr i) h = rest a i h

        go : (f m : Bool) → few x ≡ f → most x ≡ m → Alike as' ⊎ (size (map few as') < size (map most as'))
            → Alike (x ∷ as') ⊎ (size (f ∷ map few as') < size (m ∷ map most as'))
        go true true p q (inl rest) = inl (also (λ h. p) rest)
        go true true p q (inr less) = inr (omega arith)
        go true false p q on = absurd (not_both (wider x p) q)
        go false true p q on = inr (omega (arith, no_fewer as'))
        go false false p q (inl rest) = inl (also (λ h. absurd (not_both h q)) rest)
        go false false p q (inr less) = inr less

-- whether a gate is worked out
gate_at : ℕ → Circuit → Gate → Bool
gate_at r c g = worked_out r c (var g.lit)

-- so many rounds are enough for anything
abbrev Enough : ℕ → Circuit → Type 0
Enough r c = (r' u : ℕ) → worked_out r' c u ≡ true → worked_out r c u ≡ true

-- they are, where one more works out no more gates
enough_of : (r : ℕ) (c : Circuit) → ((g : Gate) → In g c.gates → gate_at (suc r) c g ≡ true → gate_at r c g ≡ true) → Enough r c
unfolding gate_at
enough_of r c stays r' u h =
    closed_contains c (worked_out r c) (given_out r c) (λ g i a b. stays g i (gate_out r c g i a b)) r' u h

-- after r rounds that is so, or r gates are worked out
enough_or : (r : ℕ) (c : Circuit) → Enough r c ⊎ (r ≤ size (map (gate_at r c) c.gates))
enough_or zero c = inr (omega arith)
enough_or (suc r) c =
    go (enough_or r c)
    (same_or_more (gate_at r c) (gate_at (suc r) c) (λ g h. unfold gate_at in rounds_more r c (var g.lit) h) c.gates)
  where
    further : Enough r c → Enough (suc r) c
    further e r' u h = rounds_more r c u (e r' u h)

    go : Enough r c ⊎ (r ≤ size (map (gate_at r c) c.gates))
        → ((g : Gate) → In g c.gates → gate_at (suc r) c g ≡ true → gate_at r c g ≡ true)
        ⊎ (size (map (gate_at r c) c.gates) < size (map (gate_at (suc r) c) c.gates))
        → Enough (suc r) c ⊎ (suc r ≤ size (map (gate_at (suc r) c) c.gates))
    go (inl e) on = inl (further e)
    go (inr h) (inl stays) = inl (further (enough_of r c stays))
    go (inr h) (inr more) = inr (omega arith)

pub rounds_enough : (c : Circuit) (r u : ℕ) → worked_out r c u ≡ true → worked_out (length c.gates) c u ≡ true
rounds_enough c r u h = go (enough_or most c) r u h
  where
    most : ℕ
    most = length c.gates

    go : Enough most c ⊎ (most ≤ size (map (gate_at most c) c.gates)) → Enough most c
    go (inl e) = e
    go (inr full) = enough_of most c (λ g i later. all_pass (gate_at most c) c.gates full g i)

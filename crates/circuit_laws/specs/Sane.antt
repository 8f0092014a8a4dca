-- What every circuit that is read keeps: each variable is defined once and is not 0, gates are defined by literals that are not negated, what
-- lines use is known, and every gate can be worked out.
use Rattle.std.specs.Prelude.{ℕ, ◌≡◌, true, false, List, [], ◌∷◌}
use Rattle.meaning.specs.Demands.{In}
use Rattle.meaning.specs.Circuit.{Circuit, Latch, Gate, var, negated, variables}
use Rattle.meaning.specs.CircuitText.{known, gate_works}

-- no number stands in two places
abbrev pub Once : List ℕ → Type 0
Once [] = Unit {0}
Once (u ∷ us) = (In u us → ⊥) × Once us

pub record Sane (c : Circuit) : Type 0 where
  pub once : Once (variables c)
  pub nonzero : (u : ℕ) → In u (variables c) → u ≡ 0 → ⊥
  pub even : (g : Gate) → In g c.gates → negated g.lit ≡ false
  pub next_known : (q : Latch) → In q c.latches → known c (var q.next) ≡ true
  pub output_known : (l : ℕ) → In l c.outputs → known c (var l) ≡ true
  pub bad_known : (l : ℕ) → In l c.bads → known c (var l) ≡ true
  pub constraint_known : (l : ℕ) → In l c.constraints → known c (var l) ≡ true
  pub works : (g : Gate) → In g c.gates → gate_works c g ≡ true

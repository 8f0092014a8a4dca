-- A pass over clauses one after another.
use mathlib.Core.Path.{◌≡◌, refl}
use mathlib.Core.List.{List, [], ◌∷◌, ◌++◌}
use Rattle.meaning.specs.Clauses.{Clause}
use Rattle.passes.specs.Sweep.{Pass, closed, meet, sweep}

pub sweep_append : (cs ds : List Clause) (p : Pass) → sweep (cs ++ ds) p ≡ sweep ds (sweep cs p)
unfolding sweep
sweep_append [] ds p = refl
sweep_append (c ∷ cs) ds p = sweep_append cs ds (meet c p)

pub sweep_closed : (cs : List Clause) → sweep cs closed ≡ closed
unfolding sweep meet
sweep_closed [] = refl
sweep_closed (c ∷ cs) = sweep_closed cs

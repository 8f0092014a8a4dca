-- `clause_count::count::latch_clauses` meets its contract. Assumes nothing.
use native.Mathlib.Omega.{arith}
use mathlib.Core.Path.{◌≡◌, ap, ◌∙◌}
use mathlib.Core.Bool.{Bool, not}
use mathlib.Core.List.{[], ◌∷◌}
use Rattle.std.specs.Prelude.{Option, is_some, is_none}
use Rattle.clause_count.specs.Lengths.{unless_any, latch_counted}
use Rattle.clause_count.proofs.count.latch_clauses.Goals as goal

none_is : (s : Option Bool) (b : Bool) → is_some s ≡ not b → b ≡ is_none s
none_is s b h = grind arith

pub returns : goal.returns
returns c =
    let free = none_is c.start_at-start.result _ c.is_none.ensures in
    let first = c.unless.ensures.0 ∙ ap (λ (b : Bool). unless_any (b ∷ [])) free in
    (omega (arith, first, latch_counted _ _ _ c.start_at-start.ensures c.value_at-x.ensures), omega arith)

-- A pass over clauses, as the engine makes it: each clause is met once, and a forced literal is set at once.
use Rattle.std.specs.Prelude.{Bool, true, false, List, [], ◌∷◌}
use Rattle.std.proofs.Math.Option.{Option, none, some}
use Rattle.meaning.specs.Clauses.{Literal, Clause}
use Rattle.meaning.specs.Search.{Setting, value, with_literal}

-- what a clause comes to at a setting: a true literal; only false ones; or no true one and an unset literal at one place, or at more, with the
-- first of them
pub data Status : Type 0 where
  met failed : Status
  one more : Literal → Status

-- an unset literal after what was seen
unfoldable pub seen : Status → Literal → Status
seen met l = met
seen failed l = one l
seen (one k) l = more k
seen (more k) l = more k

unfoldable pub by_value : Option Bool → Literal → Status → (Status → Status) → Status
by_value (some true) l s on = met
by_value (some false) l s on = on s
by_value none l s on = on (seen s l)

-- the literals of a clause after what was seen, up to the first true one
unfoldable pub status_from : Setting → Status → Clause → Status
status_from v s [] = s
status_from v s (l ∷ c) = by_value (value v l) l s (λ t. status_from v t c)

unfoldable pub status : Setting → Clause → Status
status v c = status_from v failed c

-- what the clauses so far came to: every one has a true literal; a literal to try; literals that were forced, and are set
pub data Next : Type 0 where
  satisfied forced : Next
  try : Literal → Next

-- a pass so far; it is closed by a clause with only false literals
pub data Pass : Type 0 where
  closed : Pass
  passed : Setting → Next → Pass

-- a clause with several unset places; the first such clause names the literal to try
unfoldable pub opened : Next → Literal → Next
opened satisfied l = try l
opened forced l = forced
opened (try k) l = try k

unfoldable pub met_by : Status → Setting → Next → Pass
met_by met v n = passed v n
met_by failed v n = closed
met_by (one l) v n = passed (with_literal v l) forced
met_by (more l) v n = passed v (opened n l)

-- a clause of a status is met
unfoldable pub met_on : Status → Pass → Pass
met_on s closed = closed
met_on s (passed v n) = met_by s v n

-- the setting after a clause of a status
unfoldable pub set_by : Status → Setting → Setting
set_by met v = v
set_by failed v = v
set_by (one l) v = with_literal v l
set_by (more l) v = v

-- the next clause is met
unfoldable pub meet : Clause → Pass → Pass
meet c closed = closed
meet c (passed v n) = met_by (status v c) v n

-- a pass over clauses, one after another
unfoldable pub sweep : List Clause → Pass → Pass
sweep [] p = p
sweep (c ∷ cs) p = sweep cs (meet c p)

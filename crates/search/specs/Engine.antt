-- The search from a setting, and what a pass over its clauses that sets no literal more says of it.
use Rattle.std.specs.Prelude.{◌<◌, ◌≡◌, List, length}
use Rattle.meaning.specs.Clauses.{Literal, Clause, variable, negation}
use Rattle.meaning.specs.Search.{Setting, with_literal, Ending, can, cannot, then_false, search_from}
use Rattle.laws.specs.Setting.{unset_count}
use Rattle.search.specs.declared.clauses.Clauses.{Clauses}
use Rattle.search.specs.Places.{parts_clauses}
use Rattle.passes.specs.Sweep.{Pass, closed, passed, satisfied, forced, try}

-- the clauses that a search is about
abbrev pub clauses_of : Clauses → List Clause
clauses_of q = parts_clauses q.file.now q.on.now q.parts

-- the search from a setting, with fuel for all that it leaves unset
unfoldable pub search_at : List Clause → Setting → Ending
search_at cs v = search_from (unset_count v) cs v

-- rule (d) with the literal l: try it true, then, if that branch closes, false
unfoldable pub tried : List Clause → Setting → Literal → Ending
tried cs v l = then_false (search_at cs) v l (search_at cs (with_literal v l))

-- what the last pass says of the search from v
abbrev pub Ready : List Clause → Setting → Pass → Type 0
Ready cs v closed = search_at cs v ≡ cannot 0
Ready cs v (passed u satisfied) = search_at cs v ≡ can u 0
Ready cs v (passed u forced) = ⊥
Ready cs v (passed u (try l)) =
    (search_at cs v ≡ tried cs u l)
    × (variable l < length u)
    × (unset_count (with_literal u l) < unset_count v)
    × (unset_count (with_literal u (negation l)) < unset_count v)
    × (length u ≡ length v)

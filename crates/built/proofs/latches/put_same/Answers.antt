-- `built::latches::put_same` meets its contract: two clauses, one behind another. Assumes nothing.
use mathlib.Core.Path.{refl}
use Rattle.built.specs.Cuts.{two_first, two_second, two_all}
use Rattle.built.specs.Sections.{same_split}
use Rattle.built.proofs.latches.put_same.Goals as goal

pub put_clause-requires-clause-edges_in_bounds : goal.put_clause-requires-clause-edges_in_bounds
put_clause-requires-clause-edges_in_bounds c =
    two_first (same_split _ _ refl c.opposite-on.ensures.0 c.opposite-not_x.ensures.0) c.requires.x_in_bounds

pub put_clause-requires-2-clause-edges_in_bounds : goal.put_clause-requires-2-clause-edges_in_bounds
put_clause-requires-2-clause-edges_in_bounds c =
    two_second (same_split _ _ refl c.opposite-on.ensures.0 c.opposite-not_x.ensures.0) c.requires.x_in_bounds c.put_clause.ensures

pub returns : goal.returns
returns c =
    two_all (same_split _ _ refl c.opposite-on.ensures.0 c.opposite-not_x.ensures.0) c.requires.x_in_bounds c.put_clause.ensures c.put_clause-2.ensures

-- `built::gates::put_and` meets its contract: three clauses, one behind another. Assumes nothing.
use Rattle.built.specs.Cuts.{three_first, three_second, three_third, three_all}
use Rattle.built.specs.Sections.{and_split}
use Rattle.built.proofs.gates.put_and.Goals as goal

pub put_clause-requires-clause-edges_in_bounds : goal.put_clause-requires-clause-edges_in_bounds
put_clause-requires-clause-edges_in_bounds c =
    three_first (and_split _ _ _ _ c.opposite-not_g.ensures.0 c.opposite-not_a.ensures.0 c.opposite-not_b.ensures.0) c.requires.b_in_bounds

pub put_clause-requires-2-clause-edges_in_bounds : goal.put_clause-requires-2-clause-edges_in_bounds
put_clause-requires-2-clause-edges_in_bounds c =
    three_second (and_split _ _ _ _ c.opposite-not_g.ensures.0 c.opposite-not_a.ensures.0 c.opposite-not_b.ensures.0) c.requires.b_in_bounds c.put_clause.ensures

pub put_clause-requires-3-clause-edges_in_bounds : goal.put_clause-requires-3-clause-edges_in_bounds
put_clause-requires-3-clause-edges_in_bounds c =
    three_third (and_split _ _ _ _ c.opposite-not_g.ensures.0 c.opposite-not_a.ensures.0 c.opposite-not_b.ensures.0) c.requires.b_in_bounds c.put_clause.ensures c.put_clause-2.ensures

pub returns : goal.returns
returns c =
    three_all (and_split _ _ _ _ c.opposite-not_g.ensures.0 c.opposite-not_a.ensures.0 c.opposite-not_b.ensures.0) c.requires.b_in_bounds c.put_clause.ensures c.put_clause-2.ensures c.put_clause-3.ensures

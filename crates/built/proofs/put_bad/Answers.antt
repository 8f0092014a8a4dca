-- `built::put_bad` meets its contract: three parts, one behind another. Assumes nothing.
use Rattle.built.specs.Cuts.{three_first, three_second, three_third, three_all}
use Rattle.built.specs.Problem.{bad_split}
use Rattle.clause_count.specs.Bad.{bad_rows}
use Rattle.built.proofs.put_bad.Goals as goal

pub put_gates-requires-clause-c_in_bounds : goal.put_gates-requires-clause-c_in_bounds
put_gates-requires-clause-c_in_bounds c = three_first (bad_split _ _ c.requires.one_bad _ c.bad_lines-bad.ensures) c.requires.c_in_bounds

pub put_ones-requires-clause-rows_at : goal.put_ones-requires-clause-rows_at
put_ones-requires-clause-rows_at c = bad_rows _ _ _ c.bad_lines-bad.ensures c.requires.small.whole.properties

pub put_ones-requires-clause-s_in_bounds : goal.put_ones-requires-clause-s_in_bounds
put_ones-requires-clause-s_in_bounds c = three_second (bad_split _ _ c.requires.one_bad _ c.bad_lines-bad.ensures) c.requires.c_in_bounds c.put_gates.ensures

pub put_ones-requires-2-clause-s_in_bounds : goal.put_ones-requires-2-clause-s_in_bounds
put_ones-requires-2-clause-s_in_bounds c =
    three_third (bad_split _ _ c.requires.one_bad _ c.bad_lines-bad.ensures) c.requires.c_in_bounds c.put_gates.ensures c.put_ones.ensures

pub returns : goal.returns
returns c =
    three_all (bad_split _ _ c.requires.one_bad _ c.bad_lines-bad.ensures) c.requires.c_in_bounds c.put_gates.ensures c.put_ones.ensures c.put_ones-2.ensures

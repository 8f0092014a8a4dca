-- `built::put_tr` meets its contract: three parts, one behind another. Assumes nothing.
use Rattle.built.specs.Cuts.{three_first, three_second, three_third, three_all}
use Rattle.built.specs.Problem.{tr_split}
use Rattle.built.proofs.put_tr.Goals as goal

pub put_gates-requires-clause-c_in_bounds : goal.put_gates-requires-clause-c_in_bounds
put_gates-requires-clause-c_in_bounds c = three_first (tr_split c.args.text.now c.args.c) c.requires.c_in_bounds

pub put_latches-requires-clause-c_in_bounds : goal.put_latches-requires-clause-c_in_bounds
put_latches-requires-clause-c_in_bounds c =
    three_second (tr_split c.args.text.now c.args.c) c.requires.c_in_bounds c.put_gates.ensures

pub put_ones-requires-clause-s_in_bounds : goal.put_ones-requires-clause-s_in_bounds
put_ones-requires-clause-s_in_bounds c =
    three_third (tr_split c.args.text.now c.args.c) c.requires.c_in_bounds c.put_gates.ensures c.put_latches.ensures

pub returns : goal.returns
returns c =
    three_all (tr_split c.args.text.now c.args.c) c.requires.c_in_bounds c.put_gates.ensures c.put_latches.ensures
    c.put_ones.ensures

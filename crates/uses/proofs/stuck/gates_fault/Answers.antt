use Rattle.uses.specs.Fill.{filled_in, marks_are, begun_given, begun_only}
use Rattle.uses.specs.Stuck.{gate_passes}
use Rattle.uses.proofs.stuck.gates_fault.Goals as goal

pub invariant_of-gates-clause-left_in : goal.invariant_of-gates-clause-left_in
invariant_of-gates-clause-left_in c = filled_in _ c.args.c 1 _ c.fill.ensures

pub invariant_of-gates-clause-right_in : goal.invariant_of-gates-clause-right_in
invariant_of-gates-clause-right_in c = filled_in _ c.args.c 2 _ c.fill-2.ensures

pub first_stuck-requires-clause-marks_are : goal.first_stuck-requires-clause-marks_are
unfolding gate_passes
first_stuck-requires-clause-marks_are c =
    let start = c.requires in
    let fresh = c.nothing_done-done.ensures in
    marks_are _ c.args.c _ _ _ _ start.distinct.once start.distinct.apart c.fill.ensures c.fill-2.ensures
    (begun_given _ fresh) (begun_only _ fresh) c.solve.ensures

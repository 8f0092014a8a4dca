use mathlib.Core.Path.{ap, ◌∙◌}
use Rattle.std.proofs.lemmas.Result.{err_from_is_err_and}
use Rattle.lines.specs.Faults.{fault_of}
use Rattle.uses.specs.Stuck.{here, later, in_three}
use Rattle.sections.specs.Whole.{sections_of}
use Rattle.uses.proofs.stuck.uses_fault.Goals as goal

pub returns-in_err-first_unknown : goal.returns-in_err-first_unknown
unfolding sections_of
returns-in_err-first_unknown c =
    let p = err_from_is_err_and c.from_residual.result c.from_residual.ensures.1 in
    rw (p.1, p.2) (here _ _ _ c.in_err-first_unknown.ensures ∙ ap fault_of (in_three _ _))

pub returns-in_err-properties_fault : goal.returns-in_err-properties_fault
unfolding sections_of
returns-in_err-properties_fault c =
    let p = err_from_is_err_and c.from_residual-in_err-properties_fault.result c.from_residual-in_err-properties_fault.ensures.1 in
    rw (p.1, p.2)
    (later _ _ _ c.in_ok-first_unknown.ensures _ (here _ _ _ c.in_err-properties_fault.ensures) ∙ ap fault_of (in_three _ _))

pub returns : goal.returns
unfolding sections_of
returns c =
    later _ _ _ c.in_ok-first_unknown.ensures _ (later _ _ _ c.in_ok-properties_fault.ensures _ c.gates_fault.ensures) ∙ ap fault_of (in_three _ _)

use Rattle.std.proofs.lemmas.Result.{err_from_is_err_and}
use Rattle.uses.specs.Stuck.{properties_fault, here, later}
use Rattle.sections.specs.Whole.{properties_of}
use Rattle.uses.proofs.stuck.properties_fault.Goals as goal

pub returns-in_err-first_unknown : goal.returns-in_err-first_unknown
unfolding properties_fault properties_of
returns-in_err-first_unknown c =
    let p = err_from_is_err_and c.from_residual.result c.from_residual.ensures.1 in
    rw (p.1, p.2) (here _ _ _ c.in_err-first_unknown.ensures)

pub returns-in_err-first_unknown-2 : goal.returns-in_err-first_unknown-2
unfolding properties_fault properties_of
returns-in_err-first_unknown-2 c =
    let p = err_from_is_err_and c.from_residual-in_err-first_unknown-2.result c.from_residual-in_err-first_unknown-2.ensures.1 in
    rw (p.1, p.2) (later _ _ _ c.in_ok-first_unknown.ensures _ (here _ _ _ c.in_err-first_unknown-2.ensures))

pub returns-in_err-first_unknown-3 : goal.returns-in_err-first_unknown-3
unfolding properties_fault properties_of
returns-in_err-first_unknown-3 c =
    let p = err_from_is_err_and c.from_residual-in_err-first_unknown-3.result c.from_residual-in_err-first_unknown-3.ensures.1 in
    rw (p.1, p.2)
    (later _ _ _ c.in_ok-first_unknown.ensures _
    (later _ _ _ c.in_ok-first_unknown-2.ensures _ (here _ _ _ c.in_err-first_unknown-3.ensures)))

pub returns-in_err-first_unknown-4 : goal.returns-in_err-first_unknown-4
unfolding properties_fault properties_of
returns-in_err-first_unknown-4 c =
    let p = err_from_is_err_and c.from_residual-in_err-first_unknown-4.result c.from_residual-in_err-first_unknown-4.ensures.1 in
    rw (p.1, p.2)
    (later _ _ _ c.in_ok-first_unknown.ensures _
    (later _ _ _ c.in_ok-first_unknown-2.ensures _
    (later _ _ _ c.in_ok-first_unknown-3.ensures _ (here _ _ _ c.in_err-first_unknown-4.ensures))))

pub returns : goal.returns
unfolding properties_fault properties_of
returns c =
    later _ _ _ c.in_ok-first_unknown.ensures _
    (later _ _ _ c.in_ok-first_unknown-2.ensures _
    (later _ _ _ c.in_ok-first_unknown-3.ensures _ (later _ _ _ c.in_ok-first_unknown-4.ensures _ c.first_unknown-5.ensures)))

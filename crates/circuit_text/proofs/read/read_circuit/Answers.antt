use mathlib.Core.Path.{refl}
use Rattle.std.proofs.lemmas.Result.{err_from_is_err_and}
use Rattle.circuit_text.specs.Uses.{header_is_wrong, read_fault, used_fault, read_used}
use Rattle.circuit_text.proofs.read.read_circuit.Goals as goal

pub returns-in_default : goal.returns-in_default
returns-in_default c = header_is_wrong _ c.in_default.ensures.header

pub returns-in_err-c : goal.returns-in_err-c
returns-in_err-c c =
    let p = err_from_is_err_and c.from_residual.result c.from_residual.ensures.1 in
    rw (p.1, p.2) (read_fault _ _ c.in-Some.ensures.header _ refl _ c.in_err-c.ensures)

pub returns-in_err-read_uses : goal.returns-in_err-read_uses
returns-in_err-read_uses c =
    let p = err_from_is_err_and c.from_residual-in_err-read_uses.result c.from_residual-in_err-read_uses.ensures.1 in
    rw (p.1, p.2) (used_fault _ _ c.in-Some.ensures.header _ refl _ c.in_ok-c.ensures _ c.in_err-read_uses.ensures)

pub returns : goal.returns
returns c = read_used _ _ c.in-Some.ensures.header _ refl _ c.in_ok-c.ensures c.in_ok-read_uses.field-0 c.in_ok-read_uses.ensures

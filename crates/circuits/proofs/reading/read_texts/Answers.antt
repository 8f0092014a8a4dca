use Rattle.std.proofs.lemmas.Result.{err_from_is_err_and}
use Rattle.circuits.specs.Reading.{found_fault}
use Rattle.circuits.proofs.reading.read_texts.Goals as goal

pub returns-in_err-c : goal.returns-in_err-c
returns-in_err-c c =
    let p = err_from_is_err_and c.from_residual.result c.from_residual.ensures.1 in
    rw (p.1, p.2) (found_fault _ _ _ (rw c.in_err-c.was at c.read_circuit.ensures))

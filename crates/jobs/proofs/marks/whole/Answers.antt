-- `jobs::marks::whole` meets its contract. Assumes nothing.
use mathlib.Core.Path.{refl}
use Rattle.std.proofs.lemmas.Result.{err_from_is_err_and}
use Rattle.jobs.proofs.marks.whole.Goals as goal

pub returns-in_err-top : goal.returns-in_err-top
returns-in_err-top c =
    let p = err_from_is_err_and c.from_residual.result c.from_residual.ensures.1 in
    rw p.1 (rw c.from.ensures at c.in_err-top.ensures)

pub returns : goal.returns
returns c =
    let kept = rw c.from.ensures at c.in_ok-top.ensures in
    ((record { used = kept.0.used; marks = kept.0.marks }, kept.1), refl)

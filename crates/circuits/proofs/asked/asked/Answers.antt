use mathlib.Core.Path.{refl}
use Rattle.circuits.specs.Asked.{refused_call}
use Rattle.circuits.proofs.asked.asked.Goals as goal

pub returns-in-Ok : goal.returns-in-Ok
returns-in-Ok g c = λ call does. does _ _ c.in-Ok.ensures _ _ _ _ refl refl c.job.ensures

pub returns-in-Err : goal.returns-in-Err
returns-in-Err g c = λ call does. refused_call _ _ _ c.in-Err.ensures _ c.from.ensures call _

-- The first line at fault, as the code returns it.
use Rattle.std.specs.Prelude.{ℕ, Result, Ok, Err}
use Rattle.std.proofs.Math.Option.{Option, none, some}
use Rattle.lines.specs.declared.fault.Fault.{Fault}

-- the place of a line at fault, if there is one
unfoldable pub fault_of : Option ℕ → Result (Unit {0}) Fault
fault_of none = Ok tt
fault_of (some at) = Err (record { at = at })

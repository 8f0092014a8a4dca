-- What a report says of a refusal.
use Rattle.std.specs.Prelude.{ℕ}
use Rattle.circuits.specs.declared.refusal.Refusal.{Refusal}
use Rattle.circuits.specs.declared.refusal.Refusal.TheVariants.{Line, Limits, Liveness, Room}

abbrev pub number_of : Refusal → ℕ
number_of (Line fault) = 13
number_of Limits = 14
number_of Liveness = 15
number_of Room = 12

abbrev pub place_of : Refusal → ℕ
place_of (Line fault) = fault.at
place_of Limits = 0
place_of Liveness = 0
place_of Room = 0

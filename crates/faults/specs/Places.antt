-- What stands at a place of a file, and the record around it.
use Rattle.std.specs.Prelude.{ℕ, zero, suc, ◌+◌, Bool, true, false, ◌||◌, cond, List, length, eqb, ltb, leb}
use Rattle.meaning.specs.File.{two_at}
use Rattle.format.specs.Section.{next_record}
use Rattle.faults.specs.declared.places.Spot.{Spot}
use Rattle.faults.specs.declared.places.Found.{Found}

-- the kind of the record at a place: its head is the two bytes of its length, and then those of its kind
unfoldable pub kind_there : List ℕ → ℕ → ℕ
kind_there file at = two_at file (at + 2)

-- the record after one: its position is the next where it is of the same kind, and else 0
unfoldable pub past : List ℕ → Spot → Spot
past file s =
    record {
      at = next_record file s.at;
      position = cond (eqb (kind_there file (next_record file s.at)) (kind_there file s.at)) (s.position + 1) 0;
    }

-- the file ends, or the record reaches over the place
unfoldable pub reaches : List ℕ → ℕ → Spot → Bool
reaches file place s = leb (length file) s.at || ltb place (next_record file s.at)

unfoldable pub unless_reached : Bool → (Spot → Spot) → List ℕ → Spot → Spot
unless_reached true on file s = s
unless_reached false on file s = on (past file s)

-- record by record, so many at the most, up to the one that reaches over the place
unfoldable pub walk : ℕ → List ℕ → ℕ → Spot → Spot
walk zero file place s = s
walk (suc most) file place s = unless_reached (reaches file place s) (walk most file place) file s

-- where the record around a place starts, walking from the file's start (a file has fewer records than it has bytes)
unfoldable pub start_around : List ℕ → ℕ → Spot
start_around file place = walk (length file) file place (record { at = 0; position = 0 })

-- the record around a place: its kind, and its position among the records of that kind
unfoldable pub around : List ℕ → ℕ → Found
around file place = record { kind = kind_there file (start_around file place).at; position = (start_around file place).position }

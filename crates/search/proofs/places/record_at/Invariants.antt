-- `record_at` meets its contract. The loop's invariant: what is left to walk ends where the whole walk ends.
use Prim.Native.Nat.{◌-◌}
use mathlib.Core.Path.{◌≡◌}
use Rattle.format.specs.Section.{Inside}
use Rattle.search.specs.Places.{place}
use Rattle.search.proofs.places.record_at.Given as goal

abbrev pub invariant-loop : goal.invariant-loop
invariant-loop l = Inside l.file l.at (l.count - l.counter) × (place l.file l.start l.count ≡ place l.file l.at (l.count - l.counter))

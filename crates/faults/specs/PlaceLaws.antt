-- Laws of places: past the end bytes read as 0; a record more of the walk.
use Prim.Native.Nat.{ℕ, zero, suc, ◌+◌, ◌-◌, ◌≤◌, ◌<◌}
use native.Mathlib.Omega.{arith}
use Rattle.std.specs.Prelude.{◌≡◌, Bool, cond, List, length, get_or, eqb}
use Rattle.std.proofs.Math.Path.{ap, ap₂}
use Rattle.std.proofs.Math.Bool.{true, false}
use Rattle.std.proofs.Math.ListN.{get_or-eq_default}
use borrow.Author.Tests.{lt-ltb, le-ltb, le-leb, lt-leb}
use Rattle.meaning.specs.File.{two_at}
use Rattle.format.specs.Section.{next_record}
use Rattle.faults.specs.Places.{kind_there, past, reaches, unless_reached, walk}
use Rattle.faults.specs.declared.places.Spot.{Spot}

module _ (file : List ℕ) (at : ℕ) where
  pub two_past : length file ≤ at → 0 ≡ two_at file at
  unfolding two_at
  two_past h = rw (get_or-eq_default file 0 {n = at} h, get_or-eq_default file 0 {n = at + 1} (omega arith))

  pub two_last : length file - at ≡ 1 → get_or file at 0 ≡ two_at file at
  unfolding two_at
  two_last h = rw (get_or-eq_default file 0 {n = at + 1} (omega arith)) (omega arith)

-- the record after one, by its place and its position
pub spot_after : (file : List ℕ) (s : Spot) (next position : ℕ) → next ≡ next_record file s.at
    → position ≡ cond (eqb (kind_there file next) (kind_there file s.at)) (s.position + 1) 0
    → past file s ≡ record { at = next; position = position }
unfolding past
spot_after file s next position e g = rw (g, e)

-- the walk ends, or goes on
module _ (file : List ℕ) (place : ℕ) (s : Spot) where
  walk_by : (most : ℕ) → 0 < most → (b : Bool) → reaches file place s ≡ b
      → walk most file place s ≡ unless_reached b (walk (most - 1) file place) file s
  unfolding walk
  walk_by zero h b e = absurd (omega (arith, h))
  walk_by (suc most) h b e =
      ap₂ (λ (r : Bool) (n : ℕ). unless_reached r (walk n file place) file s) e (less most)
    where
      less : (n : ℕ) → n ≡ suc n - 1
      less n = omega arith

  pub walk_ended : (most : ℕ) → 0 < most → length file ≤ s.at → walk most file place s ≡ s
  unfolding reaches unless_reached
  walk_ended most h e = walk_by most h true (rw (le-leb (length file) s.at e))

  pub walk_reached : (most : ℕ) → 0 < most → s.at < length file → place < next_record file s.at → walk most file place s ≡ s
  unfolding reaches unless_reached
  walk_reached most h g e =
      walk_by most h true (rw (lt-leb (length file) s.at g, lt-ltb place (next_record file s.at) e))

  pub walk_more : (most : ℕ) → 0 < most → s.at < length file → next_record file s.at ≤ place
      → walk most file place s ≡ walk (most - 1) file place (past file s)
  unfolding reaches unless_reached
  walk_more most h g e =
      walk_by most h false (rw (lt-leb (length file) s.at g, le-ltb place (next_record file s.at) e))

  pub walk_out : (most : ℕ) → most ≡ 0 → walk most file place s ≡ s
  unfolding walk
  walk_out most e = ap (λ (n : ℕ). walk n file place s) e

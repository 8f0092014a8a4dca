-- Parts written one after another, each by its number.
use Prim.Native.Nat.{ℕ, zero, suc, ◌+◌, ◌-◌, ◌≤◌, ◌<◌}
use native.Mathlib.Omega.{arith}
use Rattle.std.proofs.Common.{add-one, sym, ap, subst}
use Rattle.std.specs.Prelude.{◌≡◌, List, [], ◌++◌}
use Rattle.records.specs.declared.Records.{Records}
use Rattle.records.specs.Puts.{Puts, HasRoom, Left, left_all, left_is, left_none, left_room, left_more}

-- so many parts, from number i on
unfoldable pub parts : (ℕ → List ℕ) → ℕ → ℕ → List ℕ
parts part i zero = []
parts part i (suc k) = part i ++ parts part (suc i) k

-- the first i parts are written
pub record Turn (part : ℕ → List ℕ) (count : ℕ) (start : Records) (i : ℕ) (now : Records) : Type 0 where
  pub low : i ≤ count
  pub left : Left (parts part 0 count) start (parts part i (count - i)) now

pub turn_start : (part : ℕ → List ℕ) (count : ℕ) {start : Records} → HasRoom (parts part 0 count) start → Turn part count start 0 start
turn_start part count room =
    let same : count ≡ count - 0 = omega arith in
    record { low = omega arith; left = left_is (left_all room) (ap (parts part 0) same) }

module _ {part : ℕ → List ℕ} {count : ℕ} {start : Records} {i : ℕ} {now : Records} (t : Turn part count start i now) where
  pub turn_end : (i < count → ⊥) → Puts (parts part 0 count) start now
  unfolding parts
  turn_end past = left_none t.left (ap (parts part i) (nothing_left t.low))
    where
      nothing_left : i ≤ count → count - i ≡ 0
      nothing_left h = omega arith

  module _ (less : i < count) where
    next : Left (parts part 0 count) start (part i ++ parts part (suc i) (count - suc i)) now
    unfolding parts
    next = let up : count - i ≡ suc (count - suc i) = omega arith in left_is t.left (ap (parts part i) up)

    pub turn_room : HasRoom (part i) now
    turn_room = left_room (part i) (parts part (suc i) (count - suc i)) next

    pub turn_next : {end : Records} → Puts (part i) now end → Turn part count start (i + 1) end
    turn_next {end} w =
        subst (λ (j : ℕ). Turn part count start j end) (sym (add-one i))
        (record { low = omega arith; left = left_more (part i) (parts part (suc i) (count - suc i)) next w })

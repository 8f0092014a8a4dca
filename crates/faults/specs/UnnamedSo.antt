-- What is told of a variable that the class of a record does not name is so.
use Rattle.std.specs.Prelude.{ℕ, ◌+◌, ◌-◌, ◌≤◌, ◌<◌, ◌≡◌, refl, ◌⊎◌, Bool, true, false, ◌&&◌, leb}
use Rattle.std.proofs.Common.{arith, sym, ap, ◌∙◌, inl, inr, true≢false, leb-true, leb-false, le-leb}
use Rattle.meaning.specs.File.{Class, nothing, state, present, every, between, names, is_clause}
use Rattle.laws.specs.Accepted.{or_false_left, or_false_right}
use Rattle.faults.specs.Faults.{unnamed}
use Rattle.faults.specs.declared.wrong.Fault.TheVariants.{NoState, NextValue, NoVariable}

-- a number from low on that is not between low and high lies over high
over : (low high v : ℕ) → low ≤ v → between low high v ≡ false → high < v
unfolding between
over low high v from h = leb-false v high (sym (ap (λ (b : Bool). b && leb v high) (le-leb low v from)) ∙ h)

-- of a class that names variables: beyond the state, a next value, or beyond every variable
pub unnamed_so : (c : Class) (v n m : ℕ) → is_clause c ≡ true → 1 ≤ v → names c n m v ≡ false
    → ((unnamed c v n m ≡ NoState v n) × (n < v))
    ⊎ (((unnamed c v n m ≡ NextValue v (v - n)) × (n < v) × (v ≤ n + n))
    ⊎ ((unnamed c v n m ≡ NoVariable v n m (n + n + m)) × (n + n + m < v)))
unfolding unnamed names is_clause
unnamed_so nothing v n m clause from h = absurd (true≢false (sym clause))
unnamed_so state v n m clause from h = inl (refl, over 1 n v from h)
unnamed_so every v n m clause from h = inr (inr (refl, over 1 (n + n + m) v from h))
unnamed_so present v n m clause from h = go (leb v (n + n)) refl
  where
    now : between 1 n v ≡ false
    now = or_false_left (between 1 n v) (between (n + n + 1) (n + n + m) v) h

    later : between (n + n + 1) (n + n + m) v ≡ false
    later = or_false_right (between 1 n v) (between (n + n + 1) (n + n + m) v) h

    go : (b : Bool) → leb v (n + n) ≡ b
        → ((unnamed present v n m ≡ NoState v n) × (n < v))
        ⊎ (((unnamed present v n m ≡ NextValue v (v - n)) × (n < v) × (v ≤ n + n))
        ⊎ ((unnamed present v n m ≡ NoVariable v n m (n + n + m)) × (n + n + m < v)))
    go true e = inr (inl (rw e, over 1 n v from now, leb-true v (n + n) e))
    go false e =
        let past : n + n < v = leb-false v (n + n) e in
        inr (inr (rw e, over (n + n + 1) (n + n + m) v (omega arith) later))

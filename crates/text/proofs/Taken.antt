-- The next of at most three numbers, or 0, and what it leaves of them.
use Rattle.std.specs.Prelude.{ℕ, ◌<◌, ◌≤◌, ◌≡◌, min, refl, List, ◌∷◌, length, take, Bool, true, false, ltb, Option, None, Some}
use Rattle.std.specs.Borrow.{Bor}
use Rattle.std.specs.Option.{option_copied, unwrap_or}
use Rattle.std.specs.Slice.Iter.{iter_rest, iter_steps}
use Rattle.std.proofs.Common.{arith, sym, ◌∙◌, get_or, length-take, Iter}
use Rattle.std.proofs.Math.ListN.{get_or-eq_default}
use Rattle.std.proofs.lemmas.List.{get_or-take}
use borrow.Author.Tests.{ltb-true, ltb-false}

pub record Taken (before after : List ℕ) (number : ℕ) : Type 0 where
  pub first : number ≡ get_or before 0 0
  pub second : get_or after 0 0 ≡ get_or before 1 0
  pub third : get_or after 1 0 ≡ get_or before 2 0
  pub fourth : get_or after 2 0 ≡ 0
  pub few : length after ≤ 3

taken_of : (before after : List ℕ) (n : ℕ) → before ≡ n ∷ after → length before ≤ 3 → Taken before after n
taken_of before after n e few =
    let short : length (n ∷ after) ≤ 3 = rw e at few in
    rw e (record { first = refl; second = refl; third = refl; fourth = get_or-eq_default after 0 (omega arith); few = omega arith })

pub taken : (s t : Iter ℕ) (r : Option (Bor ℕ)) → iter_steps s r t → length (iter_rest s) ≤ 3
    → Taken (iter_rest s) (iter_rest t) (unwrap_or (option_copied r) 0)
taken s t None h few =
    let none : (k : ℕ) → get_or (iter_rest s) k 0 ≡ 0 = λ k. get_or-eq_default (iter_rest s) 0 (omega (arith, h.0)) in
    rw h.1 (record { first = sym (none 0); second = none 0 ∙ sym (none 1); third = none 1 ∙ sym (none 2); fourth = none 2; few = few })
taken s t (Some x) h few = taken_of (iter_rest s) (iter_rest t) x.now h few

-- of the first three numbers, each is as it was
first_by : (ns : List ℕ) (i : ℕ) (b : Bool) → ltb i (length ns) ≡ b → i < 3 → get_or (take (min (length ns) 3) ns) i 0 ≡ get_or ns i 0
first_by ns i true e h =
    let l : i < length ns = ltb-true i (length ns) e in get_or-take (min (length ns) 3) ns i 0 (omega arith)
first_by ns i false e h =
    let l : length ns ≤ i = ltb-false i (length ns) e in
    get_or-eq_default (take (min (length ns) 3) ns) 0 (omega (arith, length-take {A = ℕ})) ∙ sym (get_or-eq_default ns 0 l)

pub first_three : (ns : List ℕ) (i : ℕ) → i < 3 → get_or (take (min (length ns) 3) ns) i 0 ≡ get_or ns i 0
first_three ns i h = first_by ns i (ltb i (length ns)) refl h

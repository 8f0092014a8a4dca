-- Rounds over the gates, as numbers: a gate's two literals come from somewhere (left, right), and what is worked out is marked (done).
use Rattle.std.specs.Prelude.{ℕ, zero, suc, ◌+◌, ◌≤◌, ◌<◌, ◌≡◌, ◌⊎◌, Bool, ◌&&◌, cond, length, set, eqb}
use native.Mathlib.Omega.{arith}
use Rattle.std.proofs.Common.{add-one, sym, ◌∙◌, inl, inr, get_or-set_other}
use Rattle.std.proofs.Math.Path.{refl, ap}
use Rattle.std.proofs.Math.Bool.{true, false, not}
use mathlib.Core.List.{List, [], ◌∷◌}
use Rattle.std.proofs.Math.ListN.{get_or, length-set}
use Rattle.std.proofs.Math.Seq.{get_or-set_same}
use borrow.Author.Tests.{eqb-true, eqb-false, eq-eqb, ne_eqb}
use Rattle.laws.specs.Basics.{bool_cases, and_left, and_right}

-- what comes from k is worked out
unfoldable pub is_done : List ℕ → ℕ → Bool
is_done d k = not (eqb (get_or d k 0) 0)

-- gate i is not worked out, and both its literals are
unfoldable pub ready : List ℕ → List ℕ → List ℕ → ℕ → Bool
ready left right d i = not (is_done d (suc i)) && (is_done d (get_or left i 0) && is_done d (get_or right i 0))

-- where the literals of so many gates come from: a gate, or one more than the last
abbrev pub InReach : List ℕ → ℕ → Type 0
InReach from count = (i : ℕ) → i < count → get_or from i 0 ≤ count + 1

-- P holds of a gate where it holds of where its literals come from
abbrev pub Carried : List ℕ → List ℕ → ℕ → (ℕ → Bool) → Type 0
Carried left right count P =
    (i : ℕ) → i < count → P (get_or left i 0) ≡ true → P (get_or right i 0) ≡ true → P (suc i) ≡ true

-- everything that is marked has P
abbrev pub Marked : (ℕ → Bool) → List ℕ → Type 0
Marked P d = (k : ℕ) → is_done d k ≡ true → P k ≡ true

-- how many are worked out
unfoldable pub ones : List ℕ → ℕ
ones [] = 0
ones (b ∷ d) = cond (eqb b 0) 0 1 + ones d

pub ones_most : (d : List ℕ) → ones d ≤ length d
unfolding ones
ones_most [] = omega arith
ones_most (b ∷ d) = go (eqb b 0) (ones_most d)
  where
    go : (t : Bool) → ones d ≤ length d → cond t 0 1 + ones d ≤ suc (length d)
    go true h = omega arith
    go false h = omega arith

pub ones_set : (d : List ℕ) (k : ℕ) → k < length d → get_or d k 0 ≡ 0 → ones (set d k 1) ≡ suc (ones d)
unfolding ones
ones_set [] k h e = absurd (omega arith)
ones_set (b ∷ d) zero h e = rw e refl_one
  where
    refl_one : cond (eqb 1 0) 0 1 + ones d ≡ suc (cond (eqb 0 0) 0 1 + ones d)
    refl_one = omega arith
ones_set (b ∷ d) (suc k) h e = let on = ones_set d k (omega arith) e in omega (arith, on)

-- what a round leaves, of which so many gates were worked out
pub record Swept (left right : List ℕ) (count : ℕ) (d after : List ℕ) (made : ℕ) : Type 0 where
  pub long : length after ≡ length d
  pub keeps : (k : ℕ) → is_done d k ≡ true → is_done after k ≡ true
  pub carried : (P : ℕ → Bool) → Carried left right count P → Marked P d → Marked P after
  pub still : made ≡ 0 → (i : ℕ) → i < count → ready left right after i ≡ false
  pub more : ones after ≡ ones d + made

-- what the rounds leave: nothing is ready
pub record Solved (left right : List ℕ) (count : ℕ) (d after : List ℕ) : Type 0 where
  pub long : length after ≡ length d
  pub keeps : (k : ℕ) → is_done d k ≡ true → is_done after k ≡ true
  pub carried : (P : ℕ → Bool) → Carried left right count P → Marked P d → Marked P after
  pub still : (i : ℕ) → i < count → ready left right after i ≡ false

-- ---- one gate more

pub not_ready_done : (left right d : List ℕ) (i : ℕ) → (get_or d (i + 1) 0 ≡ 0 → ⊥) → false ≡ ready left right d i
unfolding ready is_done
not_ready_done left right d i h =
    sym (rw (ne_eqb (get_or d (suc i) 0) 0 (λ e. h (ap (λ (k : ℕ). get_or d k 0) (add-one i) ∙ e))))

pub not_ready_left : (left right d : List ℕ) (i : ℕ) → get_or d (get_or left i 0) 0 ≡ 0 → false ≡ ready left right d i
unfolding ready is_done
not_ready_left left right d i h = sym (rw (eq-eqb (get_or d (get_or left i 0) 0) 0 h) (go (eqb (get_or d (suc i) 0) 0)))
  where
    go : (b : Bool) → (not (not b) && false) ≡ false
    go true = refl
    go false = refl

pub ready_right : (left right d : List ℕ) (i : ℕ) → get_or d (i + 1) 0 ≡ 0 → (get_or d (get_or left i 0) 0 ≡ 0 → ⊥)
    → not (eqb (get_or d (get_or right i 0) 0) 0) ≡ ready left right d i
unfolding ready is_done
ready_right left right d i h g =
    sym
    (rw (eq-eqb (get_or d (suc i) 0) 0 (ap (λ (k : ℕ). get_or d k 0) (sym (add-one i)) ∙ h), ne_eqb (get_or d (get_or left i 0) 0) 0 g))

-- gate i worked out, where it is ready
unfoldable pub after_step : List ℕ → List ℕ → List ℕ → ℕ → List ℕ
after_step left right d i = cond (ready left right d i) (set d (i + 1) 1) d

-- a round, as far as i gates are looked at
pub record Sweeping (left right : List ℕ) (count : ℕ) (d after : List ℕ) (i made : ℕ) : Type 0 where
  pub long : length after ≡ length d
  pub keeps : (k : ℕ) → is_done d k ≡ true → is_done after k ≡ true
  pub carried : (P : ℕ → Bool) → Carried left right count P → Marked P d → Marked P after
  pub still : made ≡ 0 → (after ≡ d) × ((k : ℕ) → k < i → ready left right d k ≡ false)
  pub more : ones after ≡ ones d + made
  pub low : i ≤ count
  pub made_low : made ≤ i

pub sweeping_start : (left right : List ℕ) (count : ℕ) (d : List ℕ) → Sweeping left right count d d 0 0
sweeping_start left right count d =
    record {
      long = refl;
      keeps = λ k h. h;
      carried = λ P c m. m;
      still = λ e. (refl, λ k h. absurd (omega arith));
      more = omega arith;
      low = omega arith;
      made_low = omega arith;
    }

-- the marks that a step sets
module _ (d : List ℕ) (j : ℕ) (inside : j < length d) where
  set_keeps : (k : ℕ) → is_done d k ≡ true → is_done (set d j 1) k ≡ true
  unfolding is_done
  set_keeps k h = go (bool_cases (eqb k j))
    where
      go : (eqb k j ≡ true) ⊎ (eqb k j ≡ false) → not (eqb (get_or (set d j 1) k 0) 0) ≡ true
      go (inl t) =
          ap (λ (b : ℕ). not (eqb b 0))
          (ap (λ (i : ℕ). get_or (set d j 1) i 0) (eqb-true k j t) ∙ get_or-set_same d j 1 0 inside)
      go (inr t) = ap (λ (b : ℕ). not (eqb b 0)) (get_or-set_other d j k 1 0 (eqb-false k j t)) ∙ h

  set_marked : (P : ℕ → Bool) → P j ≡ true → Marked P d → Marked P (set d j 1)
  unfolding is_done
  set_marked P here m k h = go (bool_cases (eqb k j))
    where
      go : (eqb k j ≡ true) ⊎ (eqb k j ≡ false) → P k ≡ true
      go (inl t) = ap P (eqb-true k j t) ∙ here
      go (inr t) = m k (sym (ap (λ (b : ℕ). not (eqb b 0)) (get_or-set_other d j k 1 0 (eqb-false k j t))) ∙ h)

module _ {left right : List ℕ} {count : ℕ} {d after : List ℕ} {i made : ℕ} (s : Sweeping left right count d after i made) (less : i < count)
    (done_long : count + 2 ≤ length d) where
  j_inside : i + 1 < length after
  j_inside = omega (arith, s.long)

  stepped : (b : Bool) → ready left right after i ≡ b → Sweeping left right count d (cond b (set after (i + 1) 1) after) (i + 1) (made + cond b 1 0)
  unfolding ready is_done
  stepped true t =
      let open_now = and_left (not (is_done after (suc i))) _ t in
      let both = and_right (not (is_done after (suc i))) (is_done after (get_or left i 0) && is_done after (get_or right i 0)) t in
      let l_done = and_left (is_done after (get_or left i 0)) (is_done after (get_or right i 0)) both in
      let r_done = and_right (is_done after (get_or left i 0)) (is_done after (get_or right i 0)) both in
      record {
        long = length-set after (i + 1) 1 ∙ s.long;
        keeps = λ k h. set_keeps after (i + 1) j_inside k (s.keeps k h);
        carried = λ P c m.
            let on = s.carried P c m in
            set_marked after (i + 1) j_inside P
            (ap P (add-one i) ∙ c i less (on (get_or left i 0) l_done) (on (get_or right i 0) r_done)) on;
        still = λ e. absurd (omega (arith, e));
        more =
            omega (
              arith,
              s.more,
              ones_set after (i + 1) j_inside
                  (ap (λ (k : ℕ). get_or after k 0) (add-one i)
                  ∙ eqb-true (get_or after (suc i) 0) 0 (not_not (eqb (get_or after (suc i) 0) 0) open_now)),
            );
        low = omega arith;
        made_low = omega (arith, s.made_low);
      }
    where
      not_not : (b : Bool) → not (not b) ≡ true → b ≡ true
      not_not true h = refl
      not_not false h = h
  stepped false t =
      record {
        long = s.long;
        keeps = s.keeps;
        carried = s.carried;
        still = λ e.
            let none : made ≡ 0 = omega (arith, e) in
            let was = s.still none in
            (was.0, λ k h. by_last k h (bool_cases (eqb k i)) was);
        more = omega (arith, s.more);
        low = omega arith;
        made_low = omega (arith, s.made_low);
      }
    where
      by_last : (k : ℕ) → k < i + 1 → (eqb k i ≡ true) ⊎ (eqb k i ≡ false)
          → (after ≡ d) × ((q : ℕ) → q < i → ready left right d q ≡ false) → ready left right d k ≡ false
      by_last k h (inl u) was =
          ap (ready left right d) (eqb-true k i u) ∙ ap (λ (l : List ℕ). ready left right l i) (sym was.0) ∙ t
      by_last k h (inr u) was = was.1 k (below (eqb-false k i u))
        where
          below : (k ≡ i → ⊥) → k < i
          below other = omega arith

  pub sweeping_next : (now : List ℕ) (r : ℕ) → r ≡ cond (ready left right after i) 1 0 → now ≡ after_step left right after i
      → Sweeping left right count d now (i + 1) (made + r)
  unfolding after_step
  sweeping_next now r r_is now_is = rw (r_is, now_is) (stepped (ready left right after i) refl)

pub made_most : (left right d : List ℕ) (i r : ℕ) → r ≡ cond (ready left right d i) 1 0 → r ≤ 1
made_most left right d i r is = go (ready left right d i) is
  where
    go : (b : Bool) → r ≡ cond b 1 0 → r ≤ 1
    go true e = omega (arith, e)
    go false e = omega (arith, e)

pub sweeping_end : {left right : List ℕ} {count : ℕ} {d after : List ℕ} {i made : ℕ} → Sweeping left right count d after i made → (i < count → ⊥)
    → Swept left right count d after made
sweeping_end {left} {right} {count} {d} {after} {i} {made} s past =
    record {
      long = s.long;
      keeps = s.keeps;
      carried = s.carried;
      still = λ e k h.
          let was = s.still e in
          ap (λ (l : List ℕ). ready left right l k) was.0 ∙ was.1 k (in_reach k h s.low);
      more = s.more;
    }
  where
    in_reach : (k : ℕ) → k < count → i ≤ count → k < i
    in_reach k h low = omega arith

-- ---- round after round

pub record Rounds (left right : List ℕ) (count : ℕ) (d after : List ℕ) : Type 0 where
  pub long : length after ≡ length d
  pub keeps : (k : ℕ) → is_done d k ≡ true → is_done after k ≡ true
  pub carried : (P : ℕ → Bool) → Carried left right count P → Marked P d → Marked P after

pub rounds_start : (left right : List ℕ) (count : ℕ) (d : List ℕ) → Rounds left right count d d
rounds_start left right count d = record { long = refl; keeps = λ k h. h; carried = λ P c m. m }

pub rounds_next : {left right : List ℕ} {count : ℕ} {d after next : List ℕ} {made : ℕ} → Rounds left right count d after
    → Swept left right count after next made → Rounds left right count d next
rounds_next r s =
    record {
      long = s.long ∙ r.long;
      keeps = λ k h. s.keeps k (r.keeps k h);
      carried = λ P c m. s.carried P c (r.carried P c m);
    }

pub rounds_end : {left right : List ℕ} {count : ℕ} {d after next : List ℕ} {made : ℕ} → Rounds left right count d after
    → Swept left right count after next made → made ≡ 0 → Solved left right count d next
rounds_end r s e =
    let on = rounds_next r s in record { long = on.long; keeps = on.keeps; carried = on.carried; still = s.still e }

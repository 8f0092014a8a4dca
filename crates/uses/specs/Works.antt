-- When no gate is ready any more, what is marked is exactly what can be worked out.
use Prim.Native.Nat.{ℕ, zero, suc, ◌+◌, ◌≤◌, ◌<◌}
use Rattle.std.proofs.Common.{arith, ◌∙◌, inl, inr, true≢false}
use Rattle.std.specs.Prelude.{◌≡◌, ◌⊎◌, Bool, not, ◌&&◌, cond, List, [], ◌∷◌, ltb, eqb}
use Rattle.std.proofs.Math.Path.{refl, sym, ap, subst}
use Rattle.std.proofs.Math.Bool.{true, false}
use Rattle.std.proofs.Math.ListN.{length, get_or, length-map, get_or-map}
use borrow.Author.Tests.{ltb-true, lt-ltb, eq-eqb, ne_eqb, eqb-true}
use Rattle.meaning.specs.Demands.{In}
use Rattle.meaning.specs.Circuit.{Circuit, Gate, var, gate_variables}
use Rattle.meaning.specs.Built.{position}
use Rattle.meaning.specs.CircuitText.{given, worked_out, gate_works}
use Rattle.laws.specs.Basics.{bool_cases, and_left, and_right, and_both, not_true_is_false}
use Rattle.circuit_laws.specs.Sane.{Once}
use Rattle.circuit_laws.specs.Rounds.{given_out, gate_out, closed_contains, rounds_enough}
use Rattle.uses.specs.Sources.{source_of}
use Rattle.uses.specs.Solve.{is_done, ready, Carried, Solved}

-- ---- lists

in_nth : {A : Type 0} (d : A) (as' : List A) (k : ℕ) → k < length as' → In (get_or as' k d) as'
in_nth d [] k h = absurd (omega arith)
in_nth d (a ∷ as') zero h = inl refl
in_nth d (a ∷ as') (suc k) h = inr (in_nth d as' k (omega arith))

nth_in : {A : Type 0} (d a : A) (as' : List A) → In a as' → (k : ℕ) × (k < length as') × (a ≡ get_or as' k d)
nth_in {A = A} d a [] x' = elim x' [ ]
nth_in d a (b ∷ as') (inl e) = (0, omega arith, e)
nth_in d a (b ∷ as') (inr i) = let on = nth_in d a as' i in (suc on.0, shift on.0 on.1, on.2)
  where
    shift : (k : ℕ) → k < length as' → suc k < suc (length as')
    shift k h = omega arith

-- in a list without repetition each stands at its own position
position_nth : (us : List ℕ) (k : ℕ) → Once us → k < length us → position (get_or us k 0) us ≡ k
unfolding position
position_nth [] k o h = absurd (omega arith)
position_nth (u ∷ us) zero o h = rw (eq-eqb u u refl)
position_nth (u ∷ us) (suc k) o h =
    rw (ne_eqb (get_or us k 0) u (λ e. o.0 (subst (λ (a : ℕ). In a us) e (in_nth 0 us k (omega arith)))))
    (ap suc (position_nth us k o.1 (omega arith)))

-- what stands at the position of u is u
nth_position : (u : ℕ) (us : List ℕ) → position u us < length us → get_or us (position u us) 0 ≡ u
unfolding position
nth_position u [] h = absurd (omega arith)
nth_position u (v ∷ us) h = go (bool_cases (eqb u v)) (nth_position u us)
  where
    go : (eqb u v ≡ true) ⊎ (eqb u v ≡ false) → (position u us < length us → get_or us (position u us) 0 ≡ u)
        → get_or (v ∷ us) (cond (eqb u v) 0 (suc (position u us))) 0 ≡ u
    go (inl t) on = rw t (sym (eqb_is t))
      where
        eqb_is : eqb u v ≡ true → u ≡ v
        eqb_is t = eqb-true u v t
    go (inr t) on = rw t (on (less t h))
      where
        less : eqb u v ≡ false → cond (eqb u v) 0 (suc (position u us)) < suc (length us) → position u us < length us
        less t g = let same : cond (eqb u v) 0 (suc (position u us)) ≡ suc (position u us) = rw t in omega (arith, same, g)

pub position_most : (u : ℕ) (us : List ℕ) → position u us ≤ length us
unfolding position
position_most u [] = omega arith
position_most u (v ∷ us) = go (eqb u v) (position_most u us)
  where
    go : (b : Bool) → position u us ≤ length us → cond b 0 (suc (position u us)) ≤ suc (length us)
    go true h = omega arith
    go false h = omega arith

pub source_most : (c : Circuit) (u : ℕ) → source_of c u ≤ length (gate_variables c) + 1
unfolding source_of
source_most c u = go (given c u)
  where
    go : (b : Bool) → cond b 0 (suc (position u (gate_variables c))) ≤ length (gate_variables c) + 1
    go true = omega arith
    go false = omega (arith, position_most u (gate_variables c))

-- ---- the gates of a circuit by number

abbrev pub no_gate : Gate
no_gate = record { lit = 0; left = 0; right = 0 }

unfoldable pub nth_gate : Circuit → ℕ → Gate
nth_gate c k = get_or c.gates k no_gate

module _ (c : Circuit) (once : Once (gate_variables c)) (apart : (g : Gate) → In g c.gates → given c (var g.lit) ≡ false)
    (left right d after : List ℕ) (start : is_done d 0 ≡ true) (only : (k : ℕ) → is_done d k ≡ true → k ≡ 0)
    (left_is : (k : ℕ) → k < length c.gates → get_or left k 0 ≡ source_of c (var (nth_gate c k).left))
    (right_is : (k : ℕ) → k < length c.gates → get_or right k 0 ≡ source_of c (var (nth_gate c k).right))
    (s : Solved left right (length c.gates) d after) where
  count : ℕ
  count = length c.gates

  variables_count : length (gate_variables c) ≡ length c.gates
  unfolding gate_variables
  variables_count = length-map c.gates (λ (g : Gate). var g.lit)

  nth_variable : (k : ℕ) → get_or (gate_variables c) k 0 ≡ var (nth_gate c k).lit
  unfolding gate_variables nth_gate var
  nth_variable k = get_or-map (λ (g : Gate). var g.lit) c.gates k no_gate

  -- the source of a gate's own variable is that gate
  own_source : (k : ℕ) → k < length c.gates → source_of c (var (nth_gate c k).lit) ≡ suc k
  unfolding source_of nth_gate
  own_source k h =
      rw (apart (get_or c.gates k no_gate) (in_nth no_gate c.gates k h))
      (ap suc
      (ap (λ (u : ℕ). position u (gate_variables c)) (sym (nth_variable k))
      ∙ position_nth (gate_variables c) k once (subst (λ (n : ℕ). k < n) (sym variables_count) h)))

  -- ---- what is marked can be worked out

  unfoldable works_at : ℕ → Bool
  works_at zero = true
  works_at (suc k) = ltb k (length c.gates) && gate_works c (nth_gate c k)

  source_out : (u : ℕ) → works_at (source_of c u) ≡ true → worked_out (length c.gates) c u ≡ true
  unfolding source_of works_at gate_works nth_gate
  source_out u h = go (bool_cases (given c u)) h
    where
      by_gate : (k : ℕ) → k ≡ position u (gate_variables c) → (ltb k (length c.gates) && gate_works c (nth_gate c k)) ≡ true
          → worked_out (length c.gates) c u ≡ true
      by_gate k k_is g =
          let inside = ltb-true k (length c.gates) (and_left _ _ g) in
          let works = and_right (ltb k (length c.gates)) (gate_works c (nth_gate c k)) g in
          let member = in_nth no_gate c.gates k inside in
          let is_u =
          sym (nth_variable k) ∙ ap (λ (j : ℕ). get_or (gate_variables c) j 0) k_is
          ∙ nth_position u (gate_variables c) (subst (λ (j : ℕ). j < length (gate_variables c)) k_is (subst (λ (n : ℕ). k < n) (sym variables_count) inside)) in
          rounds_enough c (suc (length c.gates)) u
          (subst (λ (v : ℕ). worked_out (suc (length c.gates)) c v ≡ true) is_u (gate_of_works k inside works))
        where
          gate_of_works : (k : ℕ) → k < length c.gates → gate_works c (nth_gate c k) ≡ true
              → worked_out (suc (length c.gates)) c (var (nth_gate c k).lit) ≡ true
          gate_of_works k inside works =
              gate_out (length c.gates) c (nth_gate c k) (in_nth no_gate c.gates k inside)
              (and_left (worked_out (length c.gates) c (var (nth_gate c k).left)) _ works)
              (and_right (worked_out (length c.gates) c (var (nth_gate c k).left)) (worked_out (length c.gates) c (var (nth_gate c k).right)) works)

      go : (given c u ≡ true) ⊎ (given c u ≡ false) → works_at (cond (given c u) 0 (suc (position u (gate_variables c)))) ≡ true
          → worked_out (length c.gates) c u ≡ true
      go (inl t) g = given_out (length c.gates) c u t
      go (inr t) g = by_gate (position u (gate_variables c)) refl (subst (λ (b : Bool). works_at (cond b 0 (suc (position u (gate_variables c)))) ≡ true) t g)

  carried : Carried left right (length c.gates) works_at
  unfolding works_at gate_works
  carried k h l r =
      and_both (ltb k (length c.gates)) (gate_works c (nth_gate c k)) (lt-ltb k (length c.gates) h)
      (and_both (worked_out (length c.gates) c (var (nth_gate c k).left)) (worked_out (length c.gates) c (var (nth_gate c k).right))
      (source_out (var (nth_gate c k).left) (sym (ap works_at (left_is k h)) ∙ l))
      (source_out (var (nth_gate c k).right) (sym (ap works_at (right_is k h)) ∙ r)))

  marked_works : (k : ℕ) → is_done after (suc k) ≡ true → gate_works c (nth_gate c k) ≡ true
  unfolding works_at
  marked_works k h =
      and_right (ltb k (length c.gates)) (gate_works c (nth_gate c k)) (s.carried works_at carried (λ j g. ap works_at (only j g)) (suc k) h)

  -- ---- what can be worked out is marked

  abbrev K : ℕ → Bool
  K u = is_done after (source_of c u)

  closed : (g : Gate) → In g c.gates → K (var g.left) ≡ true → K (var g.right) ≡ true → K (var g.lit) ≡ true
  unfolding nth_gate ready
  closed g i l r =
      let found = nth_in no_gate g c.gates i in
      let k = found.0 in
      let h = found.1 in
      let is = found.2 in
      let lk = subst (λ (a : Gate). is_done after (source_of c (var a.left)) ≡ true) is l in
      let rk = subst (λ (a : Gate). is_done after (source_of c (var a.right)) ≡ true) is r in
      let done = by_ready (is_done after (suc k)) (is_done after (get_or left k 0)) (is_done after (get_or right k 0))
      (ap (is_done after) (left_is k h) ∙ lk) (ap (is_done after) (right_is k h) ∙ rk) (s.still k h) in
      ap (λ (a : Gate). is_done after (source_of c (var a.lit))) is ∙ ap (is_done after) (own_source k h) ∙ done
    where
      by_ready : (b l r : Bool) → l ≡ true → r ≡ true → (not b && (l && r)) ≡ false → b ≡ true
      by_ready true l r e f g = refl
      by_ready false true true e f g = absurd (true≢false g)
      by_ready false true false e f g = absurd (true≢false (sym f))
      by_ready false false r e f g = absurd (true≢false (sym e))

  out_marked : (u : ℕ) → worked_out (length c.gates) c u ≡ true → K u ≡ true
  unfolding source_of
  out_marked u h =
      closed_contains c K (λ v g. ap (is_done after) (rw g) ∙ s.keeps 0 start) closed (length c.gates) u h

  works_marked : (k : ℕ) → k < length c.gates → gate_works c (nth_gate c k) ≡ true → is_done after (suc k) ≡ true
  unfolding gate_works nth_gate
  works_marked k h w =
      let l = out_marked (var (nth_gate c k).left) (and_left _ _ w) in
      let r = out_marked (var (nth_gate c k).right) (and_right (worked_out (length c.gates) c (var (nth_gate c k).left)) _ w) in
      ap (is_done after) (sym (own_source k h)) ∙ closed (nth_gate c k) (in_nth no_gate c.gates k h) l r

  pub works_is : (k : ℕ) → k < length c.gates → is_done after (suc k) ≡ gate_works c (nth_gate c k)
  works_is k h = go (bool_cases (gate_works c (nth_gate c k)))
    where
      go : (gate_works c (nth_gate c k) ≡ true) ⊎ (gate_works c (nth_gate c k) ≡ false) → is_done after (suc k) ≡ gate_works c (nth_gate c k)
      go (inl t) = works_marked k h t ∙ sym t
      go (inr t) = not_true_is_false (λ e. true≢false (sym (marked_works k e) ∙ t)) ∙ sym t

-- An answer within a budget: the two tries of rule (d), with what is left after the first.
use Prim.Native.Nat.{ℕ, ◌+◌, ◌-◌, ◌^◌, ◌≤◌, ◌<◌}
use native.Mathlib.Omega.{arith}
use mathlib.Core.Path.{◌≡◌, refl, sym, ap, ◌∙◌, subst}
use mathlib.Core.Logic.{◌⊎◌, inl, inr}
use mathlib.Core.Bool.{Bool, true, false, true≢false}
use lib.Dec.{ltb}
use borrow.Author.Tests.{lt-ltb, le-ltb, ltb-true, ltb-false}
use Rattle.meaning.specs.Clauses.{Literal, negation}
use Rattle.meaning.specs.Search.{Setting, with_literal, Ending, can, cannot, lost, after, then_false}
use Rattle.meaning.specs.Rules.{Answer, answer, counted_on}
use Rattle.std.specs.Prelude.{Ok, Err}
use Rattle.search.specs.declared.Answer.{Answer as Held}
use Rattle.search.specs.declared.Answer.TheVariants.{No}
use Rattle.search.specs.declared.Spent.{Spent}
use Rattle.search.specs.Forms.{Found, yes_or_no, spent_if, bounded, more, later, Counts}

-- an answer and spent
pub ok_is : {f g : Held} → ◌≡◌ {A = Found} (Ok f) (Ok g) → f ≡ g
ok_is e = cc

pub ok_not_err : {f : Held} {s : Spent} → ◌≡◌ {A = Found} (Ok f) (Err s) → ⊥
ok_not_err e = cc

within_or_over : (left n : ℕ) → (left < n) ⊎ (n ≤ left)
within_or_over left n = go (ltb left n) refl
  where
    go : (b : Bool) → ltb left n ≡ b → (left < n) ⊎ (n ≤ left)
    go true e = inl (ltb-true left n e)
    go false e = inr (ltb-false left n e)

pub over : (left : ℕ) (a : Answer) → left < a.count → bounded left a ≡ Err (record {})
unfolding bounded spent_if
over left a h = ap (λ (b : Bool). spent_if b a) (lt-ltb left a.count h)

pub under : (left : ℕ) (a : Answer) → a.count ≤ left → bounded left a ≡ Ok (yes_or_no a.sat a.count)
unfolding bounded spent_if
under left a h = ap (λ (b : Bool). spent_if b a) (le-ltb left a.count h)

-- decisions that were used go off the budget
bounded_later : (d left : ℕ) (a : Answer) → d ≤ left → bounded left (counted_on d a) ≡ later d (bounded (left - d) a)
unfolding counted_on yes_or_no
bounded_later d left a h = go (within_or_over (left - d) a.count)
  where
    said : (b : Bool) (n : ℕ) → yes_or_no b (d + n) ≡ more d (yes_or_no b n)
    said true n = refl
    said false n = refl

    go : (left - d < a.count) ⊎ (a.count ≤ left - d) → bounded left (counted_on d a) ≡ later d (bounded (left - d) a)
    go (inl i) = over left (counted_on d a) (omega arith) ∙ ap (later d) (sym (over (left - d) a i))
    go (inr i) = under left (counted_on d a) (omega arith) ∙ ap Ok (said a.sat a.count) ∙ ap (later d) (sym (under (left - d) a i))

-- what an answer within a budget tells

no_told : (left : ℕ) (a : Answer) (d : ℕ) → Ok (No d) ≡ bounded left a → (a.sat ≡ false) × (a.count ≡ d) × (d ≤ left)
unfolding yes_or_no
no_told left a d e = go (within_or_over left a.count)
  where
    said : (b : Bool) (n : ℕ) → No d ≡ yes_or_no b n → (b ≡ false) × (n ≡ d)
    said true n h = absurd (let z : ◌≡◌ {A = ℕ} 0 1 = cc in omega arith)
    said false n h = (refl, cc)

    go : (left < a.count) ⊎ (a.count ≤ left) → (a.sat ≡ false) × (a.count ≡ d) × (d ≤ left)
    go (inl h) = absurd (ok_not_err (e ∙ over left a h))
    go (inr h) =
        let t = said a.sat a.count (ok_is (e ∙ under left a h)) in
        (t.0, t.1, omega (arith, t.1))

pub bounded_counts : (left : ℕ) (a : Answer) (d : ℕ) (f : Held) → Ok f ≡ bounded left a → d + left < 2 ^ 64 → Counts d f
unfolding yes_or_no
bounded_counts left a d f e h = go (within_or_over left a.count)
  where
    said : (b : Bool) (n : ℕ) → n ≤ left → Counts d (yes_or_no b n)
    said true n i = omega arith
    said false n i = omega arith

    go : (left < a.count) ⊎ (a.count ≤ left) → Counts d f
    go (inl i) = absurd (ok_not_err (e ∙ over left a i))
    go (inr i) = subst (Counts d) (sym (ok_is (e ∙ under left a i))) (said a.sat a.count i)

after_answer : (d : ℕ) (r : Ending) → (r ≡ lost → ⊥) → answer (after d r) ≡ counted_on d (answer r)
unfolding answer after counted_on
after_answer d (can v e) f = refl
after_answer d (cannot e) f = refl
after_answer d lost f = absurd (f refl)

-- Rule (d) within a budget: the first try has ended in r, and the second, where it is made, ends in s
module _ (again : Setting → Ending) (v : Setting) (l : Literal) (r : Ending) (found : r ≡ lost → ⊥)
    (other : again (with_literal v (negation l)) ≡ lost → ⊥)
  where
    abbrev s : Ending
    s = again (with_literal v (negation l))

    -- a first try that is satisfiable ends it
    first_can : (w : Setting) (d : ℕ) → r ≡ can w d → answer (then_false again v l r) ≡ counted_on 1 (answer r)
    unfolding answer then_false counted_on
    first_can w d e = rw e

    first_cannot : (d : ℕ) → r ≡ cannot d → answer (then_false again v l r) ≡ counted_on (2 + d) (answer s)
    unfolding then_false
    first_cannot d e = ap (λ (x : Ending). answer (then_false again v l x)) e ∙ after_answer (2 + d) s other

    either : ((w : Setting) × (d : ℕ) × (r ≡ can w d)) ⊎ ((d : ℕ) × (r ≡ cannot d))
    either = go r refl
      where
        go : (x : Ending) → r ≡ x → ((w : Setting) × (d : ℕ) × (r ≡ can w d)) ⊎ ((d : ℕ) × (r ≡ cannot d))
        go (can w d) e = inl (w, d, e)
        go (cannot d) e = inr (d, e)
        go lost e = absurd (found e)

    -- the first try is wanted when nothing is left
    pub none_left : (left : ℕ) → left ≡ 0 → Err (record {}) ≡ bounded left (answer (then_false again v l r))
    unfolding counted_on
    none_left left z = sym (go either)
      where
        go : ((w : Setting) × (d : ℕ) × (r ≡ can w d)) ⊎ ((d : ℕ) × (r ≡ cannot d)) → bounded left (answer (then_false again v l r)) ≡ Err (record {})
        go (inl (w, d, e)) = ap (bounded left) (first_can w d e) ∙ over left (counted_on 1 (answer r)) (omega arith)
        go (inr (d, e)) = ap (bounded left) (first_cannot d e) ∙ over left (counted_on (2 + d) (answer s)) (omega arith)

    -- the first try is not unsatisfiable within what is left: the answer is its own, and one decision more
    pub first_ends : (left : ℕ) (f : Found) → 0 < left → f ≡ bounded (left - 1) (answer r) → ((d : ℕ) → f ≡ Ok (No d) → ⊥)
        → later 1 f ≡ bounded left (answer (then_false again v l r))
    unfolding counted_on answer yes_or_no
    first_ends left f h e not_no = go either
      where
        go : ((w : Setting) × (d : ℕ) × (r ≡ can w d)) ⊎ ((d : ℕ) × (r ≡ cannot d)) → later 1 f ≡ bounded left (answer (then_false again v l r))
        go (inl (w, d, x)) =
            ap (later 1) e ∙ sym (bounded_later 1 left (answer r) h) ∙ ap (bounded left) (sym (first_can w d x))
        go (inr (d, x)) = by_count (within_or_over (left - 1) d)
          where
            same : f ≡ bounded (left - 1) (answer (cannot d))
            same = e ∙ ap (λ (y : Ending). bounded (left - 1) (answer y)) x

            by_count : (left - 1 < d) ⊎ (d ≤ left - 1) → later 1 f ≡ bounded left (answer (then_false again v l r))
            by_count (inl i) =
                ap (later 1) (same ∙ over (left - 1) (answer (cannot d)) i)
                ∙ sym (ap (bounded left) (first_cannot d x) ∙ over left (counted_on (2 + d) (answer s)) (omega arith))
            by_count (inr i) = absurd (not_no d (same ∙ under (left - 1) (answer (cannot d)) i))

    no_first : (left used : ℕ) (f : Found) → f ≡ bounded (left - 1) (answer r) → f ≡ Ok (No used)
        → (answer (then_false again v l r) ≡ counted_on (2 + used) (answer s)) × (used ≤ left - 1)
    unfolding answer
    no_first left used f e n =
        let t = no_told (left - 1) (answer r) used (sym n ∙ e) in
        (go either t.0 t.1, t.2)
      where
        go : ((w : Setting) × (d : ℕ) × (r ≡ can w d)) ⊎ ((d : ℕ) × (r ≡ cannot d)) → (answer r).sat ≡ false → (answer r).count ≡ used
            → answer (then_false again v l r) ≡ counted_on (2 + used) (answer s)
        go (inl (w, d, x)) a b = absurd (true≢false (sym (ap (λ (y : Ending). (answer y).sat) x) ∙ a))
        go (inr (d, x)) a b =
            first_cannot d x
            ∙ ap (λ (k : ℕ). counted_on (2 + k) (answer s)) (sym (ap (λ (y : Ending). (answer y).count) x) ∙ b)

    -- the first try used up what was left: the second is wanted
    pub second_wanted : (left used : ℕ) (f : Found) → 0 < left → f ≡ bounded (left - 1) (answer r) → f ≡ Ok (No used) → left - 1 ≡ used
        → Err (record {}) ≡ bounded left (answer (then_false again v l r))
    unfolding counted_on
    second_wanted left used f h e n all =
        let t = no_first left used f e n in
        sym (ap (bounded left) t.0 ∙ over left (counted_on (2 + used) (answer s)) (omega arith))

    pub second_room : (left used : ℕ) (f : Found) → 0 < left → f ≡ bounded (left - 1) (answer r) → f ≡ Ok (No used) → (left - 1 ≡ used → ⊥)
        → 2 + used ≤ left
    second_room left used f h e n some = let t = no_first left used f e n in omega (arith, t.1)

    -- both tries are made
    pub second_ends : (left used : ℕ) (f g : Found) → 2 + used ≤ left → f ≡ bounded (left - 1) (answer r) → f ≡ Ok (No used)
        → g ≡ bounded (left - 2 - used) (answer s) → later (used + 2) g ≡ bounded left (answer (then_false again v l r))
    second_ends left used f g h e n i =
        let t = no_first left used f e n in
        ap (λ (k : ℕ). later k g) (omega arith)
        ∙ ap (later (2 + used)) (i ∙ ap (λ (k : ℕ). bounded k (answer s)) (omega arith))
        ∙ sym (ap (bounded left) t.0 ∙ bounded_later (2 + used) left (answer s) h)

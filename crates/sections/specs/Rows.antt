-- One line of a section: its numbers one after another, and what is defined before it.
use Rattle.std.specs.Prelude.{ℕ, zero, suc, ◌+◌, ◌*◌, ◌%◌, ◌≤◌, ◌<◌, ◌≡◌, refl, ◌⊎◌, Bool, true, false, not, ◌||◌, List, [], ◌∷◌, ◌++◌, length, eqb}
use Rattle.std.proofs.Common.{arith, subst, ◌∙◌, inl, inr}
use Rattle.std.proofs.Math.Path.{sym, ap}
use Rattle.std.proofs.Math.Dec.{leb}
use borrow.Author.Tests.{eqb-true, le-leb, lt-leb, leb-true, leb-false}
use Rattle.meaning.specs.Clauses.{any}
use Rattle.meaning.specs.File.{between}
use Rattle.meaning.specs.Lines.{line_at, ended, of_numbers}
use Rattle.meaning.specs.Circuit.{var}
use Rattle.meaning.specs.Built.{among}
use Rattle.meaning.specs.CircuitText
use Rattle.meaning.specs.CircuitText.{numbers_at, used_right, defined_right, literals_right, line_right}
use Rattle.laws.specs.Basics.{bool_cases}
use Rattle.lines.specs.declared.number.Number.{Number}
use Rattle.lines.specs.Digits.{huge, capped}
use Rattle.lines.specs.Numbers.{worth}
use Rattle.sections.specs.declared.line.Form.{Form}
use Rattle.sections.specs.declared.line.Before.{Before}
use Rattle.sections.specs.Lists.{variables_of, Placed}

-- the form, as the definition has it
unfoldable pub form_of : Form → CircuitText.Form
form_of f = record { width = f.width; defines = f.defines; starts = f.starts; counts = f.counts }

-- the variables defined before
unfoldable pub before_of : List ℕ → Before → List ℕ
before_of text b = variables_of text b.inputs ++ (variables_of text b.latches ++ variables_of text b.own)

pub record BeforePlaced (text : List ℕ) (b : Before) : Type 0 where
  pub inputs : Placed text b.inputs
  pub latches : Placed text b.latches
  pub own : Placed text b.own

-- so many numbers after one that ends at a place
unfoldable pub numbers_after : List ℕ → ℕ → ℕ → List ℕ
numbers_after text end zero = []
numbers_after text end (suc left) = numbers_at text (end + 1)

-- and they stand there
abbrev pub Rest : List ℕ → ℕ → ℕ → Type 0
Rest text end zero = Unit {0}
Rest text end (suc left) =
    (end < length text) × (ended text (end + 1) ≡ true) × (of_numbers (suc left) (line_at text (end + 1)) ≡ true)

pub among_append : (u : ℕ) (us vs : List ℕ) → among u (us ++ vs) ≡ (among u us || among u vs)
unfolding among any
among_append u [] vs = refl
among_append u (v ∷ us) vs = go (eqb u v) (among_append u us vs)
  where
    go : (b : Bool) → any (eqb u) (us ++ vs) ≡ (any (eqb u) us || any (eqb u) vs)
        → (b || any (eqb u) (us ++ vs)) ≡ ((b || any (eqb u) us) || any (eqb u) vs)
    go true e = refl
    go false e = e

-- ---- what is seen before

module _ (text : List ℕ) (b : Before) (u : ℕ) where
  seen_is : among u (before_of text b)
      ≡ (among u (variables_of text b.inputs) || (among u (variables_of text b.latches) || among u (variables_of text b.own)))
  unfolding before_of
  seen_is =
      among_append u (variables_of text b.inputs) (variables_of text b.latches ++ variables_of text b.own)
      ∙ ap (λ (t : Bool). among u (variables_of text b.inputs) || t)
      (among_append u (variables_of text b.latches) (variables_of text b.own))

  pub seen_first : among u (variables_of text b.inputs) ≡ true → true ≡ among u (before_of text b)
  seen_first h = sym (seen_is ∙ rw h)

  pub seen_second : among u (variables_of text b.inputs) ≡ false → among u (variables_of text b.latches) ≡ true
      → true ≡ among u (before_of text b)
  seen_second h g = sym (seen_is ∙ rw (h, g))

  pub seen_third : among u (variables_of text b.inputs) ≡ false → among u (variables_of text b.latches) ≡ false → (r : Bool)
      → r ≡ among u (variables_of text b.own) → r ≡ among u (before_of text b)
  seen_third h g r is = is ∙ sym (seen_is ∙ rw (h, g))

-- ---- a literal that is defined

module _ (judged : Bool) (m : ℕ) (before : List ℕ) (l : ℕ) where
  pub odd_not : eqb (l % 2) 0 ≡ false → false ≡ defined_right judged m before l
  unfolding defined_right
  odd_not h = sym (rw h)

  module _ (even : eqb (l % 2) 0 ≡ true) where
    pub small_not : l < 2 → false ≡ defined_right judged m before l
    unfolding defined_right between
    small_not h = sym (rw (even, lt-leb 2 l h))

    module _ (least : 2 ≤ l) where
      same_range : leb l (2 * m) ≡ used_right m l
      unfolding used_right
      same_range = go (bool_cases (leb l (2 * m)))
        where
          go : (leb l (2 * m) ≡ true) ⊎ (leb l (2 * m) ≡ false) → leb l (2 * m) ≡ leb l (2 * m + 1)
          go (inl t) = t ∙ sym (le-leb l (2 * m + 1) (omega (arith, leb-true l (2 * m) t)))
          go (inr t) =
              t ∙ sym (lt-leb l (2 * m + 1) (omega (arith, leb-false l (2 * m) t, eqb-true (l % 2) 0 even)))

      pub wide_not : used_right m l ≡ false → false ≡ defined_right judged m before l
      unfolding defined_right between
      wide_not h = sym (rw (even, le-leb 2 l least, same_range ∙ h))

      module _ (range : used_right m l ≡ true) where
        pub not_judged : judged ≡ false → true ≡ defined_right judged m before l
        unfolding defined_right between
        not_judged j = sym (rw (even, le-leb 2 l least, same_range ∙ range, j))

        pub judged_new : judged ≡ true → (r : Bool) → r ≡ among (var l) before → not r ≡ defined_right judged m before l
        unfolding defined_right between
        judged_new j r is = sym (rw (even, le-leb 2 l least, same_range ∙ range, j, sym is))

-- the capped value tells whether a number is below 2
pub value_small : (x : Number) → x.value < 2 → worth x < 2
unfolding capped worth
value_small x less = go (bool_cases (leb huge (worth x))) (subst (λ (v : ℕ). v < 2) x.valued less)
  where
    go : (leb huge (worth x) ≡ true) ⊎ (leb huge (worth x) ≡ false) → capped (worth x) < 2 → worth x < 2
    go (inl t) small = absurd (omega (arith, small, t_is t))
      where
        t_is : leb huge (worth x) ≡ true → capped (worth x) ≡ huge
        t_is t = rw t
    go (inr t) small = subst (λ (v : ℕ). v < 2) (rw t) small

pub value_least : (x : Number) → 2 ≤ x.value → 2 ≤ worth x
unfolding capped worth
value_least x least = go (bool_cases (leb huge (worth x))) (subst (λ (v : ℕ). 2 ≤ v) x.valued least)
  where
    go : (leb huge (worth x) ≡ true) ⊎ (leb huge (worth x) ≡ false) → 2 ≤ capped (worth x) → 2 ≤ worth x
    go (inl t) large = omega (arith, leb-true huge (worth x) t)
    go (inr t) large = subst (λ (v : ℕ). 2 ≤ v) (rw t) large

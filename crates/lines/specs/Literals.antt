-- Literals of a circuit as numbers of a text: their range, and whether two have the same variable.
use Rattle.std.specs.Prelude.{ℕ, suc, ◌+◌, ◌-◌, ◌*◌, ◌/◌, ◌%◌, ◌≤◌, ◌<◌, ◌≡◌, refl, ◌⊎◌, Bool, true, false, cond, List, [], ◌∷◌, ◌++◌, length, get_or, take, leb, eqb}
use Rattle.std.proofs.Common.{arith, sym, subst, ◌∙◌, inl, inr}
use Rattle.std.proofs.Math.Path.{ap}
use Rattle.std.proofs.Math.Seq.{take-suc, take-length}
use borrow.Author.Tests.{le-leb, lt-leb, eq-eqb, ne_eqb, leb-true, leb-false, eqb-true, eqb-false}
use Rattle.meaning.specs.Clauses.{all}
use Rattle.meaning.specs.File.{between}
use Rattle.meaning.specs.Lines.{is_digit, decimal, decimal_on}
use Rattle.meaning.specs.Circuit.{var}
use Rattle.meaning.specs.CircuitText.{used_right}
use Rattle.laws.specs.Basics.{bool_cases, and_left}
use Rattle.lines.specs.declared.number.Number.{Number}
use Rattle.lines.specs.Digits.{huge, capped, decimal_more}
use Rattle.lines.specs.Numbers.{worth}
use Rattle.std.specs.declared.cmp.Ordering.{Ordering}
use Rattle.std.specs.Ordering.{is_eq, is_ge}
use Rattle.lines.specs.Tails.{at_digit}
use Rattle.lines.specs.Order.{order, order_less, order_same, order_more, order_cases}

-- ---- what a capped value says

pub capped_below : (v : ℕ) → capped v < huge → capped v ≡ v
unfolding capped
capped_below v h = go (leb huge v) refl h
  where
    go : (b : Bool) → leb huge v ≡ b → cond b huge v < huge → cond b huge v ≡ v
    go true t less = absurd (omega arith)
    go false t less = refl

pub capped_huge : (v : ℕ) → huge ≤ capped v → huge ≤ v
unfolding capped
capped_huge v h = go (leb huge v) refl h
  where
    go : (b : Bool) → leb huge v ≡ b → huge ≤ cond b huge v → huge ≤ v
    go true t most = leb-true huge v t
    go false t most = most

-- below the bound the value is the number
module _ (x : Number) where
  pub value_below : x.value < huge → x.value ≡ worth x
  unfolding worth
  value_below less = x.valued ∙ capped_below (worth x) (subst (λ (v : ℕ). v < huge) x.valued less)

  pub value_huge : huge ≤ x.value → huge ≤ worth x
  unfolding worth
  value_huge most = capped_huge (worth x) (subst (λ (v : ℕ). huge ≤ v) x.valued most)

  -- a number over the bound has digits
  pub huge_some : huge ≤ x.value → 0 < length x.digits.now
  unfolding worth decimal decimal_on
  huge_some most = go x.digits.now refl
    where
      go : (w : List ℕ) → x.digits.now ≡ w → 0 < length w
      go [] none = absurd (omega (arith, value_huge most, ap decimal none))
      go (b ∷ w) some = omega arith

-- a number with no digits is worth 0
pub nothing_worth : (x : Number) → x.digits.now ≡ [] → worth x ≡ 0
unfolding worth decimal decimal_on
nothing_worth x none = rw none

-- ---- a literal that is used: 0 to 2M+1

pub used_small : (m l v : ℕ) → capped m ≡ v → l < huge → leb (l / 2) v ≡ used_right m l
unfolding used_right capped
used_small m l v is small = go (bool_cases (leb huge m))
  where
    by_order : (leb (l / 2) v ≡ true) ⊎ (leb (l / 2) v ≡ false) → v ≡ m → leb (l / 2) v ≡ leb l (2 * m + 1)
    by_order (inl t) v_is = t ∙ sym (le-leb l (2 * m + 1) (omega (arith, leb-true (l / 2) v t, v_is)))
    by_order (inr t) v_is = t ∙ sym (lt-leb l (2 * m + 1) (omega (arith, leb-false (l / 2) v t, v_is)))

    go : (leb huge m ≡ true) ⊎ (leb huge m ≡ false) → leb (l / 2) v ≡ leb l (2 * m + 1)
    go (inl t) =
        let far = leb-true huge m t in
        let v_is : v ≡ huge = sym is ∙ rw t in
        le-leb (l / 2) v (omega (arith, v_is)) ∙ sym (le-leb l (2 * m + 1) (omega arith))
    go (inr t) =
        let v_is : v ≡ m = sym is ∙ rw t in
        by_order (bool_cases (leb (l / 2) v)) v_is

-- by the order of 2M+1 and the literal
pub used_order : (m l none : ℕ) → none ≡ 0 → is_ge (order (m + m + none + 1) l) ≡ used_right m l
unfolding used_right
used_order m l none zero_none = go (order_cases (m + m + none + 1) l)
  where
    go : (m + m + none + 1 < l) ⊎ ((m + m + none + 1 ≡ l) ⊎ (l < m + m + none + 1))
        → is_ge (order (m + m + none + 1) l) ≡ leb l (2 * m + 1)
    go (inl h) = ap is_ge (order_less _ l h) ∙ sym (lt-leb l (2 * m + 1) (omega (arith, zero_none, h)))
    go (inr (inl h)) = ap is_ge (order_same _ l h) ∙ sym (le-leb l (2 * m + 1) (omega (arith, zero_none, h)))
    go (inr (inr h)) = ap is_ge (order_more _ l h) ∙ sym (le-leb l (2 * m + 1) (omega (arith, zero_none, h)))

-- ---- odd and even: the last digit says it

-- a digit's byte is that of 0 at the least
pub digit_least : (b : ℕ) → is_digit b ≡ true → 48 ≤ b
unfolding is_digit between
digit_least b h = leb-true 48 b (and_left (leb 48 b) (leb b 57) h)

pub last_digit : (w : List ℕ) → all is_digit w ≡ true → 0 < length w → decimal w % 2 ≡ get_or w (length w - 1) 0 % 2
unfolding decimal
last_digit w digits some =
    let e = length w - 1 in
    let up : length w ≡ suc e = omega arith in
    let inside : e < length w = omega arith in
    let b = get_or w e 0 in
    let more : w ≡ take e w ++ (b ∷ []) = sym (take-length w) ∙ ap (λ (k : ℕ). take k w) up ∙ take-suc w e 0 inside in
    let value = ap (decimal_on 0) more ∙ decimal_more 0 (take e w) b in
    omega (arith, value, digit_least b (at_digit w e digits inside))

-- ---- the same variable

-- two numbers are equal exactly if their order is
pub is_eq_order : (a b : ℕ) → is_eq (order a b) ≡ eqb a b
is_eq_order a b = go (order_cases a b)
  where
    go : (a < b) ⊎ ((a ≡ b) ⊎ (b < a)) → is_eq (order a b) ≡ eqb a b
    go (inl h) = ap is_eq (order_less a b h) ∙ sym (ne_eqb a b (λ e. omega (arith, e, h)))
    go (inr (inl h)) = ap is_eq (order_same a b h) ∙ sym (eq-eqb a b h)
    go (inr (inr h)) = ap is_eq (order_more a b h) ∙ sym (ne_eqb a b (λ e. omega (arith, e, h)))

-- a number and so much more is another, by their order
pub sum_order : (a n k carry b : ℕ) (r : Ordering) → n ≡ 0 → k ≡ 0 → r ≡ order (a + n + k + carry) b → is_eq r ≡ eqb (a + carry) b
sum_order a n k carry b r n_none k_none is =
    let same : a + n + k + carry ≡ a + carry = omega arith in
    ap is_eq (is ∙ ap (λ (j : ℕ). order j b) same) ∙ is_eq_order (a + carry) b

pub same_small : (a b : ℕ) → eqb (a / 2) (b / 2) ≡ eqb (var a) (var b)
unfolding var
same_small a b = refl

pub not_same_far : (a b : ℕ) → a < huge → huge ≤ b → eqb (var a) (var b) ≡ false
unfolding var
not_same_far a b near far = ne_eqb (a / 2) (b / 2) (λ e. omega (arith, e))

pub same_sym : (a b : ℕ) → eqb (var a) (var b) ≡ eqb (var b) (var a)
unfolding var
same_sym a b = go (bool_cases (eqb (a / 2) (b / 2)))
  where
    go : (eqb (a / 2) (b / 2) ≡ true) ⊎ (eqb (a / 2) (b / 2) ≡ false) → eqb (a / 2) (b / 2) ≡ eqb (b / 2) (a / 2)
    go (inl t) = t ∙ sym (eq-eqb (b / 2) (a / 2) (sym (eqb-true (a / 2) (b / 2) t)))
    go (inr t) = t ∙ sym (ne_eqb (b / 2) (a / 2) (λ e. eqb-false (a / 2) (b / 2) t (sym e)))

-- both far: equal, or one is the other's even neighbour
pub same_if_equal : (a b : ℕ) → eqb (a + 0) b ≡ true → eqb (var a) (var b) ≡ true
unfolding var
same_if_equal a b is = eq-eqb (a / 2) (b / 2) (omega (arith, eqb-true (a + 0) b is))

pub even_same : (a b : ℕ) → a % 2 ≡ 0 → eqb (a + 0) b ≡ false → eqb (a + 1) b ≡ eqb (var a) (var b)
unfolding var
even_same a b even other = go (bool_cases (eqb (a + 1) b))
  where
    go : (eqb (a + 1) b ≡ true) ⊎ (eqb (a + 1) b ≡ false) → eqb (a + 1) b ≡ eqb (a / 2) (b / 2)
    go (inl t) = t ∙ sym (eq-eqb (a / 2) (b / 2) (omega (arith, eqb-true (a + 1) b t)))
    go (inr t) = t ∙ sym (ne_eqb (a / 2) (b / 2) (neither (eqb-false (a + 0) b other) (eqb-false (a + 1) b t)))
      where
        neither : (a + 0 ≡ b → ⊥) → (a + 1 ≡ b → ⊥) → a / 2 ≡ b / 2 → ⊥
        neither f g e = omega arith

-- two odd numbers that differ
pub odd_same : (a b : ℕ) → (a % 2 ≡ 0 → ⊥) → (b % 2 ≡ 0 → ⊥) → eqb (a + 0) b ≡ false → eqb (var a) (var b) ≡ false
unfolding var
odd_same a b odd_a odd_b other = ne_eqb (a / 2) (b / 2) (neither (eqb-false (a + 0) b other))
  where
    neither : (a + 0 ≡ b → ⊥) → a / 2 ≡ b / 2 → ⊥
    neither f e = omega arith

-- ---- the same, of numbers as they are kept

module _ (a b : Number) where
  pub used_quick : b.value < huge → leb (b.value / 2) a.value ≡ used_right (worth a) (worth b)
  unfolding worth
  used_quick less =
      let is = value_below b less in
      ap (λ (v : ℕ). leb (v / 2) a.value) is
      ∙ used_small (worth a) (worth b) a.value (sym a.valued) (subst (λ (v : ℕ). v < huge) is less)

  pub used_far : (n : ℕ) (r : Ordering) → n ≡ 0 → r ≡ order (worth a + worth a + n + 1) (worth b) → is_ge r ≡ used_right (worth a) (worth b)
  used_far n r none is = ap is_ge is ∙ used_order (worth a) (worth b) n none

  pub same_quick : a.value < huge → b.value < huge → eqb (a.value / 2) (b.value / 2) ≡ eqb (var (worth a)) (var (worth b))
  unfolding var
  same_quick la lb = cc (value_below a la, value_below b lb)

  pub same_not : a.value < huge → huge ≤ b.value → eqb (var (worth a)) (var (worth b)) ≡ false
  same_not la lb =
      not_same_far (worth a) (worth b) (subst (λ (v : ℕ). v < huge) (value_below a la) la) (value_huge b lb)

  -- equal, or not
  module _ (r : Bool) (is : r ≡ eqb (worth a + 0) (worth b)) where
    pub far_equal : r ≡ true → eqb (var (worth a)) (var (worth b)) ≡ true
    far_equal one = same_if_equal (worth a) (worth b) (sym is ∙ one)

    module _ (other : r ≡ false) where
      pub far_even : eqb (worth a % 2) 0 ≡ true → (q : Bool) → q ≡ eqb (worth a + 1) (worth b)
          → q ≡ eqb (var (worth a)) (var (worth b))
      far_even even q q_is =
          q_is ∙ even_same (worth a) (worth b) (eqb-true (worth a % 2) 0 even) (sym is ∙ other)

      pub far_odd : eqb (worth a % 2) 0 ≡ false → eqb (worth b % 2) 0 ≡ false
          → eqb (var (worth a)) (var (worth b)) ≡ false
      far_odd odd_a odd_b =
          odd_same (worth a) (worth b) (eqb-false (worth a % 2) 0 odd_a) (eqb-false (worth b % 2) 0 odd_b)
          (sym is ∙ other)

      pub far_even_other : eqb (worth b % 2) 0 ≡ true → (q : Bool) → q ≡ eqb (worth b + 1) (worth a)
          → q ≡ eqb (var (worth a)) (var (worth b))
      far_even_other even_b q q_is =
          q_is
          ∙ even_same (worth b) (worth a) (eqb-true (worth b % 2) 0 even_b)
          (ne_eqb (worth b + 0) (worth a)
          (λ e. eqb-false (worth a + 0) (worth b) (sym is ∙ other) (omega (arith, e))))
          ∙ same_sym (worth b) (worth a)

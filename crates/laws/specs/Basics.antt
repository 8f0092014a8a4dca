-- Truth values, and tests over lists: what the other files lean on.
use Rattle.std.specs.Prelude.{ℕ, suc, ◌≡◌, ◌⊎◌, Bool, not, ◌&&◌, ◌||◌}
use Rattle.std.proofs.Common.{arith, sym, ◌∙◌, inl, inr, true≢false}
use Rattle.std.proofs.Math.Path.{refl, ap}
use Rattle.std.proofs.Math.Bool.{true, false}
use mathlib.Core.List.{List, [], ◌∷◌, ◌++◌}
use Rattle.meaning.specs.Clauses.{any, all}
use Rattle.meaning.specs.Demands.{In}

pub nonzero : (n : ℕ) → suc n ≡ 0 → ⊥
nonzero n e = omega arith

pub bool_cases : (b : Bool) → (b ≡ true) ⊎ (b ≡ false)
bool_cases true = inl refl
bool_cases false = inr refl

pub not_both : {b : Bool} → b ≡ true → b ≡ false → ⊥
not_both p q = true≢false (sym p ∙ q)

pub not_true_is_false : {b : Bool} → (b ≡ true → ⊥) → b ≡ false
not_true_is_false {b} h = go b h
  where
    go : (c : Bool) → (c ≡ true → ⊥) → c ≡ false
    go true f = absurd (f refl)
    go false f = refl

pub and_left : (a b : Bool) → (a && b) ≡ true → a ≡ true
and_left true b h = refl
and_left false b h = h

pub and_right : (a b : Bool) → (a && b) ≡ true → b ≡ true
and_right true b h = h
and_right false b h = absurd (true≢false (sym h))

pub and_both : (a b : Bool) → a ≡ true → b ≡ true → (a && b) ≡ true
and_both true b p q = q
and_both false b p q = p

pub or_cases : (a b : Bool) → (a || b) ≡ true → (a ≡ true) ⊎ (b ≡ true)
or_cases true b h = inl refl
or_cases false b h = inr h

pub or_left : (a b : Bool) → a ≡ true → (a || b) ≡ true
or_left true b p = refl
or_left false b p = absurd (true≢false (sym p))

pub or_right : (a b : Bool) → b ≡ true → (a || b) ≡ true
or_right true b p = refl
or_right false b p = p

pub or_right_of : (a b : Bool) → a ≡ false → (a || b) ≡ true → b ≡ true
or_right_of true b e h = absurd (true≢false e)
or_right_of false b e h = h

pub not_of_true : {b : Bool} → b ≡ true → not b ≡ false
not_of_true p = ap not p

pub not_of_false : {b : Bool} → b ≡ false → not b ≡ true
not_of_false p = ap not p

pub true_of_not : (b : Bool) → not b ≡ false → b ≡ true
true_of_not true h = refl
true_of_not false h = sym h

pub false_of_not : (b : Bool) → not b ≡ true → b ≡ false
false_of_not true h = sym h
false_of_not false h = refl

module _ {A : Type 0} where
  pub in_append_left : (a : A) (xs ys : List A) → In a xs → In a (xs ++ ys)
  in_append_left a [] ys x' = elim x' [ ]
  in_append_left a (x ∷ xs) ys (inl e) = inl e
  in_append_left a (x ∷ xs) ys (inr h) = inr (in_append_left a xs ys h)

  pub in_append_right : (a : A) (xs ys : List A) → In a ys → In a (xs ++ ys)
  in_append_right a [] ys h = h
  in_append_right a (x ∷ xs) ys h = inr (in_append_right a xs ys h)

  pub in_append_cases : (a : A) (xs ys : List A) → In a (xs ++ ys) → In a xs ⊎ In a ys
  in_append_cases a [] ys h = inr h
  in_append_cases a (x ∷ xs) ys (inl e) = inl (inl e)
  in_append_cases a (x ∷ xs) ys (inr h) = shift (in_append_cases a xs ys h)
    where
      shift : In a xs ⊎ In a ys → In a (x ∷ xs) ⊎ In a ys
      shift (inl g) = inl (inr g)
      shift (inr g) = inr g

  pub all_append : (test : A → Bool) (xs ys : List A) → all test (xs ++ ys) ≡ (all test xs && all test ys)
  unfolding all
  all_append test [] ys = refl
  all_append test (x ∷ xs) ys = by_head (test x) (all_append test xs ys)
    where
      by_head : (b : Bool) → all test (xs ++ ys) ≡ (all test xs && all test ys)
          → (b && all test (xs ++ ys)) ≡ ((b && all test xs) && all test ys)
      by_head true e = e
      by_head false e = refl

  pub all_at : (test : A → Bool) (a : A) (xs : List A) → all test xs ≡ true → In a xs → test a ≡ true
  unfolding all
  all_at test a [] h x'' = elim x'' [ ]
  all_at test a (x ∷ xs) h (inl e) = ap test e ∙ and_left (test x) (all test xs) h
  all_at test a (x ∷ xs) h (inr g) = all_at test a xs (and_right (test x) (all test xs) h) g

  pub all_of : (test : A → Bool) (xs : List A) → ((a : A) → In a xs → test a ≡ true) → all test xs ≡ true
  unfolding all
  all_of test [] f = refl
  all_of test (x ∷ xs) f =
      and_both (test x) (all test xs) (f x (inl refl)) (all_of test xs (λ a h. f a (inr h)))

  pub any_of : (test : A → Bool) (a : A) (xs : List A) → In a xs → test a ≡ true → any test xs ≡ true
  unfolding any
  any_of test a [] x'' h = elim x'' [ ]
  any_of test a (x ∷ xs) (inl e) h = or_left (test x) (any test xs) (sym (ap test e) ∙ h)
  any_of test a (x ∷ xs) (inr g) h = or_right (test x) (any test xs) (any_of test a xs g h)

  -- where some element passes, one can be named
  pub any_at : (test : A → Bool) (xs : List A) → any test xs ≡ true → (a : A) × In a xs × (test a ≡ true)
  unfolding any
  any_at test [] h = absurd (true≢false (sym h))
  any_at test (x ∷ xs) h = go (bool_cases (test x)) (any_at test xs)
    where
      Found : List A → Type 0
      Found l = (a : A) × In a l × (test a ≡ true)

      further : Found xs → Found (x ∷ xs)
      further t = (t.0, inr t.1, t.2)

      go : (test x ≡ true) ⊎ (test x ≡ false) → (any test xs ≡ true → Found xs) → Found (x ∷ xs)
      go (inl e) rest = (x, inl refl, e)
      go (inr e) rest = further (rest (or_right_of (test x) (any test xs) e h))

-- Laws of numbers in decimal: a number below 10, and any other from its tenth.
use Rattle.std.specs.Prelude.{ℕ, zero, suc, ◌+◌, ◌/◌, ◌%◌, ◌≤◌, ◌<◌, ◌≡◌, refl, Bool, true, false, ltb}
use Rattle.std.proofs.Common.{ap, arith}
use mathlib.Core.List.{List, [], ◌∷◌, ◌++◌}
use borrow.Author.Tests.{lt-ltb, le-ltb, ltb-false}
use Rattle.text.specs.Numbers.{digit, digits, decimal}

-- where there may be enough digits, how many there may be says nothing
enough_by : (f g n : ℕ) (b : Bool) → ltb n 10 ≡ b → (10 ≤ n → digits f (n / 10) ≡ digits g (n / 10)) → digits (suc f) n ≡ digits (suc g) n
unfolding digits
enough_by f g n true e tenth = rw e
enough_by f g n false e tenth = rw e (ap (λ (l : List ℕ). l ++ (digit (n % 10) ∷ [])) (tenth (ltb-false n 10 e)))

enough : (f g n : ℕ) → n < f → n < g → digits f n ≡ digits g n
enough zero g n hf hg = absurd (omega (arith, hf))
enough (suc f) zero n hf hg = absurd (omega (arith, hg))
enough (suc f) (suc g) n hf hg = enough_by f g n (ltb n 10) refl (λ h. enough f g (n / 10) (omega arith) (omega arith))

module _ (n : ℕ) where
  pub decimal_small : n < 10 → decimal n ≡ (48 + n) ∷ []
  unfolding decimal digits digit
  decimal_small h = rw lt-ltb

  pub decimal_more : 10 ≤ n → decimal n ≡ decimal (n / 10) ++ ((48 + n % 10) ∷ [])
  unfolding decimal digits digit
  decimal_more h = rw le-ltb (ap (λ (l : List ℕ). l ++ ((48 + n % 10) ∷ [])) (enough n (suc (n / 10)) (n / 10) (omega arith) (omega arith)))

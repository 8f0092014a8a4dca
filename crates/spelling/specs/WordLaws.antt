-- Laws of words: the test says that they are the same; a byte more of a value.
use Rattle.std.specs.Prelude.{ℕ, ◌+◌, ◌*◌, ◌-◌, ◌≤◌, ◌<◌, ◌≡◌, refl, true, List, [], ◌∷◌, length}
use Rattle.std.proofs.Common.{sym, ◌∙◌, arith, add-one, drop-cons}
use Rattle.std.proofs.Math.Path.{ap}
use Rattle.std.proofs.Math.ListN.{drop, get_or}
use Rattle.std.proofs.Math.Seq.{drop-length}
use Rattle.std.proofs.lemmas.Slice.Eq.{bytes_eq-Decides}
use Rattle.spelling.specs.Words.{same}
use Rattle.spelling.specs.Numbers.{value_after}

-- a word is the same as itself
pub same_self : (a : List ℕ) → same a a ≡ true
same_self a = (bytes_eq-Decides a a).1 refl

-- words that the test calls the same are equal
pub same_is : (a b : List ℕ) → same a b ≡ true → a ≡ b
same_is a b e = (bytes_eq-Decides a b).0 e

-- one byte of a word, and those after it
module _ (a : List ℕ) (i : ℕ) (ha : i < length a) where
  next : drop i a ≡ get_or a i 0 ∷ drop (i + 1) a
  next = drop-cons a i 0 ha ∙ ap (λ (n : ℕ). get_or a i 0 ∷ drop n a) (sym (add-one i))

  pub value_step : (v d : ℕ) → d ≡ get_or a i 0 - 48 → value_after v (drop i a) ≡ value_after (10 * v + d) (drop (i + 1) a)
  unfolding value_after
  value_step v d e = ap (value_after v) next ∙ ap (λ (n : ℕ). value_after (10 * v + n) (drop (i + 1) a)) (sym e)

-- no byte is left
pub value_end : (a : List ℕ) (i : ℕ) → i ≡ length a → (v : ℕ) → value_after v (drop i a) ≡ v
unfolding value_after
value_end a i e v = ap (value_after v) (ap (λ (n : ℕ). drop n a) e ∙ drop-length a)

-- a value never falls: what is over the largest stays over it
pub value_grows : (v : ℕ) (w : List ℕ) → v ≤ value_after v w
unfolding value_after
value_grows v [] = omega arith
value_grows v (b ∷ w) = omega (arith, value_grows (10 * v + (b - 48)) w)

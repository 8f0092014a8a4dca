-- A form with numbers filled in, and the laws by which it is written.
use Rattle.std.specs.Prelude.{ℕ, ◌+◌, ◌<◌, ◌≡◌, cond, List, [], ◌∷◌, ◌++◌, length, drop, get_or, eqb}
use Rattle.std.proofs.Common.{sym, ap, ◌∙◌, add-one, drop-cons}
use Rattle.std.proofs.Math.Seq.{drop-length}
use borrow.Author.Tests.{eq-eqb, ne_eqb}
use Rattle.text.specs.Page.{Appends}
use Rattle.text.specs.PageLaws.{Leaves, leaves_is, leaves_less, leaves_none}
use Rattle.text.specs.Numbers.{decimal}

-- each `#` of a form stands for the next of three numbers (35 is `#`)
unfoldable pub filled : List ℕ → ℕ → ℕ → ℕ → List ℕ
filled [] a b c = []
filled (x ∷ form) a b c = cond (eqb x 35) (decimal a ++ filled form b c 0) (x ∷ filled form a b c)

-- what is written of a form from i on
module _ (all a form b c : List ℕ) (at i j k first second third : ℕ) (h : i < length form) where
  next : drop i form ≡ get_or form i 0 ∷ drop (i + 1) form
  next = drop-cons form i 0 h ∙ ap (λ (n : ℕ). get_or form i 0 ∷ drop n form) (sym (add-one i))

  number_is : get_or form i 0 ≡ 35 → filled (drop i form) first second third ≡ decimal first ++ filled (drop (i + 1) form) second third 0
  unfolding filled
  number_is e = rw (next, eq-eqb (get_or form i 0) 35 e)

  byte_is : (get_or form i 0 ≡ 35 → ⊥) → filled (drop i form) first second third
      ≡ (get_or form i 0 ∷ []) ++ filled (drop (i + 1) form) first second third
  unfolding filled
  byte_is e = rw (next, ne_eqb (get_or form i 0) 35 e)

  pub number_more : get_or form i 0 ≡ 35 → Leaves all a at (filled (drop i form) first second third) b j → Appends (decimal first) b j c k
      → Leaves all a at (filled (drop (i + 1) form) second third 0) c k
  number_more e left wrote = leaves_less (leaves_is (number_is e) left) wrote

  pub other_more : (get_or form i 0 ≡ 35 → ⊥) → Leaves all a at (filled (drop i form) first second third) b j
      → Appends (get_or form i 0 ∷ []) b j c k → Leaves all a at (filled (drop (i + 1) form) first second third) c k
  other_more e left wrote = leaves_less (leaves_is (byte_is e) left) wrote

-- all of it is written
pub filled_done : {all a b : List ℕ} {at j : ℕ} (form : List ℕ) (i first second third : ℕ) → i ≡ length form
    → Leaves all a at (filled (drop i form) first second third) b j → Appends all a at b j
unfolding filled
filled_done form i first second third e left =
    leaves_none (leaves_is (ap (λ (n : ℕ). filled (drop n form) first second third) e ∙ ap (λ (l : List ℕ). filled l first second third) (drop-length form)) left)

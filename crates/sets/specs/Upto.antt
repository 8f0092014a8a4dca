-- Lists up to a place: what a loop over positions has done so far.
use Rattle.std.specs.Prelude.{ℕ, zero, suc, ◌+◌, ◌≤◌, ◌<◌, ◌≡◌, Bool, true, false, ◌||◌, cond, get_or}
use Rattle.std.proofs.Math.Path.{refl, sym, ap, ap₂, subst}
use Rattle.std.proofs.Common.{◌∙◌, arith, add_assoc, add-zero, add-one, take-suc, drop-cons, length-take-le, get_or-append-add, get_or-drop}
use Rattle.std.proofs.Math.Bool.{or-false, or_assoc}
use mathlib.Core.List.{List, [], ◌∷◌, ◌++◌, append-nil}
use Rattle.std.proofs.Math.ListN.{length, take, drop, set}
use Rattle.std.proofs.Math.Seq.{take-length, drop-length, set_at, append_snoc}
use Rattle.std.specs.List.{count_by}
use Rattle.std.proofs.lemmas.List.Recursion.{is_count_by}
use Rattle.std.proofs.lemmas.List.Sums.{count_by_more_yes, count_by_more_no}
use Rattle.meaning.specs.Clauses.{any}
use Rattle.meaning.specs.Rules.{sum, size}

-- the marks of X up to d, and those of S from there on
unfoldable pub upto : {A : Type 0} → ℕ → List A → List A → List A
upto d X S = take d X ++ drop d S

module _ {A : Type 0} (X S : List A) (same : length X ≡ length S) where
  pub upto_start : upto 0 X S ≡ S
  unfolding upto
  upto_start = refl

  pub upto_end : upto (length S) X S ≡ X
  unfolding upto
  upto_end =
      ap₂ {A = List A} {B = List A} {C = List A} (λ l m. l ++ m) (ap (λ (n : ℕ). take n X) (sym same) ∙ take-length X) (drop-length S)
      ∙ append-nil X

  -- one place on: that place set to what X has there
  pub upto_next : (d : ℕ) (z : A) → d < length S → set (upto d X S) d (get_or X d z) ≡ upto (suc d) X S
  unfolding upto
  upto_next d z h =
      let here : d < length X = subst (λ (n : ℕ). d < n) (sym same) h in
      ap (λ (l : List A). set (take d X ++ l) d (get_or X d z)) (drop-cons S d z h)
      ∙ set_at (take d X) (get_or S d z) (drop (suc d) S) (get_or X d z) d (length-take-le d X (omega arith))
      ∙ sym (append_snoc (take d X) (get_or X d z) (drop (suc d) S))
      ∙ sym (ap (λ (l : List A). l ++ drop (suc d) S) (take-suc X d z here))

-- what stands at the place itself is still as it was
pub upto_here : {A : Type 0} (d : ℕ) (X S : List A) (z : A) → d ≤ length X → get_or (upto d X S) d z ≡ get_or S d z
unfolding upto
upto_here d X S z h =
    ap (λ (n : ℕ). get_or (take d X ++ drop d S) n z) (sym long ∙ sym (add-zero (length (take d X))))
    ∙ get_or-append-add (take d X) (drop d S) 0 z
    ∙ get_or-drop d S 0 z
    ∙ ap (λ (n : ℕ). get_or S n z) (add-zero d)
  where
    long : length (take d X) ≡ d
    long = length-take-le d X h

-- the sum up to a place
pub sum_next : (l : List ℕ) (d : ℕ) → d < length l → sum (take (suc d) l) ≡ sum (take d l) + get_or l d 0
unfolding sum
sum_next [] d h = elim h [ ]
sum_next (x ∷ l) zero h = omega arith
sum_next (x ∷ l) (suc d) h =
    ap (λ (n : ℕ). x + n) (sum_next l d (omega arith)) ∙ sym (add_assoc x (sum (take d l)) (get_or l d 0))

-- no sum up to a place is over the whole
pub sum_upto : (l : List ℕ) (d : ℕ) → sum (take d l) ≤ sum l
unfolding sum
sum_upto [] zero = omega arith
sum_upto [] (suc d) = omega arith
sum_upto (x ∷ l) zero = omega arith
sum_upto (x ∷ l) (suc d) = omega (arith, sum_upto l d)

pub any_next : (l : List Bool) (d : ℕ) → d < length l → any (λ b. b) (take (suc d) l) ≡ (any (λ b. b) (take d l) || get_or l d false)
unfolding any
any_next [] d h = elim h [ ]
any_next (b ∷ l) zero h = or-false b
any_next (b ∷ l) (suc d) h =
    ap (λ (c : Bool). b || c) (any_next l d (omega arith)) ∙ sym (or_assoc b (any (λ c. c) (take d l)) (get_or l d false))

pub any_all_taken : (l : List Bool) (d : ℕ) → length l ≡ d → any (λ b. b) (take d l) ≡ any (λ b. b) l
any_all_taken l d e = ap (λ (m : List Bool). any (λ b. b) m) (ap (λ (n : ℕ). take n l) (sym e) ∙ take-length l)

pub sum_all_taken : (l : List ℕ) (d : ℕ) → length l ≡ d → sum (take d l) ≡ sum l
sum_all_taken l d e = ap sum (ap (λ (n : ℕ). take n l) (sym e) ∙ take-length l)

-- how many are in: the marks that are set
pub size_count : (S : List Bool) → size S ≡ count_by (λ b. b) S
unfolding size
size_count S = is_count_by size (λ b. b) refl next S
  where
    next : (b : Bool) (l : List Bool) → size (b ∷ l) ≡ cond b (1 + size l) (size l)
    next true l = omega arith
    next false l = refl

-- and how many up to a place
pub size_in : (l : List Bool) (d : ℕ) → d < length l → get_or l d false ≡ true → size (take (suc d) l) ≡ suc (size (take d l))
size_in l d h e =
    omega (arith, size_count (take (suc d) l), size_count (take d l), simp add-one at (count_by_more_yes (λ b. b) l d false h e))

pub size_out : (l : List Bool) (d : ℕ) → d < length l → get_or l d false ≡ false → size (take (suc d) l) ≡ size (take d l)
size_out l d h e =
    omega (arith, size_count (take (suc d) l), size_count (take d l), simp add-one at (count_by_more_no (λ b. b) l d false h e))

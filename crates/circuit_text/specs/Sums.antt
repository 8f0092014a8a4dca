-- Counts of justice properties, put together as far as a word holds.
use Rattle.std.specs.Prelude.{ℕ, ◌+◌, ◌-◌, ◌≤◌, ◌<◌, ◌≡◌, ◌⊎◌, true, false, List, [], ◌∷◌, ◌++◌, get_or, leb}
use Rattle.std.proofs.Common.{arith, add-one, sym, ap, ◌∙◌, inl, inr, le-leb, leb-true, leb-false}
use Rattle.std.proofs.lemmas.Bool.{lt-leb}
use Rattle.meaning.specs.CircuitText.{Line, at_number, numbers_at, total}
use Rattle.laws.specs.Basics.{bool_cases}
use Rattle.lines.specs.Numbers.{huge, capped}
use Rattle.sections.specs.Lists.{first_lines, line_after, lines_more}
use Rattle.sections.specs.Reading.{capped_huge}
use Rattle.sections.specs.Whole.{lines_of}

pub capped_large : (n : ℕ) → huge ≤ n → capped n ≡ huge
unfolding capped
capped_large n h = rw (le-leb huge n h)

pub capped_small : (n : ℕ) → n < huge → capped n ≡ n
unfolding capped
capped_small n h = rw (lt-leb huge n h)

-- it does not matter when they are capped
pub capped_sum : (a b : ℕ) → capped (capped a + capped b) ≡ capped (a + b)
capped_sum a b = go (bool_cases (leb huge a)) (bool_cases (leb huge b))
  where
    Same : ℕ → ℕ → Type 0
    Same x y = capped (x + y) ≡ capped (a + b)

    large : (x y : ℕ) → huge ≤ x + y → huge ≤ a + b → Same x y
    large x y h g = capped_large (x + y) h ∙ sym (capped_large (a + b) g)

    go : (leb huge a ≡ true) ⊎ (leb huge a ≡ false) → (leb huge b ≡ true) ⊎ (leb huge b ≡ false) → Same (capped a) (capped b)
    go (inl t) s =
        let h = leb-true huge a t in
        large (capped a) (capped b) (omega (arith, capped_large a h)) (omega arith)
    go (inr t) (inl s) =
        let h = leb-true huge b s in
        large (capped a) (capped b) (omega (arith, capped_large b h)) (omega arith)
    go (inr t) (inr s) =
        ap (λ (x : ℕ). capped (x + capped b)) (capped_small a (leb-false huge a t)) ∙ ap (λ (y : ℕ). capped (a + y)) (capped_small b (leb-false huge b s))

total_more : (ls : List Line) (l : Line) → total (ls ++ (l ∷ [])) ≡ total ls + at_number 0 l
unfolding total
total_more [] l = omega arith
total_more (k ∷ ls) l = omega (arith, total_more ls l)

-- the counts of the first i lines, together
unfoldable pub counted : List ℕ → ℕ → ℕ → ℕ
counted text at i = total (first_lines text at i)

pub counted_none : (text : List ℕ) (at : ℕ) → 0 ≡ capped (counted text at 0)
unfolding counted total first_lines
counted_none text at = sym (capped_small 0 (omega arith))

pub counted_more : (text : List ℕ) (at i p x v s r : ℕ) → p ≡ line_after text at i → x ≡ get_or (numbers_at text p) 0 0 → v ≡ capped x
    → s ≡ capped (counted text at i) → r ≡ capped (s + v) → r ≡ capped (counted text at (i + 1))
unfolding counted at_number
counted_more text at i p x v s r place x_is v_is s_is r_is =
    let more : counted text at (i + 1) ≡ counted text at i + x =
    ap (λ (k : ℕ). total (first_lines text at k)) (add-one i) ∙ ap total (lines_more text at i) ∙ total_more (first_lines text at i) _
    ∙ ap (λ (k : ℕ). total (first_lines text at i) + get_or (numbers_at text k) 0 0) (sym place) ∙ ap (λ (k : ℕ). total (first_lines text at i) + k) (sym x_is) in
    r_is ∙ ap (λ (k : ℕ). capped (k + v)) s_is ∙ ap (λ (k : ℕ). capped (capped (counted text at i) + k)) v_is
    ∙ capped_sum (counted text at i) x ∙ ap capped (sym more)

pub counted_all : (text : List ℕ) (at count i s : ℕ) → i ≤ count → (i < count → ⊥) → s ≡ capped (counted text at i)
    → s ≡ capped (total (lines_of text (record { at = at; count = count })))
unfolding counted lines_of
counted_all text at count i s low past is = is ∙ ap (λ (k : ℕ). capped (total (first_lines text at k))) (same low past)
  where
    same : i ≤ count → (i < count → ⊥) → i ≡ count
    same h g = omega arith

pub at_most_huge : (v n : ℕ) → v ≡ capped n → v ≤ huge
at_most_huge v n is = omega (arith, is, capped_huge n)

-- one sum
pub sum_huge : (a b : ℕ) → a ≤ huge → huge - a ≤ b → huge ≡ capped (a + b)
sum_huge a b h g = sym (capped_large (a + b) (omega arith))

pub sum_small : (a b : ℕ) → a ≤ huge → b < huge - a → a + b ≡ capped (a + b)
sum_small a b h g = sym (capped_small (a + b) (omega arith))

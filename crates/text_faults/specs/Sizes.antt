-- How many lines of each kind a circuit text should have: by its header and, for the literals of the justice properties, by the lines that
-- count them.
use Rattle.std.specs.Prelude.{ℕ, zero, suc, ◌+◌, ◌≤◌, ◌<◌, ◌≡◌, refl, ◌⊎◌, true, false, List, length, drop, leb}
use Rattle.std.proofs.Common.{sym, ap, ◌∙◌, inl, inr, arith, leb-true, leb-false}
use Rattle.std.proofs.Math.Seq.{drop-length}
use Rattle.meaning.specs.Lines.{decimal, decimal_on}
use Rattle.meaning.specs.CircuitText.{Header}
use Rattle.laws.specs.Basics.{bool_cases}
use Rattle.lines.specs.declared.number.Number.{Number}
use Rattle.lines.specs.Numbers.{huge, capped, digits_of}
use Rattle.lines.specs.Past.{not_ended}
use Rattle.text_faults.specs.declared.sizes.Sizes.{Sizes}
use Rattle.text_faults.specs.Places.{after_line, skip, first_number}

-- the numbers that so many lines start with, all together
unfoldable pub first_sum : ℕ → List ℕ → ℕ → ℕ
first_sum zero text at = 0
first_sum (suc count) text at = first_number text at + first_sum count text (after_line text at)

-- where the counts of the justice properties start
unfoldable pub counts_at : List ℕ → Header → ℕ → ℕ
counts_at text h next =
    skip (capped h.c) text
    (skip (capped h.b) text (skip (capped h.o) text (skip (capped h.l) text (skip (capped h.i) text next))))

-- numbers that no word holds count as one that it does
unfoldable pub sizes_of : List ℕ → Header → ℕ → Sizes
sizes_of text h next =
    record {
      inputs = capped h.i;
      latches = capped h.l;
      outputs = capped h.o;
      bads = capped h.b;
      constraints = capped h.c;
      counts = capped h.j;
      justice = capped (first_sum (capped h.j) text (counts_at text h next));
      fairness = capped h.f;
      gates = capped h.a;
    }

-- ---- laws of sums

pub capped_cases : (v : ℕ) → ((huge ≤ v) × (capped v ≡ huge)) ⊎ ((v < huge) × (capped v ≡ v))
unfolding capped
capped_cases v = go (bool_cases (leb huge v))
  where
    go : (leb huge v ≡ true) ⊎ (leb huge v ≡ false) → ((huge ≤ v) × (capped v ≡ huge)) ⊎ ((v < huge) × (capped v ≡ v))
    go (inl t) = inl (leb-true huge v t, rw t)
    go (inr t) = inr (leb-false huge v t, rw t)

pub capped_over : (v : ℕ) → huge ≤ v → huge ≡ capped v
capped_over v h = go (capped_cases v)
  where
    go : ((huge ≤ v) × (capped v ≡ huge)) ⊎ ((v < huge) × (capped v ≡ v)) → huge ≡ capped v
    go (inl (more, is)) = sym is
    go (inr (less, is)) = absurd (omega (arith, h, less))

pub capped_under : (v : ℕ) → v < huge → v ≡ capped v
capped_under v h = go (capped_cases v)
  where
    go : ((huge ≤ v) × (capped v ≡ huge)) ⊎ ((v < huge) × (capped v ≡ v)) → v ≡ capped v
    go (inl (more, is)) = absurd (omega (arith, h, more))
    go (inr (less, is)) = sym is

both_over : (a b : ℕ) → huge ≤ a → huge ≤ b → capped a ≡ capped b
both_over a b ha hb = sym (capped_over a ha) ∙ capped_over b hb

-- a part of a sum may be taken as far as it is below the bound
pub capped_part : (sum v rest : ℕ) → capped (capped (sum + capped v) + rest) ≡ capped (sum + (v + rest))
capped_part sum v rest = go (capped_cases v) (capped_cases (sum + capped v))
  where
    go : ((huge ≤ v) × (capped v ≡ huge)) ⊎ ((v < huge) × (capped v ≡ v))
        → ((huge ≤ sum + capped v) × (capped (sum + capped v) ≡ huge)) ⊎ ((sum + capped v < huge) × (capped (sum + capped v) ≡ sum + capped v))
        → capped (capped (sum + capped v) + rest) ≡ capped (sum + (v + rest))
    go (inl (more, is)) (inl (over, at)) =
        both_over (capped (sum + capped v) + rest) (sum + (v + rest)) (omega (arith, at)) (omega (arith, more))
    go (inl (more, is)) (inr (under, at)) = absurd (omega (arith, is, under))
    go (inr (less, is)) (inl (over, at)) =
        both_over (capped (sum + capped v) + rest) (sum + (v + rest)) (omega (arith, at)) (omega (arith, is, over))
    go (inr (less, is)) (inr (under, at)) =
        let same : capped (sum + capped v) + rest ≡ sum + (v + rest) = omega (arith, at, is) in
        ap capped same

-- past the end there are no numbers
pub sum_end : (count : ℕ) (text : List ℕ) (at : ℕ) → at ≡ length text → first_sum count text at ≡ 0
unfolding first_sum first_number after_line digits_of decimal decimal_on
sum_end zero text at e = refl
sum_end (suc count) text at e =
    let none : first_number text at ≡ 0 = ap (λ (n : ℕ). first_number text n) e ∙ ap (λ (l : List ℕ). decimal (digits_of l)) (drop-length text) in
    let on : after_line text at ≡ length text = rw (not_ended text at (omega (arith, e))) in
    let rest : first_sum count text (after_line text at) ≡ 0 = sum_end count text (after_line text at) on in
    omega (arith, none, rest)

-- no line more
pub sum_done : (sum rest whole : ℕ) → rest ≡ 0 → sum ≤ huge → capped (sum + rest) ≡ whole → sum ≡ whole
sum_done sum rest whole none most is = go (capped_cases (sum + rest)) ∙ is
  where
    go : ((huge ≤ sum + rest) × (capped (sum + rest) ≡ huge)) ⊎ ((sum + rest < huge) × (capped (sum + rest) ≡ sum + rest)) → sum ≡ capped (sum + rest)
    go (inl (more, at)) = omega (arith, none, most, more, at)
    go (inr (less, at)) = omega (arith, none, at)

-- the number that a line starts with, where it stands
pub first_is : (text : List ℕ) (x : Number) (at : ℕ) → x.digits.now ≡ digits_of (drop at text)
    → x.value ≡ capped (first_number text at)
unfolding first_number
first_is text x at is = x.valued ∙ ap (λ (w : List ℕ). capped (decimal w)) is

-- one line more
pub sum_on : (count : ℕ) (text : List ℕ) (at sum v next r whole : ℕ) → capped (sum + first_sum (suc count) text at) ≡ whole
    → v ≡ capped (first_number text at) → next ≡ after_line text at → r ≡ capped (sum + v) → capped (r + first_sum count text next) ≡ whole
unfolding first_sum
sum_on count text at sum v next r whole is ev en er =
    (λ k. capped ((er ∙ ap (λ (n : ℕ). capped (sum + n)) ev) k + first_sum count text (en k)))
    ∙ capped_part sum (first_number text at) (first_sum count text (after_line text at))
    ∙ is

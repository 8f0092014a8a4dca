-- The lemmas of a lemma text name latches alone.
use Rattle.std.specs.Prelude.{ℕ, zero, suc, ◌≡◌, refl, Bool, true, false, ◌&&◌, List, [], ◌∷◌, length, leb}
use Rattle.std.proofs.Common.{arith, subst, leb-true}
use Rattle.meaning.specs.Clauses.{Clause, variable}
use Rattle.meaning.specs.File.{between}
use Rattle.meaning.specs.Lines.{line_at, ended, next_line, words, is_number, decimal}
use Rattle.meaning.specs.LemmaText.{Lemmas, wrong, right, unsigned, has_minus, latch_right, lemma_right, latch_literal, lemma_of, lemma_and, if_lemma, unless_end, lemmas_from, read_lemma_text}
use Rattle.laws.specs.Basics.{and_left, and_right}
use Rattle.laws.specs.Within.{UpTo, ClauseWithin, Within}
use Rattle.circuit_laws.specs.Numbers.{variable_if}

wrong_is_not_right : {at : ℕ} {cs : List Clause} → wrong at ≡ right cs → ⊥
wrong_is_not_right e = let z : ◌≡◌ {A = ℕ} 0 1 = cc in omega arith

between_up_to : (most v : ℕ) → between 1 most v ≡ true → UpTo most v
unfolding between
between_up_to most v h = (leb-true 1 v (and_left (leb 1 v) (leb v most) h), leb-true v most (and_right (leb 1 v) (leb v most) h))

-- a word that is a latch number names a latch
latch_named : (most : ℕ) (w : List ℕ) → latch_right most w ≡ true → UpTo most (variable (latch_literal w))
unfolding latch_right latch_literal
latch_named most w h =
    rw (variable_if (has_minus w) (decimal (unsigned w)))
    (between_up_to most (decimal (unsigned w)) (and_right (is_number (unsigned w)) (between 1 most (decimal (unsigned w))) h))

line_named : (most : ℕ) (ws : List (List ℕ)) → lemma_right most ws ≡ true → ClauseWithin most (lemma_of ws)
unfolding lemma_right lemma_of
line_named most [] h = tt
line_named most (w ∷ []) h = tt
line_named most (w ∷ w' ∷ ws) h = (
  latch_named most w (and_left (latch_right most w) (lemma_right most (w' ∷ ws)) h),
  line_named most (w' ∷ ws) (and_right (latch_right most w) (lemma_right most (w' ∷ ws)) h),
)

none_named : (most : ℕ) (cs : List Clause) → right [] ≡ right cs → Within most cs
none_named most cs e = let same : [] ≡ cs = cc in subst (Within most) same tt

-- one line, and the lines after it
lemma_and_named : (most : ℕ) (c : Clause) (rest : Lemmas) (cs : List Clause) → ClauseWithin most c
    → ((ds : List Clause) → rest ≡ right ds → Within most ds) → lemma_and c rest ≡ right cs → Within most cs
unfolding lemma_and
lemma_and_named most c (wrong at) cs h on e = absurd (wrong_is_not_right e)
lemma_and_named most c (right ds) cs h on e =
    let same : c ∷ ds ≡ cs = cc in subst (Within most) same (h, on ds refl)

from_named : (fuel most : ℕ) (text : List ℕ) (at : ℕ) (cs : List Clause) → lemmas_from fuel most text at ≡ right cs → Within most cs
unfolding lemmas_from unless_end if_lemma
from_named zero most text at cs e = none_named most cs e
from_named (suc fuel) most text at cs e =
    go (leb (length text) at) (ended text at && lemma_right most (words (line_at text at))) refl
    (from_named fuel most text (next_line text at)) e
  where
    line : List (List ℕ)
    line = words (line_at text at)

    rest : Lemmas
    rest = lemmas_from fuel most text (next_line text at)

    go : (done good : Bool) → (ended text at && lemma_right most line) ≡ good
        → ((ds : List Clause) → rest ≡ right ds → Within most ds)
        → unless_end done (if_lemma good at (lemma_and (lemma_of line) rest)) ≡ right cs → Within most cs
    go true good t on h = none_named most cs h
    go false true t on h =
        lemma_and_named most (lemma_of line) rest cs (line_named most line (and_right (ended text at) (lemma_right most line) t)) on h
    go false false t on h = absurd (wrong_is_not_right h)

pub lemmas_named : (most : ℕ) (text : List ℕ) (cs : List Clause) → read_lemma_text most text ≡ right cs → Within most cs
unfolding read_lemma_text
lemmas_named most text cs e = from_named (length text) most text 0 cs e

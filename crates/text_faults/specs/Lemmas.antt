-- What is wrong with the line of a lemma text at a place: its words one after another, each by the definitions of the text.
use Rattle.std.specs.Prelude.{ℕ, suc, cond, List, [], ◌∷◌, eqb, leb, Option, None, Some}
use Rattle.meaning.specs.Lines.{line_at, ended, words, is_number, decimal}
use Rattle.meaning.specs.LemmaText.{unsigned, is_zero}
use Rattle.text_faults.specs.declared.lemmas.Cause.{Cause}
use Rattle.text_faults.specs.declared.lemmas.Cause.TheVariants.{Open, Word, Inner, Over, NoZero}

-- the last word is a number of value 0 without a sign
unfoldable pub last_cause : ℕ → List ℕ → Option Cause
last_cause j w = cond (is_number (unsigned w)) (cond (is_zero w) None (Some NoZero)) (Some (Word j))

-- any other is a latch number, 1 to L, with or without a sign
unfoldable pub inner_cause : ℕ → ℕ → List ℕ → Option Cause → Option Cause
inner_cause most j w on =
    cond (is_number (unsigned w))
    (cond (eqb (decimal (unsigned w)) 0) (Some (Inner j)) (cond (leb (decimal (unsigned w)) most) on (Some (Over j))))
    (Some (Word j))

unfoldable pub words_cause : ℕ → ℕ → List (List ℕ) → Option Cause
words_cause most j [] = None
words_cause most j (w ∷ []) = last_cause j w
words_cause most j (w ∷ w' ∷ ws) = inner_cause most j w (words_cause most (suc j) (w' ∷ ws))

unfoldable pub lemma_cause : ℕ → List ℕ → ℕ → Option Cause
lemma_cause most text at = cond (ended text at) (words_cause most 1 (words (line_at text at))) (Some Open)

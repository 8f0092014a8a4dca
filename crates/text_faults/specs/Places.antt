-- Places of lines in a text, and the laws by which they are found.
use Rattle.std.specs.Prelude.{ℕ, zero, suc, ◌+◌, ◌≤◌, ◌<◌, ◌≡◌, refl, Bool, true, false, cond, List, [], ◌∷◌, length, take, drop, eqb, count_by}
use Rattle.std.proofs.Common.{sym, ap, ◌∙◌, arith}
use Rattle.std.proofs.lemmas.List.Sums.{sum_by-cons}
use Rattle.meaning.specs.Lines.{newline, ended, next_line, decimal}
use Rattle.lines.specs.Numbers.{digits_of}
use Rattle.lines.specs.Past.{not_ended}
use Rattle.symbols.specs.Symbols.{LineTo}
use Rattle.symbols.specs.Walk.{is_closed, is_open, next_is}

-- how many bytes are this one
unfoldable pub count_of : ℕ → List ℕ → ℕ
count_of b [] = 0
count_of b (a ∷ as') = cond (eqb a b) (suc (count_of b as')) (count_of b as')

-- the number of the line at a place: lines are counted from 1, and each newline before the place ends one
unfoldable pub line_number : List ℕ → ℕ → ℕ
line_number text at = suc (count_of newline (take at text))

-- where the line after it starts; the end of the text, where it is not ended
unfoldable pub after_line : List ℕ → ℕ → ℕ
after_line text at = cond (ended text at) (next_line text at) (length text)

-- the line so many lines on
unfoldable pub skip : ℕ → List ℕ → ℕ → ℕ
skip zero text at = at
skip (suc count) text at = skip count text (after_line text at)

-- the number that a line starts with; 0 where it starts with no digit
unfoldable pub first_number : List ℕ → ℕ → ℕ
first_number text at = decimal (digits_of (drop at text))

-- ---- laws

-- the library's count is the same
pub counted_is : (b : ℕ) (bytes : List ℕ) → count_by (λ (a : ℕ). eqb a b) bytes ≡ count_of b bytes
unfolding count_of
counted_is b [] = refl
counted_is b (a ∷ as') = sum_by-cons (λ (x : ℕ). cond (eqb x b) 1 0) a as' ∙ one (eqb a b) (counted_is b as')
  where
    one : (t : Bool) → count_by (λ (x : ℕ). eqb x b) as' ≡ count_of b as'
        → cond t 1 0 + count_by (λ (x : ℕ). eqb x b) as' ≡ cond t (suc (count_of b as')) (count_of b as')
    one true e = omega (arith, e)
    one false e = omega (arith, e)

-- the line after one that ends at a place
module _ (text : List ℕ) (at end : ℕ) (line : LineTo text at end) where
  pub after_closed : end < length text → end + 1 ≡ after_line text at
  unfolding after_line
  after_closed h = rw (is_closed text at end line h) (sym (next_is text at end line))

  pub after_open : length text ≤ end → end ≡ after_line text at
  unfolding after_line
  after_open h = rw (is_open text at end line h) (omega (arith, line.inside))

-- past the end there are no lines
pub skip_end : (count : ℕ) (text : List ℕ) (at : ℕ) → at ≡ length text → skip count text at ≡ at
unfolding skip after_line
skip_end zero text at e = refl
skip_end (suc count) text at e =
    ap (λ (b : Bool). skip count text (cond b (next_line text at) (length text))) (not_ended text at (omega arith))
    ∙ ap (skip count text) (sym e)
    ∙ skip_end count text at e

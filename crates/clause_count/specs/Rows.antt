-- One line of a section, and the next.
use Rattle.std.specs.Prelude.{ℕ, suc, ◌+◌, ◌-◌, ◌≤◌, ◌<◌, ◌≡◌, refl, true, List, length}
use Rattle.std.proofs.Common.{arith, add-one, sym, ap, subst, ◌∙◌}
use Rattle.meaning.specs.Clauses.{all}
use Rattle.meaning.specs.Lines.{line_at, ended, next_line, words, is_number}
use Rattle.sections.specs.Lists.{line_after, after_more}
use Rattle.sections.specs.SectionLines.{Row, Rows, next_inside}

-- a line of so many numbers at least stands at a place
pub record RowAt (text : List ℕ) (width at : ℕ) : Type 0 where
  pub inside : at ≤ length text
  pub closed : ended text at ≡ true
  pub numbers : all is_number (words (line_at text at)) ≡ true
  pub wide : width ≤ length (words (line_at text at))

pub row_at : {text : List ℕ} {width at : ℕ} → at ≤ length text → Row text width at → RowAt text width at
row_at inside r = record { inside = inside; closed = r.closed; numbers = r.numbers; wide = r.wide }

-- it is one of fewer too
pub row_least : {text : List ℕ} {width least at : ℕ} → least ≤ width → RowAt text width at → RowAt text least at
row_least h r = record { inside = r.inside; closed = r.closed; numbers = r.numbers; wide = omega (arith, r.wide) }

-- line i of so many from a place on starts here
pub record Cursor (text : List ℕ) (width at count p i : ℕ) : Type 0 where
  pub place : p ≡ line_after text at i
  pub inside : p ≤ length text
  pub rows : Rows text width p (count - i)

pub cursor_start : (text : List ℕ) (width at count : ℕ) → at ≤ length text → Rows text width at count → Cursor text width at count at 0
unfolding line_after
cursor_start text width at count h r =
    let same : count ≡ count - 0 = omega arith in
    record { place = refl; inside = h; rows = subst (Rows text width at) same r }

module _ {text : List ℕ} {width at count p i : ℕ} (k : Cursor text width at count p i) (less : i < count) where
  row : Row text width p × Rows text width (next_line text p) (count - (i + 1))
  row = let up : count - i ≡ suc (count - (i + 1)) = omega arith in subst (Rows text width p) up k.rows

  pub cursor_row : RowAt text width p
  cursor_row = row_at k.inside row.0

  pub cursor_next : (q : ℕ) → q ≡ next_line text p → Cursor text width at count q (i + 1)
  cursor_next q is =
      record {
        place = is ∙ ap (next_line text) k.place ∙ sym (after_more text at i) ∙ ap (line_after text at) (sym (add-one i));
        inside = subst (λ (j : ℕ). j ≤ length text) (sym is) (next_inside text p row.0.closed);
        rows = subst (λ (j : ℕ). Rows text width j (count - (i + 1))) (sym is) row.1;
      }

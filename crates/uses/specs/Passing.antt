-- Some lines looked at one after another, up to the first that does not pass.
use Rattle.std.specs.Prelude.{ℕ, suc, ◌+◌, ◌-◌, ◌≤◌, ◌<◌, ◌≡◌, refl, Bool, true, false, List, get_or, Ok, Err}
use native.Mathlib.Omega.{arith}
use Rattle.std.proofs.Common.{add-one, ◌∙◌}
use Rattle.std.proofs.Math.Path.{sym, ap, subst}
use Rattle.std.proofs.Math.ListN.{length}
use Rattle.meaning.specs.Lines.{next_line}
use Rattle.meaning.specs.Circuit
use Rattle.meaning.specs.Circuit.{var}
use Rattle.meaning.specs.CircuitText.{Line, numbers_at, at_number, known, fault_unless, first_not}
use Rattle.lines.specs.Faults.{fault_of}
use Rattle.sections.specs.Lists.{first_lines, line_after, after_more}
use Rattle.sections.specs.SectionLines.{Row, Rows, next_inside}

-- number j of a line may be used
unfoldable pub known_number : Circuit.Circuit → ℕ → Line → Bool
known_number c j l = known c (var (at_number j l))

-- the line at a place
unfoldable pub line_here : List ℕ → ℕ → Line
line_here text p = record { at = p; numbers = numbers_at text p }

module _ (test : Line → Bool) (text : List ℕ) (width at count : ℕ) where
  -- the first i lines pass
  pub record Passing (p i : ℕ) : Type 0 where
    pub is : fault_of (first_not test (first_lines text at count)) ≡ fault_of (first_not test (first_lines text p (count - i)))
    pub place : p ≡ line_after text at i
    pub inside : p ≤ length text
    pub rows : Rows text width p (count - i)
    pub low : i ≤ count

  pub passing_start : at ≤ length text → Rows text width at count → Passing at 0
  unfolding line_after
  passing_start h r =
      let same : count ≡ count - 0 = omega arith in
      record {
        is = ap (λ (k : ℕ). fault_of (first_not test (first_lines text at k))) same;
        place = refl;
        inside = h;
        rows = subst (Rows text width at) same r;
        low = omega arith;
      }

  module _ {p i : ℕ} (g : Passing p i) where
    pub passing_end : (i < count → ⊥) → Ok tt ≡ fault_of (first_not test (first_lines text at count))
    unfolding first_lines first_not fault_of
    passing_end past =
        sym (g.is ∙ ap (λ (k : ℕ). fault_of (first_not test (first_lines text p k))) (nothing_left g.low))
      where
        nothing_left : i ≤ count → count - i ≡ 0
        nothing_left h = omega arith

    module _ (less : i < count) where
      up : count - i ≡ suc (count - (i + 1))
      up = omega arith

      passing_rows : Row text width p × Rows text width (next_line text p) (count - (i + 1))
      passing_rows = subst (Rows text width p) up g.rows

      pub passing_row : Row text width p
      passing_row = passing_rows.0

      pub passing_wrong : test (line_here text p) ≡ false
          → Err (record { at = p }) ≡ fault_of (first_not test (first_lines text at count))
      unfolding first_lines first_not fault_unless fault_of line_here
      passing_wrong wrong =
          sym (g.is ∙ ap (λ (k : ℕ). fault_of (first_not test (first_lines text p k))) up ∙ rw wrong)

      pub passing_next : test (line_here text p) ≡ true → (q : ℕ) → q ≡ next_line text p → Passing q (i + 1)
      unfolding first_lines first_not fault_unless line_here
      passing_next right q q_is =
          record {
            is =
                g.is ∙ ap (λ (k : ℕ). fault_of (first_not test (first_lines text p k))) up ∙ rw right
                (ap (λ (k : ℕ). fault_of (first_not test (first_lines text k (count - (i + 1))))) (sym q_is));
            place =
                q_is ∙ ap (next_line text) g.place ∙ sym (after_more text at i) ∙ ap (line_after text at) (sym (add-one i));
            inside = subst (λ (k : ℕ). k ≤ length text) (sym q_is) (next_inside text p passing_row.closed);
            rows = subst (λ (k : ℕ). Rows text width k (count - (i + 1))) (sym q_is) passing_rows.1;
            low = omega arith;
          }

-- what a number of the line at a place says
pub known_here : (c : Circuit.Circuit) (text : List ℕ) (p j : ℕ) (b : Bool) (v : ℕ) → v ≡ get_or (numbers_at text p) j 0 → b ≡ known c (var v)
    → b ≡ known_number c j (line_here text p)
unfolding known_number line_here at_number
known_here c text p j b v is said = said ∙ ap (λ (k : ℕ). known c (var k)) is

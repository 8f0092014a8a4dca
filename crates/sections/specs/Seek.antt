-- Looking for a variable among some lines: what holds when the first i of them are passed.
use Rattle.std.specs.Prelude.{ℕ, ◌+◌, ◌-◌, ◌≤◌, ◌<◌, ◌≡◌, Bool, true, false, List, length, get_or, drop, eqb}
use Rattle.std.proofs.Common.{arith, sym, ap, subst, ◌∙◌}
use Rattle.meaning.specs.Clauses.{all}
use Rattle.meaning.specs.Lines.{line_at, ended, next_line, words, is_number}
use Rattle.meaning.specs.Circuit.{var}
use Rattle.meaning.specs.Built.{position}
use Rattle.meaning.specs.CircuitText.{numbers_at, defined_in}
use Rattle.lines.specs.declared.number.Number.{Number}
use Rattle.lines.specs.Digits.{digits_of}
use Rattle.lines.specs.Numbers.{worth}
use Rattle.lines.specs.Past.{ended_number, next_number}
use Rattle.sections.specs.Lists.{first_lines, Numbered, first_number_is, numbered_left, found_here, found_later, position_end}

-- u is to be found among so many lines from `at` on; the first i are passed, and the next starts at p
pub record Seeking (text : List ℕ) (u at count p i : ℕ) : Type 0 where
  pub is : position u (defined_in (first_lines text at count)) ≡ i + position u (defined_in (first_lines text p (count - i)))
  pub inside : p ≤ length text
  pub numbered : Numbered text p (count - i)
  pub low : i ≤ count

pub seek_start : (text : List ℕ) (u at count : ℕ) → at ≤ length text → Numbered text at count → Seeking text u at count at 0
seek_start text u at count h n =
    let same : count ≡ count - 0 = omega arith in
    record {
      is = subst (λ (k : ℕ). position u (defined_in (first_lines text at count)) ≡ 0 + position u (defined_in (first_lines text at k))) same (omega arith);
      inside = h;
      numbered = subst (Numbered text at) same n;
      low = omega arith;
    }

module _ {text : List ℕ} {u at count p i : ℕ} (s : Seeking text u at count p i) where
  pub seek_end : (i < count → ⊥) → (i ≡ position u (defined_in (first_lines text at count))) × (i ≤ count)
  seek_end past = (omega (arith, s.is, position_end text u p i count all_passed), s.low)
    where
      all_passed : i ≡ count
      all_passed = omega (arith, s.low)

  module _ (less : i < count) (y : Number) (whole : y.digits.now ≡ digits_of (drop p text))
      (b : Bool) (said : b ≡ eqb u (var (worth y))) where
    left : (ended text p ≡ true) × (all is_number (words (line_at text p)) ≡ true) × Numbered text (next_line text p) (count - (i + 1))
    left = numbered_left text u p i count less s.numbered

    v_is : var (worth y) ≡ var (get_or (numbers_at text p) 0 0)
    v_is = ap var (sym (first_number_is text p y whole left.1))

    pub seek_here : b ≡ true → (i ≡ position u (defined_in (first_lines text at count))) × (i ≤ count)
    seek_here same =
        (omega (arith, s.is, found_here text u p i count less (var (worth y)) v_is (sym said ∙ same)), s.low)

    pub seek_ended : ended text (p + length y.digits.now) ≡ true
    seek_ended = sym (ended_number text p y whole) ∙ left.0

    pub seek_next : b ≡ false → (q : ℕ) → q ≡ next_line text (p + length y.digits.now) → q ≤ length text → Seeking text u at count q (i + 1)
    seek_next other q q_is q_in =
        let place : q ≡ next_line text p = q_is ∙ sym (next_number text p y whole) in
        record {
          is =
              subst
              (λ (k : ℕ).
              position u (defined_in (first_lines text at count))
              ≡ i + 1 + position u (defined_in (first_lines text k (count - (i + 1)))))
              (sym place)
              (omega (arith, s.is, found_later text u p i count less (var (worth y)) v_is (sym said ∙ other)));
          inside = q_in;
          numbered = subst (λ (k : ℕ). Numbered text k (count - (i + 1))) (sym place) left.2;
          low = omega arith;
        }

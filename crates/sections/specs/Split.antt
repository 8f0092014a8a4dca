-- A line of so many numbers is its first number and the rest.
use Prim.Native.Nat.{ℕ, zero, suc, ◌+◌, ◌-◌, ◌<◌}
use native.Mathlib.Omega.{arith}
use Rattle.std.specs.Prelude.{◌≡◌, refl, ◌⊎◌, Bool, true, false, get_or, drop, ltb, eqb}
use Rattle.std.proofs.Math.Path.{sym, ap, subst}
use Rattle.std.proofs.Common.{◌∙◌, inl, inr, true≢false, eq-eqb, eqb-true, ltb-true, ltb-false}
use mathlib.Core.List.{List, [], ◌∷◌, map}
use Rattle.std.proofs.Math.ListN.{length}
use Rattle.std.proofs.lemmas.Bool.{eqb-false}
use Rattle.meaning.specs.Clauses.{all}
use Rattle.meaning.specs.Lines.{line_at, ended, words, is_empty, is_number, decimal, of_numbers, newline, space}
use Rattle.meaning.specs.CircuitText.{numbers_at, used_right}
use Rattle.laws.specs.Basics.{bool_cases, and_left, and_right, and_both}
use Rattle.lines.specs.declared.number.Number.{Number}
use Rattle.lines.specs.Digits.{digits_of}
use Rattle.lines.specs.Numbers.{worth}
use Rattle.lines.specs.Past.{first_word, number_cut, words_last, words_space, ended_space, words_other}
use Rattle.sections.specs.Lists.{first_word_is}
use Rattle.sections.specs.Rows.{numbers_after, Rest}

pub numbers_count : (width : ℕ) (line : List ℕ) → of_numbers width line ≡ true → length (words line) ≡ width
unfolding of_numbers
numbers_count width line h = eqb-true (length (words line)) width (and_left (eqb (length (words line)) width) (all is_number (words line)) h)

pub numbers_all : (width : ℕ) (line : List ℕ) → of_numbers width line ≡ true → all is_number (words line) ≡ true
unfolding of_numbers
numbers_all width line h = and_right (eqb (length (words line)) width) (all is_number (words line)) h

-- a line of numbers is one of as many as it has words
pub of_all : (line : List ℕ) → all is_number (words line) ≡ true → of_numbers (length (words line)) line ≡ true
unfolding of_numbers
of_all line h = and_both (eqb (length (words line)) (length (words line))) (all is_number (words line)) (eq-eqb (length (words line)) (length (words line)) refl) h

empty_number : (w : List ℕ) → length w ≡ 0 → is_number w ≡ false
unfolding is_number is_empty
empty_number [] e = refl
empty_number (b ∷ w) e = absurd (omega (arith, e))

-- the first number, and those after it
pub record Split (text : List ℕ) (at left : ℕ) (x : Number) : Type 0 where
  pub numbers : numbers_at text at ≡ (worth x ∷ numbers_after text (at + length x.digits.now) left)
  pub rest : Rest text (at + length x.digits.now) left
  pub some : 0 < length x.digits.now

module _ (text : List ℕ) (at left : ℕ) (is_ended : ended text at ≡ true) (is : of_numbers (suc left) (line_at text at) ≡ true) (x : Number)
    (whole : x.digits.now ≡ digits_of (drop at text)) where
  all_numbers : all is_number (words (line_at text at)) ≡ true
  all_numbers = numbers_all (suc left) (line_at text at) is

  has_digits : 0 < length x.digits.now
  unfolding all
  has_digits = go (bool_cases (ltb 0 (length x.digits.now)))
    where
      found : (ws : List (List ℕ)) × (words (line_at text at) ≡ (x.digits.now ∷ ws))
      found = first_word_is text at x whole all_numbers

      a_number : is_number x.digits.now ≡ true
      a_number =
          and_left (is_number x.digits.now) (all is_number found.0)
          (sym (ap (all is_number) found.1) ∙ all_numbers)

      go : (ltb 0 (length x.digits.now) ≡ true) ⊎ (ltb 0 (length x.digits.now) ≡ false) → 0 < length x.digits.now
      go (inl t) = ltb-true 0 (length x.digits.now) t
      go (inr t) =
          absurd
          (true≢false
          (sym a_number
          ∙ empty_number x.digits.now
          (omega (arith, ltb-false 0 (length x.digits.now) t))))

  inside : (at + length x.digits.now) < length text
  inside = go (bool_cases (ltb (at + length x.digits.now) (length text)))
    where
      go : (ltb (at + length x.digits.now) (length text) ≡ true) ⊎ (ltb (at + length x.digits.now) (length text) ≡ false) → (at + length x.digits.now) < length text
      go (inl t) = ltb-true (at + length x.digits.now) (length text) t
      go (inr t) =
          absurd (true≢false (sym is_ended ∙ number_cut text at x whole (ltb-false (at + length x.digits.now) (length text) t)))

  pub split : Split text at left x
  unfolding numbers_at worth numbers_after of_numbers all
  split = by_byte (bool_cases (eqb (get_or text (at + length x.digits.now) 0) newline)) (bool_cases (eqb (get_or text (at + length x.digits.now) 0) space))
    where
      last : (k : ℕ) → length (words (line_at text at)) ≡ suc k → words (line_at text at) ≡ (x.digits.now ∷ [])
          → (numbers_at text at ≡ (worth x ∷ numbers_after text (at + length x.digits.now) k)) × Rest text (at + length x.digits.now) k
      last zero e w = (ap (map decimal) w, tt)
      last (suc k) e w = absurd (omega (arith, e, ap length w))

      more : (k : ℕ) → length (words (line_at text at)) ≡ suc k → get_or text (at + length x.digits.now) 0 ≡ space
          → (numbers_at text at ≡ (worth x ∷ numbers_after text (at + length x.digits.now) k)) × Rest text (at + length x.digits.now) k
      more zero e b =
          let on = first_word (line_at text ((at + length x.digits.now) + 1)) in
          absurd (omega (arith, e, ap length (words_space text at x whole inside b), ap length on.2))
      more (suc k) e b =
          let here = words_space text at x whole inside b in
          let count : length (words (line_at text ((at + length x.digits.now) + 1))) ≡ suc k = omega (arith, e, ap length here) in
          let others =
          and_right (is_number x.digits.now) (all is_number (words (line_at text ((at + length x.digits.now) + 1))))
          (sym (ap (all is_number) here) ∙ all_numbers) in (
            ap (map decimal) here,
            (
              inside,
              sym (ended_space text at x whole inside b) ∙ is_ended,
              and_both (eqb (length (words (line_at text ((at + length x.digits.now) + 1)))) (suc k)) (all is_number (words (line_at text ((at + length x.digits.now) + 1))))
                  (eq-eqb _ _ count) others,
            ),
          )

      by_byte : (eqb (get_or text (at + length x.digits.now) 0) newline ≡ true) ⊎ (eqb (get_or text (at + length x.digits.now) 0) newline ≡ false)
          → (eqb (get_or text (at + length x.digits.now) 0) space ≡ true) ⊎ (eqb (get_or text (at + length x.digits.now) 0) space ≡ false) → Split text at left x
      by_byte (inl t) b =
          let both =
          last left (numbers_count (suc left) (line_at text at) is) (words_last text at x whole inside (eqb-true _ _ t)) in
          record { numbers = both.0; rest = both.1; some = has_digits }
      by_byte (inr t) (inl u) =
          let both = more left (numbers_count (suc left) (line_at text at) is) (eqb-true _ _ u) in
          record { numbers = both.0; rest = both.1; some = has_digits }
      by_byte (inr t) (inr u) =
          absurd
          (true≢false
          (sym all_numbers ∙ words_other text at x whole inside (eqb-false _ _ t) (eqb-false _ _ u)))

-- ---- the literals after the first, one after another

-- all of them are in range, or the next i are still to be looked at
pub record Ranged (text : List ℕ) (m end left p i : ℕ) : Type 0 where
  pub is : all (used_right m) (numbers_after text end left) ≡ all (used_right m) (numbers_after text p i)
  pub rest : Rest text p i

pub ranged_start : {text : List ℕ} {m end : ℕ} (left : ℕ) → Rest text end left → Ranged text m end left end (left - 0)
ranged_start {text} {m} {end} left r =
    let all_left : left ≡ left - 0 = omega arith in
    record { is = ap (λ (k : ℕ). all (used_right m) (numbers_after text end k)) all_left; rest = subst (Rest text end) all_left r }

pub ranged_place : {text : List ℕ} {m end left p : ℕ} (i : ℕ) → 0 < i → Ranged text m end left p i → p < length text
ranged_place zero less r = absurd (omega arith)
ranged_place (suc i) less r = r.rest.0

module _ {text : List ℕ} {m end left p : ℕ} (x : Number) (whole : x.digits.now ≡ digits_of (drop (p + 1) text)) (b : Bool) (said : b ≡ used_right m (worth x)) where
  pub ranged_not : (i : ℕ) → 0 < i → Ranged text m end left p i → b ≡ false → false ≡ all (used_right m) (numbers_after text end left)
  unfolding numbers_after all
  ranged_not zero less r e = absurd (omega arith)
  ranged_not (suc i) less r e =
      let cut = split text (p + 1) i r.rest.1 r.rest.2 x whole in
      sym (r.is ∙ ap (all (used_right m)) cut.numbers ∙ rw (sym said ∙ e))

  pub ranged_next : (i : ℕ) → 0 < i → Ranged text m end left p i → b ≡ true → Ranged text m end left (p + 1 + length x.digits.now) (i - 1)
  unfolding numbers_after all
  ranged_next zero less r e = absurd (omega arith)
  ranged_next (suc i) less r e =
      let cut = split text (p + 1) i r.rest.1 r.rest.2 x whole in
      let less_one : i ≡ suc i - 1 = omega arith in
      subst (Ranged text m end left (p + 1 + length x.digits.now)) less_one
      (record {
        is = r.is ∙ ap (all (used_right m)) cut.numbers ∙ rw (sym said ∙ e);
        rest = cut.rest;
      })

pub ranged_end : {text : List ℕ} {m end left p : ℕ} (i : ℕ) → (0 < i → ⊥) → Ranged text m end left p i
    → true ≡ all (used_right m) (numbers_after text end left)
unfolding numbers_after all
ranged_end zero none r = sym r.is
ranged_end (suc i) none r = absurd (none (omega arith))

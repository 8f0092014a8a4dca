-- A word of a lemma line where it stands: a '-' or none, then digits, then the byte after them.
use Rattle.std.specs.Prelude.{ℕ, suc, ◌+◌, ◌≤◌, ◌<◌, ◌≡◌, ◌⊎◌, Bool, not, ◌&&◌, drop, leb}
use Rattle.std.proofs.Common.{arith, add-one, sym, ◌∙◌, inl, inr}
use Rattle.std.proofs.Math.Path.{refl, ap}
use Rattle.std.proofs.Math.Bool.{true, false, cond}
use mathlib.Core.List.{List, [], ◌∷◌, ◌++◌, append-nil}
use Rattle.std.proofs.Math.ListN.{length, get_or, get_or-eq_default}
use Rattle.std.proofs.Math.Dec.{ltb, eqb}
use borrow.Author.Tests.{lt-ltb, le-ltb, ltb-true, ltb-false, leb-true, eq-eqb, ne_eqb, eqb-true}
use Rattle.meaning.specs.Clauses.{all}
use Rattle.meaning.specs.File.{between}
use Rattle.meaning.specs.Built.{literal_if}
use Rattle.meaning.specs.Lines.{newline, space, line_at, ended, next_line, with_first, words, is_empty, is_digit, is_number, decimal}
use Rattle.meaning.specs.LemmaText.{has_minus, unsigned, latch_right, is_zero, latch_literal}
use Rattle.laws.specs.Basics.{bool_cases, and_left}
use Rattle.lines.specs.Digits.{digits_of}
use Rattle.lemma_text.specs.declared.line.Word.{Word}
use Rattle.lines.specs.Past.{line_byte, ended_byte, next_byte, first_word, words_digits, no_digit_after, line_number, number_cut, words_last, ended_last, next_last, words_space, ended_space, next_space}

-- the byte at a place is a '-'
unfoldable pub minus_at : List ℕ → ℕ → Bool
minus_at text at = eqb (get_or text at 0) 45

-- where the digits of a word start
unfoldable pub digits_start : List ℕ → ℕ → ℕ
digits_start text at = cond (minus_at text at) (at + 1) at

unfoldable pub with_sign : Bool → List ℕ → List ℕ
with_sign true w = 45 ∷ w
with_sign false w = w

-- x is all digits that follow, at a place, a '-' or none
pub record WordAt (text : List ℕ) (at : ℕ) (x : Word) : Type 0 where
  pub start : x.start ≡ digits_start text at
  pub inside : x.start + length x.number.digits.now ≤ length text
  pub whole : x.number.digits.now ≡ digits_of (drop x.start text)

pub start_minus : (text : List ℕ) (at : ℕ) → get_or text at 0 ≡ 45 → at + 1 ≡ digits_start text at
unfolding digits_start minus_at
start_minus text at h = rw (eq-eqb (get_or text at 0) 45 h)

pub start_plain : (text : List ℕ) (at : ℕ) → (get_or text at 0 ≡ 45 → ⊥) → at ≡ digits_start text at
unfolding digits_start minus_at
start_plain text at h = rw (ne_eqb (get_or text at 0) 45 h)

-- past the end there is no '-'
pub start_past : (text : List ℕ) (at : ℕ) → length text ≤ at → at ≡ digits_start text at
start_past text at h = start_plain text at (λ e. omega (arith, get_or-eq_default text 0 h, e))

-- ---- the sign of a word

-- what starts with digits starts with no '-'
pub no_minus : (d w : List ℕ) → all is_digit d ≡ true → (d ≡ [] → has_minus w ≡ false) → has_minus (d ++ w) ≡ false
unfolding has_minus all is_digit between
no_minus [] w h on = on refl
no_minus (b ∷ d) w h on =
    let digit = and_left (is_digit b) (all is_digit d) h in
    ne_eqb b 45 (λ e. omega (arith, leb-true 48 b (and_left (leb 48 b) (leb b 57) digit), e))

module _ (negative : Bool) (u : List ℕ) (plain : negative ≡ false → has_minus u ≡ false) where
  pub sign_is : has_minus (with_sign negative u) ≡ negative
  unfolding has_minus with_sign
  sign_is = go negative plain
    where
      go : (t : Bool) → (t ≡ false → has_minus u ≡ false) → has_minus (with_sign t u) ≡ t
      go true on = refl
      go false on = on refl

  pub unsigned_is : unsigned (with_sign negative u) ≡ u
  unfolding unsigned with_sign
  unsigned_is = rw sign_is (go negative)
    where
      go : (t : Bool) → cond t (drop 1 (with_sign t u)) (with_sign t u) ≡ u
      go true = refl
      go false = refl

  pub latch_right_is : (most : ℕ) → latch_right most (with_sign negative u) ≡ (is_number u && between 1 most (decimal u))
  unfolding latch_right
  latch_right_is most = rw unsigned_is

  pub latch_literal_is : latch_literal (with_sign negative u) ≡ literal_if negative (decimal u)
  unfolding latch_literal
  latch_literal_is = rw (sign_is, unsigned_is)

-- a byte that is no digit spoils a word
spoiled : (d : List ℕ) (b : ℕ) (w : List ℕ) → is_digit b ≡ false → is_number (d ++ (b ∷ w)) ≡ false
unfolding is_number all
spoiled d b w h = rw (no_digits d) (go (is_empty (d ++ (b ∷ w))))
  where
    none : (t : Bool) → (t && false) ≡ false
    none true = refl
    none false = refl

    no_digits : (d : List ℕ) → all is_digit (d ++ (b ∷ w)) ≡ false
    no_digits [] = rw h
    no_digits (a ∷ d) = rw (no_digits d) (none (is_digit a))

    go : (t : Bool) → (not t && false) ≡ false
    go true = refl
    go false = refl

-- 0 has no sign
pub signed_not_zero : (u : List ℕ) → is_zero (with_sign true u) ≡ false
unfolding is_zero with_sign is_number is_empty all is_digit between
signed_not_zero u = refl

-- ---- the sign at the start of a line

module _ (text : List ℕ) (at : ℕ) where
  minus_inside : minus_at text at ≡ true → at < length text
  unfolding minus_at
  minus_inside h = go (bool_cases (ltb at (length text)))
    where
      go : (ltb at (length text) ≡ true) ⊎ (ltb at (length text) ≡ false) → at < length text
      go (inl t) = ltb-true at (length text) t
      go (inr t) =
          absurd
          (omega (arith, get_or-eq_default text 0 (ltb-false at (length text) t), eqb-true (get_or text at 0) 45 h))

  minus_other : minus_at text at ≡ true → get_or text at 0 ≡ newline → ⊥
  unfolding minus_at
  minus_other h e = omega (arith, eqb-true (get_or text at 0) 45 h, e)

  pub sign_ended : ended text at ≡ ended text (digits_start text at)
  unfolding digits_start
  sign_ended = go (minus_at text at) refl
    where
      go : (t : Bool) → minus_at text at ≡ t → ended text at ≡ ended text (cond t (at + 1) at)
      go true t = ended_byte text at (minus_inside t) (minus_other t)
      go false t = refl

  pub sign_next : next_line text at ≡ next_line text (digits_start text at)
  unfolding digits_start
  sign_next = go (minus_at text at) refl
    where
      go : (t : Bool) → minus_at text at ≡ t → next_line text at ≡ next_line text (cond t (at + 1) at)
      go true t = next_byte text at (minus_inside t) (minus_other t)
      go false t = refl

  pub sign_words : (w : List ℕ) (ws : List (List ℕ)) → words (line_at text (digits_start text at)) ≡ (w ∷ ws)
      → words (line_at text at) ≡ (with_sign (minus_at text at) w ∷ ws)
  unfolding digits_start minus_at words with_first with_sign
  sign_words w ws = go (minus_at text at) refl
    where
      go : (t : Bool) → minus_at text at ≡ t → words (line_at text (cond t (at + 1) at)) ≡ (w ∷ ws)
          → words (line_at text at) ≡ (with_sign t w ∷ ws)
      go true t e =
          let byte = eqb-true (get_or text at 0) 45 t in
          ap words (line_byte text at (minus_inside t) (minus_other t))
          ∙ ap (λ (b : ℕ). words (b ∷ line_at text (suc at))) byte
          ∙ ap (λ (k : ℕ). with_first 45 (words (line_at text k))) (sym (add-one at))
          ∙ ap (with_first 45) e
      go false t e = e

-- ---- a word, and the byte after it

module _ (text : List ℕ) (at : ℕ) (x : Word) (w : WordAt text at x) where
  from_start : words (line_at text (digits_start text at)) ≡ words (line_at text x.start)
  from_start = ap (λ (k : ℕ). words (line_at text k)) (sym w.start)

  -- it has a sign exactly if its digits start later
  pub sign_before : ltb at x.start ≡ minus_at text at
  unfolding digits_start
  sign_before = ap (ltb at) w.start ∙ go (minus_at text at)
    where
      go : (t : Bool) → ltb at (cond t (at + 1) at) ≡ t
      go true = lt-ltb at (at + 1) (omega arith)
      go false = le-ltb at at (omega arith)

  pub word_rises : at ≤ (x.start + length x.number.digits.now)
  unfolding digits_start
  word_rises = go (minus_at text at) w.start
    where
      go : (t : Bool) → x.start ≡ cond t (at + 1) at → at ≤ (x.start + length x.number.digits.now)
      go true e = omega (arith, e)
      go false e = omega (arith, e)

  -- its digits start with no '-'
  pub plain_span : has_minus x.number.digits.now ≡ false
  unfolding has_minus
  plain_span =
      ap has_minus (sym (append-nil x.number.digits.now)) ∙ no_minus x.number.digits.now [] x.number.digital (λ e. refl)

  pub word_cut : length text ≤ (x.start + length x.number.digits.now) → ended text at ≡ false
  word_cut h = sign_ended text at ∙ ap (ended text) (sym w.start) ∙ number_cut text x.start x.number w.whole h

  module _ (inside : (x.start + length x.number.digits.now) < length text) where
    module _ (is : get_or text (x.start + length x.number.digits.now) 0 ≡ newline) where
      pub word_last : words (line_at text at) ≡ (with_sign (minus_at text at) x.number.digits.now ∷ [])
      word_last =
          sign_words text at x.number.digits.now [] (from_start ∙ words_last text x.start x.number w.whole inside is)

      pub word_last_ended : ended text at ≡ true
      word_last_ended = sign_ended text at ∙ ap (ended text) (sym w.start) ∙ ended_last text x.start x.number w.whole inside is

      pub word_last_next : next_line text at ≡ (x.start + length x.number.digits.now) + 1
      word_last_next = sign_next text at ∙ ap (next_line text) (sym w.start) ∙ next_last text x.start x.number w.whole inside is

    module _ (is : get_or text (x.start + length x.number.digits.now) 0 ≡ space) where
      pub word_space : words (line_at text at) ≡ (with_sign (minus_at text at) x.number.digits.now ∷ words (line_at text ((x.start + length x.number.digits.now) + 1)))
      word_space =
          sign_words text at x.number.digits.now (words (line_at text ((x.start + length x.number.digits.now) + 1)))
          (from_start ∙ words_space text x.start x.number w.whole inside is)

      pub word_space_ended : ended text at ≡ ended text ((x.start + length x.number.digits.now) + 1)
      word_space_ended = sign_ended text at ∙ ap (ended text) (sym w.start) ∙ ended_space text x.start x.number w.whole inside is

      pub word_space_next : next_line text at ≡ next_line text ((x.start + length x.number.digits.now) + 1)
      word_space_next = sign_next text at ∙ ap (next_line text) (sym w.start) ∙ next_space text x.start x.number w.whole inside is

    -- another byte spoils the word
    pub word_other : (get_or text (x.start + length x.number.digits.now) 0 ≡ newline → ⊥) → (get_or text (x.start + length x.number.digits.now) 0 ≡ space → ⊥)
        → (u : List ℕ) × (ws : List (List ℕ)) × (words (line_at text at) ≡ (with_sign (minus_at text at) u ∷ ws))
        × (is_number u ≡ false) × (minus_at text at ≡ false → has_minus u ≡ false)
    unfolding words with_first has_minus minus_at digits_start
    word_other not_newline not_space =
        let b = get_or text (x.start + length x.number.digits.now) 0 in
        let s = x.start in
        let on = first_word (line_at text (suc (x.start + length x.number.digits.now))) in
        let line = line_byte text (x.start + length x.number.digits.now) inside not_newline in
        let here : words (line_at text (x.start + length x.number.digits.now)) ≡ ((b ∷ on.0) ∷ on.1) =
        ap words line ∙ rw (ne_eqb b space not_space) (ap (with_first b) on.2) in
        let is =
        ap words (line_number text s x.number w.whole)
        ∙ words_digits x.number.digits.now (line_at text (x.start + length x.number.digits.now)) (b ∷ on.0) on.1 x.number.digital here in (
          x.number.digits.now ++ (b ∷ on.0),
          on.1,
          sign_words text at (x.number.digits.now ++ (b ∷ on.0)) on.1 (from_start ∙ is),
          spoiled x.number.digits.now b on.0 (no_digit_after text s x.number w.whole inside),
          λ t. no_minus x.number.digits.now (b ∷ on.0) x.number.digital (λ e. no_second t e),
        )
      where
        no_second : minus_at text at ≡ false → x.number.digits.now ≡ [] → eqb (get_or text (x.start + length x.number.digits.now) 0) 45 ≡ false
        no_second t e =
            let none : digits_start text at ≡ at = rw t in
            let place : x.start + length x.number.digits.now ≡ at = omega (arith, w.start, ap length e, none) in
            ap (λ (k : ℕ). eqb (get_or text k 0) 45) place ∙ t

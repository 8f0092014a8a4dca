-- A line of a lemma text, word by word: where the next one starts, and how many literals it has.
use Rattle.std.specs.Prelude.{ℕ, ◌+◌, ◌≤◌, ◌<◌, ◌≡◌, refl, ◌⊎◌, Bool, true, ◌&&◌, cond, List, [], ◌∷◌, get_or, leb, Option, Some, None}
use Rattle.std.proofs.Common.{arith, ◌∙◌, inl, inr}
use Rattle.std.proofs.Math.Nat.{add-zero}
use Rattle.std.proofs.Math.Path.{sym, ap}
use Rattle.std.proofs.Math.Bool.{false}
use Rattle.std.proofs.Math.ListN.{length}
use Rattle.std.proofs.Math.Dec.{eqb}
use borrow.Author.Tests.{lt-ltb, le-ltb, le-leb, lt-leb, leb-true, eq-eqb, ne_eqb, eqb-true, eqb-false}
use Rattle.std.specs.Ordering.{is_le, nat_cmp}
use Rattle.std.proofs.lemmas.Bool.Decides.{nat_tests}
use Rattle.meaning.specs.Clauses.{Clause}
use Rattle.meaning.specs.File.{between}
use Rattle.meaning.specs.Lines.{newline, space, line_at, ended, next_line, words, is_empty, is_number, decimal}
use Rattle.meaning.specs.LemmaText.{has_minus, latch_right, is_zero, lemma_right, latch_literal, lemma_of}
use Rattle.laws.specs.Basics.{bool_cases, and_both}
use Rattle.lines.specs.declared.number.Number.{Number}
use Rattle.lines.specs.Digits.{huge, capped}
use Rattle.lines.specs.Past.{first_word}
use Rattle.lines.specs.PastLaws.{some_digits}
use Rattle.lemma_text.specs.declared.line.Line.{Line}
use Rattle.lemma_text.specs.declared.line.Word.{Word}
use Rattle.lemma_text.specs.Words.{WordAt, minus_at, with_sign, latch_right_is, signed_not_zero, sign_before, plain_span, word_cut, word_last, word_last_ended, word_last_next, word_space, word_space_ended, word_space_next, word_other}

-- the line at a place is a lemma, and is ended
unfoldable pub good_line : ℕ → List ℕ → ℕ → Bool
good_line most text at = ended text at && lemma_right most (words (line_at text at))

-- its literals
unfoldable pub lemma_at : List ℕ → ℕ → Clause
lemma_at text at = lemma_of (words (line_at text at))

-- the line after it, and how many literals it has besides so many; none where it is no lemma
unfoldable pub line_from : ℕ → List ℕ → ℕ → ℕ → Option Line
line_from most text n at =
    cond (good_line most text at) (Some (record { past = next_line text at; count = n + length (lemma_at text at) })) None

-- ---- words and lemmas

lemma_more : (most : ℕ) (w l : List ℕ) → lemma_right most (w ∷ words l) ≡ (latch_right most w && lemma_right most (words l))
unfolding lemma_right
lemma_more most w l = let on = first_word l in rw on.2

lemma_of_more : (w l : List ℕ) → lemma_of (w ∷ words l) ≡ (latch_literal w ∷ lemma_of (words l))
unfolding lemma_of
lemma_of_more w l = let on = first_word l in rw on.2

-- a first word that is no number, whatever its sign
wrong_first : (most : ℕ) (negative : Bool) (u : List ℕ) (ws : List (List ℕ)) → (negative ≡ false → has_minus u ≡ false)
    → is_number u ≡ false → lemma_right most (with_sign negative u ∷ ws) ≡ false
unfolding lemma_right is_zero with_sign
wrong_first most true u [] plain h = signed_not_zero u
wrong_first most false u [] plain h = rw h
wrong_first most negative u (w ∷ ws) plain h = rw (latch_right_is negative u plain most, h)

-- ---- a value as far as it is below the bound

between_capped : (most v : ℕ) → most < huge → between 1 most (capped v) ≡ between 1 most v
unfolding between capped
between_capped most v small = go (bool_cases (leb huge v))
  where
    go : (leb huge v ≡ true) ⊎ (leb huge v ≡ false) → between 1 most (capped v) ≡ between 1 most v
    go (inl t) =
        let over : most < v = omega (arith, leb-true huge v t) in
        let some : 1 ≤ v = omega arith in
        rw (t, lt-leb v most over, lt-leb huge most small, le-leb 1 v some)
    go (inr t) = rw t

zero_capped : (v : ℕ) → eqb (capped v) 0 ≡ eqb v 0
unfolding capped
zero_capped v = go (bool_cases (leb huge v))
  where
    go : (leb huge v ≡ true) ⊎ (leb huge v ≡ false) → eqb (capped v) 0 ≡ eqb v 0
    go (inl t) = rw t (sym (ne_eqb v 0 (λ e. omega (arith, leb-true huge v t, e))))
    go (inr t) = rw t

module _ (x : Number) where
  pub value_between : (most : ℕ) → most < huge → between 1 most x.value ≡ between 1 most (decimal x.digits.now)
  value_between most small = ap (between 1 most) x.valued ∙ between_capped most (decimal x.digits.now) small

  pub value_zero : eqb x.value 0 ≡ eqb (decimal x.digits.now) 0
  value_zero = ap (λ (v : ℕ). eqb v 0) x.valued ∙ zero_capped (decimal x.digits.now)

-- a range's own test of a number
le_is : (a b : ℕ) → is_le (nat_cmp a b) ≡ leb a b
le_is a b = grind (arith, nat_tests)

pub in_range : (low high v : ℕ) → (is_le (nat_cmp low v) && is_le (nat_cmp v high)) ≡ between low high v
unfolding between
in_range low high v = rw (le_is low v, le_is v high)

-- ---- a line that is no lemma

and_false : (a : Bool) → (a && false) ≡ false
and_false true = refl
and_false false = refl

module _ (most : ℕ) (text : List ℕ) (at : ℕ) where
  bad_end : ended text at ≡ false → good_line most text at ≡ false
  unfolding good_line
  bad_end h = rw h

  bad_words : lemma_right most (words (line_at text at)) ≡ false → good_line most text at ≡ false
  unfolding good_line
  bad_words h = rw (h, and_false (ended text at))

  pub bad_line : (n : ℕ) → good_line most text at ≡ false → line_from most text n at ≡ None
  unfolding line_from
  bad_line n h = rw h

-- ---- the line by its first word

numbered : (text : List ℕ) (at : ℕ) (x : Word) (w : WordAt text at x) → (length x.number.digits.now ≡ 0 → ⊥) → is_number x.number.digits.now ≡ true
numbered text at x w some =
    some_digits text x.start x.number w.whole (λ e. some (omega (arith, e)))

module _ (most : ℕ) (text : List ℕ) (at : ℕ) (x : Word) (w : WordAt text at x) where
  abbrev negative : Bool
  negative = minus_at text at

  abbrev first : List ℕ
  first = with_sign negative x.number.digits.now

  plain : negative ≡ false → has_minus x.number.digits.now ≡ false
  plain t = plain_span text at x w

  pub bad_cut : length text ≤ (x.start + length x.number.digits.now) → good_line most text at ≡ false
  bad_cut h = bad_end most text at (word_cut text at x w h)

  module _ (inside : (x.start + length x.number.digits.now) < length text) where
    -- another byte than a newline or a space follows
    pub bad_other : (get_or text (x.start + length x.number.digits.now) 0 ≡ newline → ⊥) → (get_or text (x.start + length x.number.digits.now) 0 ≡ space → ⊥) → good_line most text at ≡ false
    bad_other not_newline not_space =
        let on = word_other text at x w inside not_newline not_space in
        bad_words most text at
        (ap (lemma_right most) on.2 ∙ wrong_first most negative on.0 on.1 on.4 on.3)

    -- no digit stands there
    pub bad_empty : length x.number.digits.now ≡ 0 → good_line most text at ≡ false
    unfolding is_number is_empty
    bad_empty h =
        go (bool_cases (eqb (get_or text (x.start + length x.number.digits.now) 0) newline)) (bool_cases (eqb (get_or text (x.start + length x.number.digits.now) 0) space))
      where
        no_digits : (d : List ℕ) → length d ≡ 0 → is_number d ≡ false
        no_digits [] e = refl
        no_digits (b ∷ d) e = absurd (omega (arith, e))

        none : is_number x.number.digits.now ≡ false
        none = no_digits x.number.digits.now h

        no_first : (ws : List (List ℕ)) → words (line_at text at) ≡ (first ∷ ws) → good_line most text at ≡ false
        no_first ws e =
            bad_words most text at (ap (lemma_right most) e ∙ wrong_first most negative x.number.digits.now ws plain none)

        go : (eqb (get_or text (x.start + length x.number.digits.now) 0) newline ≡ true) ⊎ (eqb (get_or text (x.start + length x.number.digits.now) 0) newline ≡ false)
            → (eqb (get_or text (x.start + length x.number.digits.now) 0) space ≡ true) ⊎ (eqb (get_or text (x.start + length x.number.digits.now) 0) space ≡ false)
            → good_line most text at ≡ false
        go (inl t) b = no_first [] (word_last text at x w inside (eqb-true _ _ t))
        go (inr t) (inl u) = no_first _ (word_space text at x w inside (eqb-true _ _ u))
        go (inr t) (inr u) = bad_other (eqb-false _ _ t) (eqb-false _ _ u)

    -- a newline follows: the word closes the line
    module _ (is : get_or text (x.start + length x.number.digits.now) 0 ≡ newline) where
      last_right : lemma_right most (words (line_at text at)) ≡ is_zero first
      unfolding lemma_right
      last_right = rw (word_last text at x w inside is)

      pub bad_sign : at < x.start → good_line most text at ≡ false
      bad_sign h =
          let minus = sym (sign_before text at x w) ∙ lt-ltb at x.start h in
          bad_words most text at
          (last_right ∙ ap (λ (t : Bool). is_zero (with_sign t x.number.digits.now)) minus ∙ signed_not_zero x.number.digits.now)

      pub bad_value : 0 < x.number.value → good_line most text at ≡ false
      unfolding is_zero with_sign
      bad_value h = bad_words most text at (last_right ∙ go negative)
        where
          some_value : eqb (decimal x.number.digits.now) 0 ≡ false
          some_value = sym (value_zero x.number) ∙ ne_eqb x.number.value 0 (λ e. omega (arith, e))

          go : (t : Bool) → is_zero (with_sign t x.number.digits.now) ≡ false
          go true = signed_not_zero x.number.digits.now
          go false = rw (some_value, and_false (is_number x.number.digits.now))

      pub bad_last : (at < x.start) ⊎ ((x.start ≤ at) × (0 < x.number.value)) → good_line most text at ≡ false
      bad_last (inl h) = bad_sign h
      bad_last (inr h) = bad_value h.1

      pub last_none : lemma_at text at ≡ []
      unfolding lemma_at lemma_of
      last_none = rw (word_last text at x w inside is)

      module _ (some : length x.number.digits.now ≡ 0 → ⊥) (first_sign : x.start ≤ at) (zero_value : x.number.value ≡ 0) where
        closes : is_zero first ≡ true
        unfolding is_zero with_sign
        closes =
            let plus = sym (sign_before text at x w) ∙ le-ltb at x.start first_sign in
            let none = sym (value_zero x.number) ∙ eq-eqb x.number.value 0 zero_value in
            rw plus (and_both _ _ (numbered text at x w some) none)

        pub line_closed : (n : ℕ) → line_from most text n at ≡ Some (record { past = (x.start + length x.number.digits.now) + 1; count = n })
        unfolding line_from good_line
        line_closed n =
            rw (
              word_last_ended text at x w inside is,
              last_right,
              closes,
              word_last_next text at x w inside is,
              last_none,
              add-zero n,
            )

    -- a space follows: the word is a literal
    module _ (is : get_or text (x.start + length x.number.digits.now) 0 ≡ space) where
      pub lemma_first : lemma_at text at ≡ (latch_literal first ∷ lemma_at text ((x.start + length x.number.digits.now) + 1))
      unfolding lemma_at
      lemma_first = ap lemma_of (word_space text at x w inside is) ∙ lemma_of_more first (line_at text ((x.start + length x.number.digits.now) + 1))

      module _ (some : length x.number.digits.now ≡ 0 → ⊥) (small : most < huge) where
        space_right : lemma_right most (words (line_at text at))
            ≡ (between 1 most x.number.value && lemma_right most (words (line_at text ((x.start + length x.number.digits.now) + 1))))
        space_right =
            ap (lemma_right most) (word_space text at x w inside is)
            ∙ lemma_more most first (line_at text ((x.start + length x.number.digits.now) + 1))
            ∙ rw (
              latch_right_is negative x.number.digits.now plain most,
              numbered text at x w some,
              value_between x.number most small,
            )

        pub good_space : between 1 most x.number.value ≡ true → good_line most text at ≡ good_line most text ((x.start + length x.number.digits.now) + 1)
        unfolding good_line
        good_space h = rw (word_space_ended text at x w inside is, space_right, h)

        pub bad_latch : between 1 most x.number.value ≡ false → good_line most text at ≡ false
        bad_latch h = bad_words most text at (rw (space_right, h))

        pub line_space : (n : ℕ) → between 1 most x.number.value ≡ true
            → line_from most text n at ≡ line_from most text (n + 1) ((x.start + length x.number.digits.now) + 1)
        unfolding line_from
        line_space n h =
            let more : n + length (lemma_at text at) ≡ n + 1 + length (lemma_at text ((x.start + length x.number.digits.now) + 1)) = omega (arith, ap length lemma_first) in
            rw (good_space h, word_space_next text at x w inside is, more)

  -- the text ends behind the word, or it has no digit
  pub bad_start : (length text ≤ (x.start + length x.number.digits.now)) ⊎ (((x.start + length x.number.digits.now) < length text) × (length x.number.digits.now ≡ 0)) → good_line most text at ≡ false
  bad_start (inl h) = bad_cut h
  bad_start (inr h) = bad_empty h.0 h.1

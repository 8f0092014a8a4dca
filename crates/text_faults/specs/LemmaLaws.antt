-- Laws of a lemma line's causes: by the word at a place, and the byte after it.
use Rattle.std.specs.Prelude.{ℕ, suc, ◌+◌, ◌≤◌, ◌<◌, ◌≡◌, ◌⊎◌, ◌==◌, Bool, List, [], ◌∷◌, length, get_or, eqb, leb, ltb, None, Some}
use Rattle.std.proofs.Math.Path.{refl, sym, ap}
use Rattle.std.proofs.Common.{◌∙◌, inl, inr, true≢false, arith}
use Rattle.std.proofs.lemmas.Bool.Decides.{nat_tests}
use Rattle.std.proofs.Math.Bool.{true, false, cond}
use borrow.Author.Tests.{eq-eqb, ne_eqb, lt-ltb, le-ltb, le-leb, lt-leb, leb-true, ltb-true, ltb-false}
use Rattle.meaning.specs.Lines.{newline, space, line_at, ended, words, is_number, is_empty, decimal}
use Rattle.meaning.specs.LemmaText.{unsigned, is_zero}
use Rattle.laws.specs.Basics.{bool_cases}
use Rattle.lines.specs.Digits.{huge, capped}
use Rattle.lines.specs.Past.{first_word}
use Rattle.lines.specs.PastLaws.{some_digits}
use Rattle.lemma_text.specs.declared.line.Word.{Word as LineWord}
use Rattle.lemma_text.specs.Words.{WordAt, minus_at, digits_start, with_sign, unsigned_is, plain_span, signed_not_zero, sign_before, word_cut, word_last, word_space, word_other}
use Rattle.lemma_text.specs.Line.{value_zero}
use Rattle.text_faults.specs.declared.lemmas.Cause.TheVariants.{Word, Inner, Over, NoZero}
use Rattle.text_faults.specs.Lemmas.{last_cause, inner_cause, words_cause}

-- ---- a value as far as it is below the bound

capped_over : (most v : ℕ) → most < capped v → most < v
unfolding capped
capped_over most v h = go (bool_cases (leb huge v)) h
  where
    go : (leb huge v ≡ true) ⊎ (leb huge v ≡ false) → most < capped v → most < v
    go (inl t) = λ h. let e : capped v ≡ huge = rw t in omega (arith, leb-true huge v t, e, h)
    go (inr t) = λ h. let e : capped v ≡ v = rw t in omega (arith, e, h)

capped_most : (most v : ℕ) → most < huge → capped v ≤ most → v ≤ most
unfolding capped
capped_most most v small h = go (bool_cases (leb huge v)) h
  where
    go : (leb huge v ≡ true) ⊎ (leb huge v ≡ false) → capped v ≤ most → v ≤ most
    go (inl t) = λ h. let e : capped v ≡ huge = rw t in absurd (omega (arith, e, h))
    go (inr t) = λ h. let e : capped v ≡ v = rw t in omega (arith, e, h)

-- whether a word has no digits, as a test says it
pub empty_is : (n : ℕ) (b : Bool) → b ≡ (n == 0) → (b ≡ true → n ≡ 0) × (b ≡ false → n ≡ 0 → ⊥)
empty_is n b said = (λ is. grind (arith, nat_tests), λ is e. grind (arith, nat_tests))

-- ---- words and causes

inner_more : (most j : ℕ) (w l : List ℕ) → words_cause most j (w ∷ words l) ≡ inner_cause most j w (words_cause most (suc j) (words l))
unfolding words_cause
inner_more most j w l = let on = first_word l in rw on.2

-- a first word that is no number
wrong_first : (most j : ℕ) (w : List ℕ) (ws : List (List ℕ)) → is_number (unsigned w) ≡ false → words_cause most j (w ∷ ws) ≡ Some (Word j)
unfolding words_cause last_cause inner_cause
wrong_first most j w [] h = rw h
wrong_first most j w (v ∷ ws) h = rw h

module _ (text : List ℕ) (at : ℕ) (x : LineWord) (w : WordAt text at x) where
  abbrev digits : List ℕ
  digits = x.number.digits.now

  abbrev end : ℕ
  end = x.start + length digits

  abbrev first : List ℕ
  first = with_sign (minus_at text at) digits

  bare : unsigned first ≡ digits
  bare = unsigned_is (minus_at text at) digits (λ t. plain_span text at x w)

  no_number : length digits ≡ 0 → is_number digits ≡ false
  unfolding is_number is_empty
  no_number = go digits
    where
      go : (d : List ℕ) → length d ≡ 0 → is_number d ≡ false
      go [] e = refl
      go (b ∷ d) e = absurd (omega (arith, e))

  a_number : (length digits ≡ 0 → ⊥) → is_number digits ≡ true
  a_number some =
      some_digits text x.start x.number w.whole (λ e. some (omega (arith, e)))

  pub start_rises : at ≤ x.start
  unfolding digits_start
  start_rises = go (minus_at text at) w.start
    where
      go : (t : Bool) → x.start ≡ cond t (at + 1) at → at ≤ x.start
      go true e = omega (arith, e)
      go false e = omega (arith, e)

  pub ends_inside : ended text at ≡ true → end < length text
  ends_inside h = go (bool_cases (ltb end (length text)))
    where
      go : (ltb end (length text) ≡ true) ⊎ (ltb end (length text) ≡ false) → end < length text
      go (inl t) = ltb-true end (length text) t
      go (inr t) = absurd (true≢false (sym h ∙ word_cut text at x w (ltb-false end (length text) t)))

  -- the last word
  module _ (j : ℕ) where
    pub last_empty : length digits ≡ 0 → Some (Word j) ≡ last_cause j first
    unfolding last_cause
    last_empty h = rw (bare, no_number h)

    module _ (some : length digits ≡ 0 → ⊥) where
      last_by : (t : Bool) → is_zero first ≡ t → cond t None (Some NoZero) ≡ last_cause j first
      unfolding last_cause
      last_by t e = rw (bare, a_number some, e)

      pub last_signed : at < x.start → Some NoZero ≡ last_cause j first
      last_signed h =
          let minus = sym (sign_before text at x w) ∙ lt-ltb at x.start h in
          last_by false (ap (λ (t : Bool). is_zero (with_sign t digits)) minus ∙ signed_not_zero digits)

      module _ (plus : x.start ≤ at) where
        unsigned_zero : (t : Bool) → eqb x.number.value 0 ≡ t → is_zero first ≡ t
        unfolding is_zero with_sign
        unsigned_zero t e =
            let no_sign = sym (sign_before text at x w) ∙ le-ltb at x.start plus in
            ap (λ (s : Bool). is_zero (with_sign s digits)) no_sign
            ∙ (rw (a_number some, sym (value_zero x.number), e))

        pub last_value : 0 < x.number.value → Some NoZero ≡ last_cause j first
        last_value h = last_by false (unsigned_zero false (ne_eqb x.number.value 0 (λ e. omega (arith, e))))

        pub last_right : x.number.value ≡ 0 → None ≡ last_cause j first
        last_right h = last_by true (unsigned_zero true (eq-eqb x.number.value 0 h))

  module _ (most j : ℕ) (inside : end < length text) where
    pub line_last : get_or text end 0 ≡ newline → words_cause most j (words (line_at text at)) ≡ last_cause j first
    unfolding words_cause
    line_last is = ap (words_cause most j) (word_last text at x w inside is)

    pub line_spoiled : (get_or text end 0 ≡ newline → ⊥) → (get_or text end 0 ≡ space → ⊥)
        → words_cause most j (words (line_at text at)) ≡ Some (Word j)
    line_spoiled not_newline not_space =
        let on = word_other text at x w inside not_newline not_space in
        let plain = unsigned_is (minus_at text at) on.0 on.4 in
        ap (words_cause most j) on.2 ∙ wrong_first most j _ on.1 (ap is_number plain ∙ on.3)

    module _ (is : get_or text end 0 ≡ space) where
      on_space : words_cause most j (words (line_at text at))
          ≡ inner_cause most j first (words_cause most (suc j) (words (line_at text (end + 1))))
      on_space = ap (words_cause most j) (word_space text at x w inside is) ∙ inner_more most j first (line_at text (end + 1))

      pub inner_empty : length digits ≡ 0 → words_cause most j (words (line_at text at)) ≡ Some (Word j)
      unfolding inner_cause
      inner_empty h = on_space ∙ (rw (bare, no_number h))

      module _ (some : length digits ≡ 0 → ⊥) where
        pub inner_zero : x.number.value ≡ 0 → words_cause most j (words (line_at text at)) ≡ Some (Inner j)
        unfolding inner_cause
        inner_zero h =
            on_space ∙ (rw (bare, a_number some, sym (value_zero x.number), eq-eqb x.number.value 0 h))

        module _ (not_zero : x.number.value ≡ 0 → ⊥) where
          pub inner_over : most < x.number.value → words_cause most j (words (line_at text at)) ≡ Some (Over j)
          unfolding inner_cause
          inner_over h =
              let far : most < decimal digits = capped_over most (decimal digits) (omega (arith, x.number.valued)) in
              on_space
              ∙ (rw (
                bare,
                a_number some,
                sym (value_zero x.number),
                ne_eqb x.number.value 0 not_zero,
                lt-leb (decimal digits) most far,
              ))

          pub inner_on : most < huge → x.number.value ≤ most
              → words_cause most j (words (line_at text at)) ≡ words_cause most (suc j) (words (line_at text (end + 1)))
          unfolding inner_cause
          inner_on small h =
              let near : decimal digits ≤ most = capped_most most (decimal digits) small (omega (arith, x.number.valued)) in
              on_space
              ∙ (rw (
                bare,
                a_number some,
                sym (value_zero x.number),
                ne_eqb x.number.value 0 not_zero,
                le-leb (decimal digits) most near,
              ))

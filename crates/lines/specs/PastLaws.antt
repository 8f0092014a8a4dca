-- Where the line after one of so many numbers starts, number by number.
use Rattle.std.specs.Prelude.{ℕ, zero, suc, ◌+◌, ◌-◌, ◌≤◌, ◌<◌, ◌≡◌, refl, ◌⊎◌, Bool, true, false, ◌&&◌, List, [], ◌∷◌, length, get_or, drop, eqb, ltb, Option, Some, None, IfSome, option_and_then}
use Rattle.std.proofs.Common.{arith, sym, ap, ◌∙◌, inl, inr, eq-eqb, ne_eqb, eqb-true, ltb-true, ltb-false}
use Rattle.std.proofs.lemmas.Bool.{eqb-false}
use Rattle.meaning.specs.Clauses.{all}
use Rattle.meaning.specs.Lines.{newline, space, line_at, ended, words, is_empty, is_number, of_numbers}
use Rattle.laws.specs.Basics.{bool_cases, nonzero}
use Rattle.lines.specs.declared.number.Number.{Number}
use Rattle.lines.specs.Digits.{digits_of}
use Rattle.lines.specs.Past.{line_past, first_word, number_cut, words_last, ended_last, next_last, words_space, ended_space, next_space, words_other}

and_false : (a : Bool) → (a && false) ≡ false
and_false true = refl
and_false false = refl

-- a line that is not of numbers
none_past : (width : ℕ) (text : List ℕ) (at : ℕ) → of_numbers width (line_at text at) ≡ false → line_past width text at ≡ None
unfolding line_past
none_past width text at h = rw (h, and_false (ended text at))

-- its words are not all numbers, or not so many
not_numbers : (width : ℕ) (line : List ℕ) → all is_number (words line) ≡ false → of_numbers width line ≡ false
unfolding of_numbers
not_numbers width line h = rw (h, and_false (eqb (length (words line)) width))

not_so_many : (width : ℕ) (line : List ℕ) → (length (words line) ≡ width → ⊥) → of_numbers width line ≡ false
unfolding of_numbers
not_so_many width line h = rw (ne_eqb (length (words line)) width h)

-- a first word that is empty is no number
empty_first : (w : List ℕ) (ws : List (List ℕ)) → w ≡ [] → all is_number (w ∷ ws) ≡ false
unfolding all is_number is_empty
empty_first w ws e = rw e

-- a first word that is a number
number_first : (w : List ℕ) (ws : List (List ℕ)) → is_number w ≡ true → all is_number (w ∷ ws) ≡ all is_number ws
unfolding all
number_first w ws h = rw h

eqb_suc : (a b : ℕ) → eqb (suc a) (suc b) ≡ eqb a b
eqb_suc a b = go (bool_cases (eqb a b))
  where
    go : (eqb a b ≡ true) ⊎ (eqb a b ≡ false) → eqb (suc a) (suc b) ≡ eqb a b
    go (inl t) = eq-eqb (suc a) (suc b) (ap suc (eqb-true a b t)) ∙ sym t
    go (inr t) = ne_eqb (suc a) (suc b) (λ e. eqb-false a b t (omega (arith, e))) ∙ sym t

no_length : (w : List ℕ) → length w ≡ 0 → w ≡ []
no_length [] e = refl
no_length (b ∷ w) e = absurd (nonzero (length w) e)

not_empty : (w : List ℕ) → (length w ≡ 0 → ⊥) → is_empty w ≡ false
unfolding is_empty
not_empty [] h = absurd (h refl)
not_empty (b ∷ w) h = refl

module _ (text : List ℕ) (at : ℕ) (x : Number) (whole : x.digits.now ≡ digits_of (drop at text)) where
  -- digits, one at least
  pub some_digits : ((at + length x.digits.now) ≡ at → ⊥) → is_number x.digits.now ≡ true
  unfolding is_number
  some_digits h =
      rw (not_empty x.digits.now (λ e. h (omega (arith, e)))) x.digital

  pub past_cut : (width : ℕ) → length text ≤ (at + length x.digits.now) → line_past width text at ≡ None
  unfolding line_past
  past_cut width h = rw (number_cut text at x whole h)

  module _ (inside : (at + length x.digits.now) < length text) where
    pub past_empty : (width : ℕ) → (at + length x.digits.now) ≡ at → line_past width text at ≡ None
    past_empty width h = none_past width text at (not_numbers width (line_at text at) (go (bool_cases (eqb (get_or text (at + length x.digits.now) 0) newline)) (bool_cases (eqb (get_or text (at + length x.digits.now) 0) space))))
      where
        none : x.digits.now ≡ []
        none = no_length x.digits.now (omega (arith, h))

        go : (eqb (get_or text (at + length x.digits.now) 0) newline ≡ true) ⊎ (eqb (get_or text (at + length x.digits.now) 0) newline ≡ false)
            → (eqb (get_or text (at + length x.digits.now) 0) space ≡ true) ⊎ (eqb (get_or text (at + length x.digits.now) 0) space ≡ false)
            → all is_number (words (line_at text at)) ≡ false
        go (inl t) b =
            ap (all is_number) (words_last text at x whole inside (eqb-true _ _ t)) ∙ empty_first x.digits.now [] none
        go (inr t) (inl u) =
            ap (all is_number) (words_space text at x whole inside (eqb-true _ _ u)) ∙ empty_first x.digits.now _ none
        go (inr t) (inr u) = words_other text at x whole inside (eqb-false _ _ t) (eqb-false _ _ u)

    pub past_last : (left : ℕ) → left ≡ 1 → ((at + length x.digits.now) ≡ at → ⊥) → get_or text (at + length x.digits.now) 0 ≡ newline → line_past left text at ≡ Some ((at + length x.digits.now) + 1)
    unfolding line_past of_numbers all
    past_last left one some is =
        rw (one, ended_last text at x whole inside is, words_last text at x whole inside is, some_digits some)
        (ap Some (next_last text at x whole inside is))

    pub past_not_last : (left : ℕ) → left ≡ 1 → (get_or text (at + length x.digits.now) 0 ≡ newline → ⊥) → line_past left text at ≡ None
    past_not_last left one other =
        ap (λ (k : ℕ). line_past k text at) one ∙ go (bool_cases (eqb (get_or text (at + length x.digits.now) 0) space))
      where
        more : (w l : List ℕ) → words (line_at text at) ≡ (w ∷ words l) → length (words (line_at text at)) ≡ 1 → ⊥
        more w l e one =
            let on = first_word l in
            omega (arith, ap length e, ap length on.2, one)

        go : (eqb (get_or text (at + length x.digits.now) 0) space ≡ true) ⊎ (eqb (get_or text (at + length x.digits.now) 0) space ≡ false) → line_past 1 text at ≡ None
        go (inl t) =
            none_past 1 text at
            (not_so_many 1 (line_at text at)
            (more x.digits.now (line_at text ((at + length x.digits.now) + 1)) (words_space text at x whole inside (eqb-true _ _ t))))
        go (inr t) =
            none_past 1 text at (not_numbers 1 (line_at text at) (words_other text at x whole inside other (eqb-false _ _ t)))

    one_less : (width : ℕ) → ((at + length x.digits.now) ≡ at → ⊥) → get_or text (at + length x.digits.now) 0 ≡ space
        → line_past (suc (suc width)) text at ≡ line_past (suc width) text ((at + length x.digits.now) + 1)
    unfolding line_past of_numbers
    one_less width some is =
        rw (
          ended_space text at x whole inside is,
          next_space text at x whole inside is,
          words_space text at x whole inside is,
          number_first x.digits.now (words (line_at text ((at + length x.digits.now) + 1))) (some_digits some),
          eqb_suc (length (words (line_at text ((at + length x.digits.now) + 1)))) (suc width),
        )

    pub past_space : (left : ℕ) → 1 ≤ left → (left ≡ 1 → ⊥) → ((at + length x.digits.now) ≡ at → ⊥) → get_or text (at + length x.digits.now) 0 ≡ space
        → line_past left text at ≡ line_past (left - 1) text ((at + length x.digits.now) + 1)
    past_space (suc (suc width)) least more some is =
        one_less width some is ∙ ap (λ (k : ℕ). line_past k text ((at + length x.digits.now) + 1)) (omega arith)
    past_space (suc zero) least more some is = absurd (more refl)
    past_space zero least more some is = absurd (omega arith)

    no_space : (width : ℕ) → (get_or text (at + length x.digits.now) 0 ≡ space → ⊥) → line_past (suc (suc width)) text at ≡ None
    no_space width other = go (bool_cases (eqb (get_or text (at + length x.digits.now) 0) newline))
      where
        go : (eqb (get_or text (at + length x.digits.now) 0) newline ≡ true) ⊎ (eqb (get_or text (at + length x.digits.now) 0) newline ≡ false)
            → line_past (suc (suc width)) text at ≡ None
        go (inl t) =
            none_past (suc (suc width)) text at
            (not_so_many (suc (suc width)) (line_at text at)
            (λ e. omega (arith, ap length (words_last text at x whole inside (eqb-true _ _ t)), e)))
        go (inr t) =
            none_past (suc (suc width)) text at
            (not_numbers (suc (suc width)) (line_at text at)
            (words_other text at x whole inside (eqb-false _ _ t) other))

    pub past_no_space : (left : ℕ) → 1 ≤ left → (left ≡ 1 → ⊥) → (get_or text (at + length x.digits.now) 0 ≡ space → ⊥) → line_past left text at ≡ None
    past_no_space (suc (suc width)) least more other = no_space width other
    past_no_space (suc zero) least more other = absurd (more refl)
    past_no_space zero least more other = absurd (omega arith)

-- ---- a number and the byte after it

-- the place past both, where that byte is this one: a space says what the rest of the line says, and a newline ends it
pub record PastNumber (text : List ℕ) (at byte : ℕ) (r : Option ℕ) : Type 0 where
  pub spaced : byte ≡ space → (left : ℕ) → option_and_then (line_past (suc left) text) r ≡ line_past (suc (suc left)) text at
  pub closed : byte ≡ newline → r ≡ line_past 1 text at
  pub inside : IfSome r (λ next. next ≤ length text)

module _ (text : List ℕ) (at byte : ℕ) where
  -- no such number or no such byte
  not_there : (byte ≡ space → (left : ℕ) → line_past (suc (suc left)) text at ≡ None) → (byte ≡ newline → line_past 1 text at ≡ None)
      → PastNumber text at byte None
  not_there more last =
      record { spaced = λ e left. sym (more e left); closed = λ e. sym (last e); inside = tt }

  module _ (x : Number) (whole : x.digits.now ≡ digits_of (drop at text)) where
    pub number_missing : (at + length x.digits.now) ≡ at → at ≤ length text → PastNumber text at byte None
    number_missing none in_text = go (ltb (at + length x.digits.now) (length text)) refl
      where
        go : (b : Bool) → ltb (at + length x.digits.now) (length text) ≡ b → PastNumber text at byte None
        go true t =
            let inside = ltb-true (at + length x.digits.now) (length text) t in
            not_there (λ e left. past_empty text at x whole inside (suc (suc left)) none)
            (λ e. past_empty text at x whole inside 1 none)
        go false t =
            let cut = ltb-false (at + length x.digits.now) (length text) t in
            not_there (λ e left. past_cut text at x whole (suc (suc left)) cut)
            (λ e. past_cut text at x whole 1 cut)

    pub number_last : length text ≤ (at + length x.digits.now) → PastNumber text at byte None
    number_last cut =
        not_there (λ e left. past_cut text at x whole (suc (suc left)) cut)
        (λ e. past_cut text at x whole 1 cut)

    module _ (inside : (at + length x.digits.now) < length text) where
      pub number_before : (get_or text (at + length x.digits.now) 0 ≡ byte → ⊥) → PastNumber text at byte None
      number_before other =
          not_there
          (λ e left.
          past_no_space text at x whole inside (suc (suc left)) (omega arith) (λ o. omega (arith, o)) (λ o. other (o ∙ sym e)))
          (λ e. past_not_last text at x whole inside 1 refl (λ o. other (o ∙ sym e)))

      pub number_past : ((at + length x.digits.now) ≡ at → ⊥) → get_or text (at + length x.digits.now) 0 ≡ byte → PastNumber text at byte (Some ((at + length x.digits.now) + 1))
      number_past some is =
          record {
            spaced = λ e left. sym (one_less text at x whole inside left some (is ∙ e));
            closed = λ e. sym (past_last text at x whole inside 1 refl some (is ∙ e));
            inside = omega arith;
          }

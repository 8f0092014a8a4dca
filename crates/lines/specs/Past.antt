-- Lines of numbers, read from the front: what a number at a place and the byte after it say of the line that starts there.
use Prim.Native.Nat.{ℕ, suc, ◌+◌, ◌≤◌, ◌<◌}
use Rattle.std.proofs.Common.{arith, add-one, sym, ◌∙◌, length-append, drop_of_length-le, drop-cons, drop-drop}
use Rattle.std.specs.Prelude.{◌≡◌, refl, Bool, true, false, not, ◌&&◌, cond, drop, eqb, Option, Some, None}
use Rattle.std.proofs.Math.Path.{ap}
use mathlib.Core.List.{List, [], ◌∷◌, ◌++◌, append-nil}
use Rattle.std.proofs.Math.ListN.{length, get_or}
use Rattle.std.proofs.Math.Dec.{ltb}
use borrow.Author.Tests.{lt-ltb, le-ltb, eq-eqb, ne_eqb, leb-true}
use Rattle.meaning.specs.Clauses.{all}
use Rattle.meaning.specs.File.{between}
use Rattle.meaning.specs.Lines.{newline, space, until, line_at, ended, next_line, with_first, words, is_empty, is_digit, is_number, of_numbers}
use Rattle.laws.specs.Basics.{and_left, and_right}
use Rattle.lines.specs.declared.number.Number.{Number}
use Rattle.lines.specs.Digits.{digits_of}

-- where the line after one of so many numbers starts; none where it is not ended or not so
unfoldable pub line_past : ℕ → List ℕ → ℕ → Option ℕ
line_past width text at = cond (ended text at && of_numbers width (line_at text at)) (Some (next_line text at)) None

-- ---- one byte that is not a newline

module _ (text : List ℕ) (at : ℕ) (inside : at < length text) where
  pub line_byte : (get_or text at 0 ≡ newline → ⊥) → line_at text at ≡ (get_or text at 0 ∷ line_at text (suc at))
  unfolding line_at until
  line_byte other = ap (until newline) (drop-cons text at 0 inside) ∙ rw (ne_eqb (get_or text at 0) newline other)

  pub line_none : get_or text at 0 ≡ newline → line_at text at ≡ []
  unfolding line_at until
  line_none is = ap (until newline) (drop-cons text at 0 inside) ∙ rw (eq-eqb (get_or text at 0) newline is)

  module _ (other : get_or text at 0 ≡ newline → ⊥) where
    one_on : at + length (line_at text at) ≡ at + 1 + length (line_at text (at + 1))
    one_on =
        omega (arith, ap length (line_byte other), ap (λ (k : ℕ). length (line_at text k)) (sym (add-one at)))

    pub ended_byte : ended text at ≡ ended text (at + 1)
    unfolding ended
    ended_byte = ap (λ (k : ℕ). ltb k (length text)) one_on

    pub next_byte : next_line text at ≡ next_line text (at + 1)
    unfolding next_line
    next_byte = ap suc one_on

  pub next_newline : get_or text at 0 ≡ newline → next_line text at ≡ at + 1
  unfolding next_line
  next_newline is = omega (arith, ap length (line_none is))

pub line_past_end : (text : List ℕ) (at : ℕ) → length text ≤ at → line_at text at ≡ []
unfolding line_at until
line_past_end text at h = ap (until newline) (drop_of_length-le text h)

pub not_ended : (text : List ℕ) (at : ℕ) → length text ≤ at → ended text at ≡ false
unfolding ended
not_ended text at h =
    le-ltb (at + length (line_at text at)) (length text) (omega (arith, ap length (line_past_end text at h)))

-- ---- digits at the start of a line

digit_is_other : (b other : ℕ) → is_digit b ≡ true → other < 48 → b ≡ other → ⊥
unfolding is_digit between
digit_is_other b other d low e = omega (arith, leb-true 48 b (and_left _ _ d), e)

until_digits : (d r : List ℕ) → all is_digit d ≡ true → until newline (d ++ r) ≡ d ++ until newline r
unfolding until all
until_digits [] r h = refl
until_digits (b ∷ d) r h =
    let digit = and_left (is_digit b) (all is_digit d) h in
    rw (ne_eqb b newline (digit_is_other b newline digit (omega arith)))
    (ap (λ (l : List ℕ). b ∷ l) (until_digits d r (and_right (is_digit b) (all is_digit d) h)))

-- what is put before a line goes before its first word
pub words_digits : (d l w : List ℕ) (ws : List (List ℕ)) → all is_digit d ≡ true → words l ≡ (w ∷ ws) → words (d ++ l) ≡ ((d ++ w) ∷ ws)
unfolding words all with_first
words_digits [] l w ws h e = e
words_digits (b ∷ d) l w ws h e =
    let digit = and_left (is_digit b) (all is_digit d) h in
    rw (ne_eqb b space (digit_is_other b space digit (omega arith)))
    (ap (with_first b) (words_digits d l w ws (and_right (is_digit b) (all is_digit d) h) e))

-- every line has a first word
pub first_word : (l : List ℕ) → (w : List ℕ) × (ws : List (List ℕ)) × (words l ≡ (w ∷ ws))
unfolding words with_first
first_word [] = ([], [], refl)
first_word (b ∷ l) = go (eqb b space) (first_word l)
  where
    go : (t : Bool) → (w : List ℕ) × (ws : List (List ℕ)) × (words l ≡ (w ∷ ws))
        → (w : List ℕ) × (ws : List (List ℕ)) × (cond t ([] ∷ words l) (with_first b (words l)) ≡ (w ∷ ws))
    go true on = ([], words l, refl)
    go false on = (b ∷ on.0, on.1, ap (with_first b) on.2)

digits_take : (s : List ℕ) → s ≡ digits_of s ++ drop (length (digits_of s)) s
unfolding digits_of
digits_take [] = refl
digits_take (b ∷ s) = go (is_digit b) (digits_take s)
  where
    go : (t : Bool) → s ≡ digits_of s ++ drop (length (digits_of s)) s
        → (b ∷ s) ≡ cond t (b ∷ digits_of s) [] ++ drop (length (cond t (b ∷ digits_of s) [])) (b ∷ s)
    go true on = ap (λ (l : List ℕ). b ∷ l) on
    go false on = refl

-- what follows the digits that a text starts with starts with none
digits_rest : (s : List ℕ) → digits_of (drop (length (digits_of s)) s) ≡ []
unfolding digits_of
digits_rest [] = refl
digits_rest (b ∷ s) = go (is_digit b) refl (digits_rest s)
  where
    go : (t : Bool) → is_digit b ≡ t → digits_of (drop (length (digits_of s)) s) ≡ []
        → digits_of (drop (length (cond t (b ∷ digits_of s) [])) (b ∷ s)) ≡ []
    go true t on = on
    go false t on = rw t

no_digit_first : (b : ℕ) (s : List ℕ) → digits_of (b ∷ s) ≡ [] → is_digit b ≡ false
unfolding digits_of
no_digit_first b s h = go (is_digit b) h
  where
    go : (t : Bool) → cond t (b ∷ digits_of s) [] ≡ [] → t ≡ false
    go true e = let z : ◌≡◌ {A = ℕ} 0 1 = cc in absurd (omega arith)
    go false e = refl

-- a byte that is no digit spoils the first word
spoiled : (d : List ℕ) (b : ℕ) (w : List ℕ) (ws : List (List ℕ)) → is_digit b ≡ false → all is_number ((d ++ (b ∷ w)) ∷ ws) ≡ false
unfolding all is_number
spoiled d b w ws h = rw (no_digits d) (go (is_empty (d ++ (b ∷ w))))
  where
    no_digits : (d : List ℕ) → all is_digit (d ++ (b ∷ w)) ≡ false
    no_digits [] = rw h
    no_digits (a ∷ d) = rw (no_digits d) (none (is_digit a))
      where
        none : (t : Bool) → (t && false) ≡ false
        none true = refl
        none false = refl

    go : (t : Bool) → ((not t && false) && all is_number ws) ≡ false
    go true = refl
    go false = refl

-- ---- a number at the start of a line, and the byte after it

module _ (text : List ℕ) (at : ℕ) (x : Number) (whole : x.digits.now ≡ digits_of (drop at text)) where
  rest : drop at text ≡ x.digits.now ++ drop (at + length x.digits.now) text
  rest =
      digits_take (drop at text)
      ∙ ap (λ (d : List ℕ). d ++ drop (length d) (drop at text)) (sym whole)
      ∙ ap (λ (l : List ℕ). x.digits.now ++ l) (drop-drop (length x.digits.now) at text)

  -- the byte after it is no digit
  pub no_digit_after : (at + length x.digits.now) < length text → is_digit (get_or text (at + length x.digits.now) 0) ≡ false
  no_digit_after inside =
      let none =
      ap (λ (d : List ℕ). digits_of (drop (length d) (drop at text))) whole ∙ digits_rest (drop at text) in
      let here = ap digits_of (sym (drop-drop (length x.digits.now) at text)) ∙ none in
      no_digit_first (get_or text (at + length x.digits.now) 0) (drop (suc (at + length x.digits.now)) text)
      (ap digits_of (sym (drop-cons text (at + length x.digits.now) 0 inside)) ∙ here)

  pub line_number : line_at text at ≡ x.digits.now ++ line_at text (at + length x.digits.now)
  unfolding line_at
  line_number = ap (until newline) rest ∙ until_digits x.digits.now (drop (at + length x.digits.now) text) x.digital

  -- the line ends where the rest of it ends
  same_length : at + length (line_at text at) ≡ (at + length x.digits.now) + length (line_at text (at + length x.digits.now))
  same_length = omega (arith, ap length line_number, length-append x.digits.now (line_at text (at + length x.digits.now)))

  pub ended_number : ended text at ≡ ended text (at + length x.digits.now)
  unfolding ended
  ended_number = ap (λ (k : ℕ). ltb k (length text)) same_length

  pub next_number : next_line text at ≡ next_line text (at + length x.digits.now)
  unfolding next_line
  next_number = ap suc same_length

  -- no byte follows
  pub number_cut : length text ≤ (at + length x.digits.now) → ended text at ≡ false
  unfolding ended
  number_cut h =
      ended_number ∙ not_ended text (at + length x.digits.now) h

  module _ (inside : (at + length x.digits.now) < length text) where
    -- a newline follows: the line is this number
    module _ (is : get_or text (at + length x.digits.now) 0 ≡ newline) where
      pub words_last : words (line_at text at) ≡ (x.digits.now ∷ [])
      unfolding words
      words_last =
          ap words line_number
          ∙ words_digits x.digits.now (line_at text (at + length x.digits.now)) [] [] x.digital (ap words (line_none text (at + length x.digits.now) inside is))
          ∙ ap (λ (w : List ℕ). w ∷ []) (append-nil x.digits.now)

      pub ended_last : ended text at ≡ true
      unfolding ended
      ended_last =
          ended_number ∙ lt-ltb ((at + length x.digits.now) + length (line_at text (at + length x.digits.now))) (length text)
          (omega (arith, ap length (line_none text (at + length x.digits.now) inside is)))

      pub next_last : next_line text at ≡ (at + length x.digits.now) + 1
      unfolding next_line
      next_last = next_number ∙ omega (arith, ap length (line_none text (at + length x.digits.now) inside is))

    -- a space follows: the rest of the line stands after it
    module _ (is : get_or text (at + length x.digits.now) 0 ≡ space) where
      line_space : line_at text (at + length x.digits.now) ≡ (space ∷ line_at text ((at + length x.digits.now) + 1))
      line_space =
          line_byte text (at + length x.digits.now) inside (λ e. omega (arith, is, e))
          ∙ ap (λ (b : ℕ). b ∷ line_at text (suc (at + length x.digits.now))) is
          ∙ ap (λ (k : ℕ). space ∷ line_at text k) (sym (add-one (at + length x.digits.now)))

      pub words_space : words (line_at text at) ≡ (x.digits.now ∷ words (line_at text ((at + length x.digits.now) + 1)))
      unfolding words
      words_space =
          ap words line_number
          ∙ words_digits x.digits.now (line_at text (at + length x.digits.now)) [] (words (line_at text ((at + length x.digits.now) + 1))) x.digital (ap words line_space)
          ∙ ap (λ (w : List ℕ). w ∷ words (line_at text ((at + length x.digits.now) + 1))) (append-nil x.digits.now)

      pub ended_space : ended text at ≡ ended text ((at + length x.digits.now) + 1)
      ended_space = ended_number ∙ ended_byte text (at + length x.digits.now) inside (λ e. omega (arith, is, e))

      pub next_space : next_line text at ≡ next_line text ((at + length x.digits.now) + 1)
      next_space = next_number ∙ next_byte text (at + length x.digits.now) inside (λ e. omega (arith, is, e))

    -- another byte follows: the first word is no number
    pub words_other : (get_or text (at + length x.digits.now) 0 ≡ newline → ⊥) → (get_or text (at + length x.digits.now) 0 ≡ space → ⊥)
        → all is_number (words (line_at text at)) ≡ false
    unfolding words with_first
    words_other not_newline not_space =
        let b = get_or text (at + length x.digits.now) 0 in
        let on = first_word (line_at text (suc (at + length x.digits.now))) in
        let line = line_byte text (at + length x.digits.now) inside not_newline in
        let here : words (line_at text (at + length x.digits.now)) ≡ ((b ∷ on.0) ∷ on.1) =
        ap words line ∙ rw (ne_eqb b space not_space) (ap (with_first b) on.2) in
        let is = ap words line_number ∙ words_digits x.digits.now (line_at text (at + length x.digits.now)) (b ∷ on.0) on.1 x.digital here in
        ap (all is_number) is ∙ spoiled x.digits.now b on.0 on.1 (no_digit_after inside)

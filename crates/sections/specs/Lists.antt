-- So many lines from a place on, whatever they hold; what each starts with where it is a line of numbers.
use Prim.Native.Nat.{ℕ, zero, suc, ◌+◌, ◌-◌, ◌≤◌, ◌<◌}
use Rattle.std.proofs.Common.{arith, sym, subst, ◌∙◌, inl, inr, true≢false, lt-ltb, le-ltb, ltb-true, ltb-false, eqb-true}
use Rattle.std.specs.Prelude.{◌≡◌, ◌⊎◌, Bool, true, false, ◌||◌, cond, length, drop, ltb, eqb, Option, Some, None, is_some, unwrap_or, IfSome}
use Rattle.std.proofs.Math.Path.{refl, ap}
use mathlib.Core.List.{List, [], ◌∷◌, ◌++◌, map, append-nil}
use Rattle.std.proofs.Math.ListN.{get_or}
use Rattle.std.proofs.lemmas.List.{length-map}
use Rattle.std.proofs.Math.Dec.{leb-suc-suc}
use Rattle.std.proofs.lemmas.Bool.{eqb-false}
use Rattle.meaning.specs.Clauses.{any, all}
use Rattle.meaning.specs.Lines.{line_at, ended, next_line, words, is_number, decimal, newline, space}
use Rattle.meaning.specs.Circuit.{var}
use Rattle.meaning.specs.Built.{position, among}
use Rattle.meaning.specs.CircuitText.{Line, numbers_at, at_number, defined_in}
use Rattle.laws.specs.Basics.{bool_cases}
use Rattle.lines.specs.declared.number.Number.{Number}
use Rattle.lines.specs.Digits.{digits_of}
use Rattle.lines.specs.Numbers.{worth}
use Rattle.lines.specs.Past.{words_last, words_space, words_other, line_number, line_past_end, words_digits}
use Rattle.sections.specs.declared.find.Lines.{Lines}

-- so many lines from a place on
unfoldable pub first_lines : List ℕ → ℕ → ℕ → List Line
first_lines text at zero = []
first_lines text at (suc i) = record { at = at; numbers = numbers_at text at } ∷ first_lines text (next_line text at) i

-- where the line after them starts
unfoldable pub line_after : List ℕ → ℕ → ℕ → ℕ
line_after text at zero = at
line_after text at (suc i) = line_after text (next_line text at) i

-- each of them is ended, and holds numbers
abbrev pub Numbered : List ℕ → ℕ → ℕ → Type 0
Numbered text at zero = Unit {0}
Numbered text at (suc i) =
    (ended text at ≡ true) × (all is_number (words (line_at text at)) ≡ true) × Numbered text (next_line text at) i

-- the lines stand in the text
pub record Placed (text : List ℕ) (s : Lines) : Type 0 where
  pub inside : s.at ≤ length text
  pub numbered : Numbered text s.at s.count

-- the variables that they define
unfoldable pub variables_of : List ℕ → Lines → List ℕ
variables_of text s = defined_in (first_lines text s.at s.count)

-- ---- positions

-- the position of a variable among some, if it is one of them
unfoldable pub found_at : ℕ → List ℕ → Option ℕ
found_at u us = cond (among u us) (Some (position u us)) None

pub found_among : (u : ℕ) (us : List ℕ) → is_some (found_at u us) ≡ among u us
unfolding found_at
found_among u us = go (among u us)
  where
    go : (b : Bool) → is_some (cond b (Some (position u us)) None) ≡ b
    go true = refl
    go false = refl

-- what finding one, or none, says
pub found_some : (u : ℕ) (us : List ℕ) (i : ℕ) → Some i ≡ found_at u us → (among u us ≡ true) × (i ≡ position u us)
unfolding found_at
found_some u us i is = go (among u us) refl is
  where
    go : (b : Bool) → among u us ≡ b → Some i ≡ cond b (Some (position u us)) None → (among u us ≡ true) × (i ≡ position u us)
    go true t e = (t, cc)
    go false t e = absurd (cc)

pub found_none : (u : ℕ) (us : List ℕ) → None ≡ found_at u us → among u us ≡ false
unfolding found_at
found_none u us is = go (among u us) refl is
  where
    go : (b : Bool) → among u us ≡ b → None ≡ cond b (Some (position u us)) None → among u us ≡ false
    go true t e = absurd (cc)
    go false t e = t

pub among_position : (u : ℕ) (us : List ℕ) → ltb (position u us) (length us) ≡ among u us
unfolding position among any
among_position u [] = refl
among_position u (v ∷ us) = go (eqb u v) (among_position u us)
  where
    go : (b : Bool) → ltb (position u us) (length us) ≡ any (eqb u) us
        → ltb (cond b 0 (suc (position u us))) (suc (length us)) ≡ (b || any (eqb u) us)
    go true e = lt-ltb 0 (suc (length us)) (omega arith)
    go false e = leb-suc-suc (suc (position u us)) (length us) ∙ e

-- ---- a number at the start of a line of numbers

module _ (text : List ℕ) (at : ℕ) (x : Number) (whole : x.digits.now ≡ digits_of (drop at text)) where
  pub first_word_is : all is_number (words (line_at text at)) ≡ true → (ws : List (List ℕ)) × (words (line_at text at) ≡ (x.digits.now ∷ ws))
  unfolding words
  first_word_is h = inside_or (bool_cases (ltb (at + length x.digits.now) (length text)))
    where
      Found : Type 0
      Found = (ws : List (List ℕ)) × (words (line_at text at) ≡ (x.digits.now ∷ ws))

      by_byte : (at + length x.digits.now) < length text
          → (eqb (get_or text (at + length x.digits.now) 0) newline ≡ true) ⊎ (eqb (get_or text (at + length x.digits.now) 0) newline ≡ false)
          → (eqb (get_or text (at + length x.digits.now) 0) space ≡ true) ⊎ (eqb (get_or text (at + length x.digits.now) 0) space ≡ false) → Found
      by_byte inside (inl t) b = ([], words_last text at x whole inside (eqb-true _ _ t))
      by_byte inside (inr t) (inl u) =
          (words (line_at text ((at + length x.digits.now) + 1)), words_space text at x whole inside (eqb-true _ _ u))
      by_byte inside (inr t) (inr u) =
          absurd (true≢false (sym h ∙ words_other text at x whole inside (eqb-false _ _ t) (eqb-false _ _ u)))

      inside_or : (ltb (at + length x.digits.now) (length text) ≡ true) ⊎ (ltb (at + length x.digits.now) (length text) ≡ false) → Found
      inside_or (inl t) =
          by_byte (ltb-true (at + length x.digits.now) (length text) t) (bool_cases (eqb (get_or text (at + length x.digits.now) 0) newline))
          (bool_cases (eqb (get_or text (at + length x.digits.now) 0) space))
      inside_or (inr t) = (
        [],
        ap words (line_number text at x whole)
            ∙ words_digits x.digits.now (line_at text (at + length x.digits.now)) [] [] x.digital
            (ap words (line_past_end text (at + length x.digits.now) (ltb-false (at + length x.digits.now) (length text) t)))
            ∙ ap (λ (w : List ℕ). w ∷ []) (append-nil x.digits.now),
      )

  -- what the line defines is the variable of that number
  pub first_number_is : all is_number (words (line_at text at)) ≡ true → get_or (numbers_at text at) 0 0 ≡ worth x
  unfolding numbers_at worth
  first_number_is h = let found = first_word_is h in ap (λ (l : List (List ℕ)). get_or (map decimal l) 0 0) found.1

-- ---- one line more

module _ (text : List ℕ) where
  pub lines_more : (at i : ℕ) → first_lines text at (suc i)
      ≡ first_lines text at i ++ (record { at = line_after text at i; numbers = numbers_at text (line_after text at i) } ∷ [])
  unfolding first_lines line_after
  lines_more at zero = refl
  lines_more at (suc i) = ap (λ (ls : List Line). record { at = at; numbers = numbers_at text at } ∷ ls) (lines_more (next_line text at) i)

  pub after_more : (at i : ℕ) → line_after text at (suc i) ≡ next_line text (line_after text at i)
  unfolding line_after
  after_more at zero = refl
  after_more at (suc i) = after_more (next_line text at) i

  pub numbered_more : (at i : ℕ) → Numbered text at i → ended text (line_after text at i) ≡ true
      → all is_number (words (line_at text (line_after text at i))) ≡ true → Numbered text at (suc i)
  unfolding line_after
  numbered_more at zero h e w = (e, w, tt)
  numbered_more at (suc i) h e w = (h.0, h.1, numbered_more (next_line text at) i h.2 e w)

  pub length_lines : (at i : ℕ) → length (first_lines text at i) ≡ i
  unfolding first_lines
  length_lines at zero = refl
  length_lines at (suc i) = ap suc (length_lines (next_line text at) i)

-- ---- looking for a variable

-- the first of the lines left is passed, or it is the one
module _ (text : List ℕ) (u p i count : ℕ) (less : i < count) where
  up : count - i ≡ suc (count - (i + 1))
  up = omega arith

  first_left : first_lines text p (count - i)
      ≡ (record { at = p; numbers = numbers_at text p } ∷ first_lines text (next_line text p) (count - (i + 1)))
  unfolding first_lines
  first_left = ap (first_lines text p) up

  pub numbered_left : Numbered text p (count - i)
      → (ended text p ≡ true) × (all is_number (words (line_at text p)) ≡ true) × Numbered text (next_line text p) (count - (i + 1))
  numbered_left h = subst (Numbered text p) up h

  pub found_here : (v : ℕ) → v ≡ var (get_or (numbers_at text p) 0 0) → eqb u v ≡ true
      → position u (defined_in (first_lines text p (count - i))) ≡ 0
  unfolding defined_in position at_number
  found_here v is e =
      ap (λ (ls : List Line). position u (defined_in ls)) first_left ∙ rw (sym (ap (eqb u) is) ∙ e)

  pub found_later : (v : ℕ) → v ≡ var (get_or (numbers_at text p) 0 0) → eqb u v ≡ false
      → position u (defined_in (first_lines text p (count - i)))
      ≡ suc (position u (defined_in (first_lines text (next_line text p) (count - (i + 1)))))
  unfolding defined_in position at_number
  found_later v is e =
      ap (λ (ls : List Line). position u (defined_in ls)) first_left ∙ rw (sym (ap (eqb u) is) ∙ e)

pub position_end : (text : List ℕ) (u p i count : ℕ) → i ≡ count → position u (defined_in (first_lines text p (count - i))) ≡ 0
unfolding first_lines defined_in position
position_end text u p i count e =
    ap (λ (k : ℕ). position u (defined_in (first_lines text p k))) (none e)
  where
    none : i ≡ count → count - i ≡ 0
    none e = omega arith

pub variables_length : (text : List ℕ) (s : Lines) → length (variables_of text s) ≡ s.count
unfolding variables_of defined_in
variables_length text s =
    length-map (first_lines text s.at s.count) (λ (l : Line). var (at_number 0 l)) ∙ length_lines text s.at s.count

pub defines_is : (text : List ℕ) (s : Lines) (u r : ℕ) → r ≡ position u (variables_of text s)
    → ltb r s.count ≡ among u (variables_of text s)
defines_is text s u r is =
    ap (λ (k : ℕ). ltb k s.count) is
    ∙ ap (ltb (position u (variables_of text s))) (sym (variables_length text s))
    ∙ among_position u (variables_of text s)

-- where none is found the position is the number of lines
pub nowhere : (text : List ℕ) (s : Lines) (u : ℕ) → None ≡ found_at u (variables_of text s) → position u (variables_of text s) ≡ s.count
unfolding position among any
nowhere text s u is =
    past_all (variables_of text s) (found_none u (variables_of text s) is) ∙ variables_length text s
  where
    past_all : (us : List ℕ) → among u us ≡ false → position u us ≡ length us
    past_all [] e = refl
    past_all (v ∷ us) e = go (eqb u v) e (past_all us)
      where
        go : (b : Bool) → (b || any (eqb u) us) ≡ false → (any (eqb u) us ≡ false → position u us ≡ length us)
            → cond b 0 (suc (position u us)) ≡ suc (length us)
        go true h on = absurd (true≢false h)
        go false h on = ap suc (on h)

pub found_or : (text : List ℕ) (s : Lines) (u : ℕ) (r : Option ℕ) → r ≡ found_at u (variables_of text s)
    → unwrap_or r s.count ≡ position u (variables_of text s)
found_or text s u None is = sym (nowhere text s u is)
found_or text s u (Some i) is = (found_some u (variables_of text s) i is).1

pub found_most : (r : Option ℕ) (n : ℕ) → IfSome r (λ i. i < n) → unwrap_or r n ≤ n
found_most None n h = omega arith
found_most (Some i) n h = omega (arith, h)

-- the position below the number of lines is where it is found
pub found_below : (text : List ℕ) (s : Lines) (u i : ℕ) → i ≡ position u (variables_of text s) → i < s.count
    → Some i ≡ found_at u (variables_of text s)
unfolding found_at
found_below text s u i is less = sym (rw (sym (defines_is text s u i is) ∙ lt-ltb i s.count less) (ap Some (sym is)))

pub found_past : (text : List ℕ) (s : Lines) (u i : ℕ) → i ≡ position u (variables_of text s) → s.count ≤ i
    → None ≡ found_at u (variables_of text s)
unfolding found_at
found_past text s u i is past = sym (rw (sym (defines_is text s u i is) ∙ le-ltb i s.count past))

-- The form of a symbol line, as the number after its letter and the byte after that say it.
use Rattle.std.specs.Prelude.{ℕ, ◌+◌, ◌≤◌, ◌<◌, ◌≡◌, Bool, not, ◌&&◌, cond, drop, leb, eqb}
use native.Mathlib.Omega.{arith}
use Rattle.std.proofs.Common.{add-one, ◌∙◌, length-append}
use Rattle.std.proofs.Math.Path.{refl, sym, ap}
use Rattle.std.proofs.Math.Bool.{true, false}
use mathlib.Core.List.{List, [], ◌∷◌, ◌++◌, append-nil}
use Rattle.std.proofs.Math.ListN.{length, get_or}
use Rattle.std.proofs.Math.Dec.{ltb}
use borrow.Author.Tests.{le-ltb, le-leb, lt-leb, eq-eqb, ne_eqb, leb-true, eqb-true}
use Rattle.meaning.specs.Clauses.{all}
use Rattle.meaning.specs.File.{between}
use Rattle.meaning.specs.Lines.{newline, space, until, line_at, is_empty, is_digit, is_number, decimal}
use Rattle.meaning.specs.CircuitText.{Header, positions, symbol_digits, symbol_of, same_bytes, begins_comment}
use Rattle.laws.specs.Basics.{not_both, and_left, and_right, nonzero}
use Rattle.lines.specs.declared.number.Number.{Number}
use Rattle.lines.specs.Digits.{huge, capped, digits_of}
use Rattle.lines.specs.Numbers.{worth}
use Rattle.lines.specs.Past.{line_byte, line_none, line_number, no_digit_after}
use Rattle.lines.specs.PastLaws.{some_digits}
use Rattle.symbols.specs.Symbols.{LineTo, named_right}

and_false : (a : Bool) → (a && false) ≡ false
and_false true = refl
and_false false = refl

and_true : (a : Bool) → (a && true) ≡ a
and_true true = refl
and_true false = refl

-- a byte below the digits is none
not_digit : (b : ℕ) → b < 48 → is_digit b ≡ false
unfolding is_digit between
not_digit b low = rw (lt-leb 48 b low)

-- digits hold no byte that is below them
until_digits : (other : ℕ) (d r : List ℕ) → other < 48 → all is_digit d ≡ true → until other (d ++ r) ≡ d ++ until other r
unfolding until all
until_digits other [] r low h = refl
until_digits other (b ∷ d) r low h =
    let digit = and_left (is_digit b) (all is_digit d) h in
    rw (ne_eqb b other (λ e. not_both digit (ap is_digit e ∙ not_digit other low)))
    (ap (λ (l : List ℕ). b ∷ l) (until_digits other d r low (and_right (is_digit b) (all is_digit d) h)))

-- a byte that is no digit spoils a number
not_number : (d : List ℕ) (b : ℕ) (w : List ℕ) → is_digit b ≡ false → is_number (d ++ (b ∷ w)) ≡ false
unfolding is_number all
not_number d b w h = rw (none d) (and_false (not (is_empty (d ++ (b ∷ w)))))
  where
    none : (d : List ℕ) → all is_digit (d ++ (b ∷ w)) ≡ false
    none [] = rw h
    none (a ∷ d) = rw (none d) (and_false (is_digit a))

-- where what stands before the first space or newline is digits, these are the digits that the text starts with
pub all_digits : (s : List ℕ) → all is_digit (until space (until newline s)) ≡ true → until space (until newline s) ≡ digits_of s
unfolding until all digits_of
all_digits [] h = refl
all_digits (b ∷ s) h = go (eqb b newline) refl (eqb b space) refl (all_digits s)
  where
    go : (n : Bool) → eqb b newline ≡ n → (p : Bool) → eqb b space ≡ p
        → (all is_digit (until space (until newline s)) ≡ true → until space (until newline s) ≡ digits_of s)
        → until space (until newline (b ∷ s)) ≡ digits_of (b ∷ s)
    go true n p q on = rw (n, ap is_digit (eqb-true b newline n) ∙ not_digit newline (omega arith))
    go false n true q on = rw (n, q, ap is_digit (eqb-true b space q) ∙ not_digit space (omega arith))
    go false n false q on =
        let both : all is_digit (b ∷ until space (until newline s)) ≡ true = rw (n, q) at h in
        let digit = and_left (is_digit b) (all is_digit (until space (until newline s))) both in
        let others = and_right (is_digit b) (all is_digit (until space (until newline s))) both in
        rw (n, q, digit) (ap (λ (l : List ℕ). b ∷ l) (on others))

-- ---- lines that are not of the form

-- too short for a letter, the digits, a space and a byte
too_short : (h : Header) (line : List ℕ) → length line < length (symbol_digits line) + 3 → named_right h line ≡ false
unfolding named_right
too_short h line less =
    rw (lt-leb (length (symbol_digits line) + 3) (length line) less)
    (and_false (is_number (symbol_digits line) && ltb (symbol_of line).at (positions h (symbol_of line).letter)))

-- what stands before the first space is no number
no_position : (h : Header) (line : List ℕ) → is_number (symbol_digits line) ≡ false → named_right h line ≡ false
unfolding named_right
no_position h line none = rw none

-- below the bound a value decides as the number does
pub capped_less : (v n : ℕ) → n < huge → ltb (capped v) n ≡ ltb v n
unfolding capped
capped_less v n small = go (leb huge v) refl
  where
    go : (b : Bool) → leb huge v ≡ b → ltb (cond b huge v) n ≡ ltb v n
    go true t =
        let far : n ≤ v = omega (arith, leb-true huge v t) in
        le-ltb huge n (omega arith) ∙ sym (le-ltb v n far)
    go false t = refl

-- ---- a line as it stands in the text

no_bytes : (l : List ℕ) → length l ≡ 0 → l ≡ []
no_bytes [] e = refl
no_bytes (b ∷ l) e = absurd (nonzero (length l) e)

-- a line with a byte starts with the byte that stands there
pub some_byte : (text : List ℕ) (at : ℕ) → at < length text → 0 < length (line_at text at)
    → line_at text at ≡ (get_or text at 0 ∷ line_at text (at + 1))
some_byte text at inside some =
    line_byte text at inside (λ e. omega (arith, ap length (line_none text at inside e)))
    ∙ ap (λ (k : ℕ). get_or text at 0 ∷ line_at text k) (sym (add-one at))

module _ (text : List ℕ) (at end : ℕ) (line : LineTo text at end) (closed : end < length text) where
  -- a line 'c' has one byte, which is 99
  pub no_comment : (end ≡ at + 1 → ⊥) → false ≡ begins_comment (line_at text at)
  unfolding begins_comment same_bytes
  no_comment other = go (line_at text at) (λ e. other (omega (arith, line.is, e)))
    where
      go : (l : List ℕ) → (length l ≡ 1 → ⊥) → false ≡ same_bytes l (99 ∷ [])
      go [] h = refl
      go (a ∷ []) h = absurd (h refl)
      go (a ∷ b ∷ l) h = sym (and_false (eqb a 99))

  pub comment_is : end ≡ at + 1 → eqb (get_or text at 0) 99 ≡ begins_comment (line_at text at)
  unfolding begins_comment same_bytes
  comment_is one =
      let some : 0 < length (line_at text at) = omega (arith, line.is, one) in
      let first = some_byte text at (omega (arith, one)) some in
      let rest = no_bytes (line_at text (at + 1)) (omega (arith, line.is, one, ap length first)) in
      sym (ap (λ (l : List ℕ). same_bytes l (99 ∷ [])) (first ∙ ap (λ (l : List ℕ). get_or text at 0 ∷ l) rest) ∙ and_true (eqb (get_or text at 0) 99))

  pub nothing_named : (h : Header) → end ≡ at → false ≡ named_right h (line_at text at)
  nothing_named h none = sym (too_short h (line_at text at) (omega (arith, line.is, none)))

  module _ (some : end ≡ at → ⊥) (x : Number) (whole : x.digits.now ≡ digits_of (drop (at + 1) text)) where
    starts : line_at text at ≡ (get_or text at 0 ∷ line_at text (at + 1))
    starts =
        let more : 0 < length (line_at text at) = omega (arith, line.is, some) in
        some_byte text at (omega (arith, line.is)) more

    digits_are : symbol_digits (line_at text at) ≡ x.digits.now ++ until space (line_at text (at + 1 + length x.digits.now))
    unfolding symbol_digits
    digits_are =
        ap (λ (l : List ℕ). until space (drop 1 l)) starts
        ∙ ap (until space) (line_number text (at + 1) x whole)
        ∙ until_digits space x.digits.now (line_at text (at + 1 + length x.digits.now)) (omega arith) x.digital

    -- the line goes on after its digits
    pub goes_on : end ≡ at + 1 + length x.digits.now + length (line_at text (at + 1 + length x.digits.now))
    goes_on =
        omega (
          arith,
          line.is,
          ap length starts,
          ap length (line_number text (at + 1) x whole),
          length-append x.digits.now (line_at text (at + 1 + length x.digits.now)),
        )

    pub no_name : (h : Header) → end ≤ at + 1 + length x.digits.now + 1 → false ≡ named_right h (line_at text at)
    no_name h short =
        sym
        (too_short h (line_at text at)
        (omega (
          arith,
          line.is,
          ap length digits_are,
          length-append x.digits.now (until space (line_at text (at + 1 + length x.digits.now))),
        )))

    module _ (named : at + 1 + length x.digits.now + 1 < end) where
      pub no_space : (h : Header) → (get_or text (at + 1 + length x.digits.now) 0 ≡ space → ⊥) → false ≡ named_right h (line_at text at)
      unfolding until
      no_space h other =
          let b = get_or text (at + 1 + length x.digits.now) 0 in
          let inside : at + 1 + length x.digits.now < length text = omega arith in
          let more : 0 < length (line_at text (at + 1 + length x.digits.now)) = omega (arith, goes_on) in
          let rest : until space (line_at text (at + 1 + length x.digits.now)) ≡ (b ∷ until space (line_at text (at + 1 + length x.digits.now + 1))) =
          ap (until space) (some_byte text (at + 1 + length x.digits.now) inside more) ∙ rw (ne_eqb b space other) in
          let digits = digits_are ∙ ap (λ (l : List ℕ). x.digits.now ++ l) rest in
          sym
          (no_position h (line_at text at)
          (ap is_number digits
          ∙ not_number x.digits.now b (until space (line_at text (at + 1 + length x.digits.now + 1))) (no_digit_after text (at + 1) x whole inside)))

      module _ (is : get_or text (at + 1 + length x.digits.now) 0 ≡ space) where
        digits_is : symbol_digits (line_at text at) ≡ x.digits.now
        unfolding until
        digits_is =
            let inside : at + 1 + length x.digits.now < length text = omega arith in
            let more : 0 < length (line_at text (at + 1 + length x.digits.now)) = omega (arith, goes_on) in
            let rest : until space (line_at text (at + 1 + length x.digits.now)) ≡ [] =
            ap (until space) (some_byte text (at + 1 + length x.digits.now) inside more) ∙ rw (eq-eqb (get_or text (at + 1 + length x.digits.now) 0) space is) in
            digits_are ∙ ap (λ (l : List ℕ). x.digits.now ++ l) rest ∙ append-nil x.digits.now

        pub no_digits : (h : Header) → at + 1 + length x.digits.now ≡ at + 1 → false ≡ named_right h (line_at text at)
        unfolding is_number is_empty
        no_digits h none =
            let empty = no_bytes x.digits.now (omega (arith, none)) in
            sym (no_position h (line_at text at) (ap is_number (digits_is ∙ empty)))

        letter_is : (symbol_of (line_at text at)).letter ≡ get_or text at 0
        unfolding symbol_of
        letter_is = ap (λ (l : List ℕ). get_or l 0 0) starts

        place_is : (symbol_of (line_at text at)).at ≡ worth x
        unfolding symbol_of worth
        place_is = ap decimal digits_is

        -- all is there: the position decides
        pub by_place : (h : Header) → (at + 1 + length x.digits.now ≡ at + 1 → ⊥) → (n : ℕ) → n ≡ positions h (get_or text at 0) → n < huge
            → ltb x.value n ≡ named_right h (line_at text at)
        unfolding named_right worth
        by_place h other n count small =
            let digits : is_number (symbol_digits (line_at text at)) ≡ true =
            ap is_number digits_is ∙ some_digits text (at + 1) x whole other in
            let fits : length (symbol_digits (line_at text at)) + 3 ≤ length (line_at text at) =
            omega (arith, ap length digits_is, line.is) in
            sym
            (rw (digits, le-leb (length (symbol_digits (line_at text at)) + 3) (length (line_at text at)) fits, and_true)
            (rw (letter_is, place_is, ← count) (sym (ap (λ (v : ℕ). ltb v n) x.valued ∙ capped_less (worth x) n small))))

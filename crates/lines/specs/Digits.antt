-- The digits of a number in a text, and its value as far as it is below a bound.
use Rattle.std.specs.Prelude.{ℕ, suc, ◌+◌, ◌-◌, ◌*◌, ◌≤◌, ◌<◌, ◌≡◌, ◌⊎◌, Bool, ◌&&◌, take, drop, leb, Option, Some, None}
use native.Mathlib.Omega.{arith}
use Rattle.std.proofs.Common.{add-one, sym, subst, ◌∙◌, inl, inr, drop_of_length-le, drop-cons, take-suc, length-take-le}
use Rattle.std.proofs.Math.Path.{refl, ap}
use Rattle.std.proofs.Math.Bool.{true, false, cond}
use mathlib.Core.List.{List, [], ◌∷◌, ◌++◌, append_assoc, append-nil}
use Rattle.std.proofs.Math.ListN.{length, get_or}
use Rattle.std.proofs.Math.Seq.{slice, slice_empty}
use Rattle.std.proofs.lemmas.List.{drop-append-le, drop-take}
use Rattle.std.proofs.Math.Dec.{ltb}
use borrow.Author.Tests.{lt-ltb, le-ltb, ltb-true, ltb-false, leb-true, leb-false, le-leb, lt-leb}
use Rattle.meaning.specs.Clauses.{all}
use Rattle.meaning.specs.File.{between}
use Rattle.meaning.specs.Lines.{is_digit, decimal, decimal_on}
use Rattle.laws.specs.Basics.{bool_cases, and_both, all_append}

-- the digits that a text starts with
unfoldable pub digits_of : List ℕ → List ℕ
digits_of [] = []
digits_of (b ∷ bs) = cond (is_digit b) (b ∷ digits_of bs) []

-- the digit at a place, if one stands there
unfoldable pub digit_at : List ℕ → ℕ → Option ℕ
digit_at text at = cond (ltb at (length text)) (cond (is_digit (get_or text at 0)) (Some (get_or text at 0 - 48)) None) None

abbrev pub huge : ℕ
huge = 18446744073709551610

abbrev pub tenth : ℕ
tenth = 1844674407370955161

-- a value, as far as it is below the bound
unfoldable pub capped : ℕ → ℕ
capped v = cond (leb huge v) huge v

unfoldable pub grown : ℕ → ℕ → ℕ
grown v d = cond (leb tenth v) huge (10 * v + d)

-- digits stand in a text: they are some of its bytes, one behind another
unfoldable pub StandIn : List ℕ → List ℕ → Type 0
StandIn text digits = (start : ℕ) × (start + length digits ≤ length text) × (digits ≡ slice start (start + length digits) text)

-- ---- a digit at a place

module _ (text : List ℕ) (at : ℕ) where
  pub digit_past : length text ≤ at → digit_at text at ≡ None
  unfolding digit_at
  digit_past h = rw (le-ltb at (length text) h)

  module _ (in_text : at < length text) where
    pub digit_none : (48 ≤ get_or text at 0 → get_or text at 0 ≤ 57 → ⊥) → digit_at text at ≡ None
    unfolding digit_at is_digit between
    digit_none other = rw (lt-ltb at (length text) in_text) (go (leb 48 (get_or text at 0)) (leb (get_or text at 0) 57) refl refl)
      where
        go : (low high : Bool) → leb 48 (get_or text at 0) ≡ low → leb (get_or text at 0) 57 ≡ high
            → cond (low && high) (Some (get_or text at 0 - 48)) None ≡ None
        go true true t u = absurd (other (leb-true 48 (get_or text at 0) t) (leb-true (get_or text at 0) 57 u))
        go true false t u = refl
        go false high t u = refl

    pub digit_low : get_or text at 0 < 48 → digit_at text at ≡ None
    digit_low h = digit_none (λ low high. omega (arith, h, low))

    pub digit_high : 57 < get_or text at 0 → digit_at text at ≡ None
    digit_high h = digit_none (λ low high. omega (arith, h, high))

    pub digit_of_digit : is_digit (get_or text at 0) ≡ true → digit_at text at ≡ Some (get_or text at 0 - 48)
    unfolding digit_at
    digit_of_digit h = rw (lt-ltb at (length text) in_text, h)

    pub digit_is : 48 ≤ get_or text at 0 → get_or text at 0 ≤ 57 → digit_at text at ≡ Some (get_or text at 0 - 48)
    unfolding digit_at is_digit between
    digit_is low high = rw (lt-ltb at (length text) in_text, le-leb 48 (get_or text at 0) low, le-leb (get_or text at 0) 57 high)

  -- there is a digit exactly if one stands there
  pub a_digit : (d : ℕ) → digit_at text at ≡ Some d
      → (at < length text) × (is_digit (get_or text at 0) ≡ true) × (d ≡ get_or text at 0 - 48)
  unfolding digit_at
  a_digit d h = go (ltb at (length text)) (is_digit (get_or text at 0)) refl refl h
    where
      go : (inside digit : Bool) → ltb at (length text) ≡ inside → is_digit (get_or text at 0) ≡ digit
          → cond inside (cond digit (Some (get_or text at 0 - 48)) None) None ≡ Some d
          → (at < length text) × (is_digit (get_or text at 0) ≡ true) × (d ≡ get_or text at 0 - 48)
      go true true t u is = (ltb-true at (length text) t, u, cc)
      go true false t u is = absurd (cc)
      go false digit t u is = absurd (cc)

  pub no_digit : digit_at text at ≡ None → digits_of (drop at text) ≡ []
  unfolding digit_at digits_of
  no_digit h = go (ltb at (length text)) (is_digit (get_or text at 0)) refl refl h
    where
      go : (inside digit : Bool) → ltb at (length text) ≡ inside → is_digit (get_or text at 0) ≡ digit
          → cond inside (cond digit (Some (get_or text at 0 - 48)) None) None ≡ None → digits_of (drop at text) ≡ []
      go true true t u is = absurd (cc)
      go true false t u is = ap digits_of (drop-cons text at 0 (ltb-true at (length text) t)) ∙ rw u
      go false digit t u is = ap digits_of (drop_of_length-le text (ltb-false at (length text) t))

-- ---- a digit more

pub grown_capped : (v d : ℕ) → d ≤ 9 → grown (capped v) d ≡ capped (10 * v + d)
unfolding grown capped
grown_capped v d h = go (bool_cases (leb huge v)) (bool_cases (leb tenth v))
  where
    go : (leb huge v ≡ true) ⊎ (leb huge v ≡ false) → (leb tenth v ≡ true) ⊎ (leb tenth v ≡ false)
        → grown (capped v) d ≡ capped (10 * v + d)
    go (inl t) b =
        let far : huge ≤ 10 * v + d = omega (arith, leb-true huge v t) in
        rw (t, le-leb huge (10 * v + d) far)
    go (inr t) (inl u) =
        let far : huge ≤ 10 * v + d = omega (arith, leb-true tenth v u) in
        rw (t, u, le-leb huge (10 * v + d) far)
    go (inr t) (inr u) =
        let near : 10 * v + d < huge = omega (arith, leb-false tenth v u) in
        rw (t, u, lt-leb huge (10 * v + d) near)

pub decimal_more : (high : ℕ) (w : List ℕ) (b : ℕ) → decimal_on high (w ++ (b ∷ [])) ≡ 10 * decimal_on high w + (b - 48)
unfolding decimal_on
decimal_more high [] b = refl
decimal_more high (a ∷ w) b = decimal_more (10 * high + (a - 48)) w b

pub slice_more : (text : List ℕ) (from end : ℕ) → from ≤ end → end < length text
    → slice from (suc end) text ≡ slice from end text ++ (get_or text end 0 ∷ [])
slice_more text from end rises inside =
    let long : from ≤ length (take end text) = omega (arith, length-take-le end text (lt_le inside)) in
    ap (drop from) (take-suc text end 0 inside) ∙ drop-append-le from (take end text) (get_or text end 0 ∷ []) long
  where
    lt_le : end < length text → end ≤ length text
    lt_le h = omega arith

pub all_more : (w : List ℕ) (b : ℕ) → all is_digit w ≡ true → is_digit b ≡ true → all is_digit (w ++ (b ∷ [])) ≡ true
unfolding all
all_more w b h d = all_append is_digit w (b ∷ []) ∙ and_both (all is_digit w) (all is_digit (b ∷ [])) h (and_both (is_digit b) true d refl)

-- ---- a number, as far as it is read: its digits up to a place, and those from there on

pub record Begun (text : List ℕ) (at end value : ℕ) : Type 0 where
  pub rises : at ≤ end
  pub inside : end ≤ length text
  pub digits : all is_digit (slice at end text) ≡ true
  pub valued : value ≡ capped (decimal (slice at end text))
  pub whole : digits_of (drop at text) ≡ slice at end text ++ digits_of (drop end text)

pub begun : (text : List ℕ) (at : ℕ) → at ≤ length text → Begun text at at 0
unfolding decimal decimal_on capped all
begun text at h =
    record {
      rises = omega arith;
      inside = h;
      digits = rw (slice_empty at text);
      valued = rw (slice_empty at text);
      whole = rw (slice_empty at text);
    }

-- one digit more
pub begun_more : {text : List ℕ} {at end value : ℕ} (d : ℕ) → Begun text at end value → digit_at text end ≡ Some d → d ≤ 9
    → Begun text at (end + 1) (grown value d)
unfolding decimal digits_of
begun_more {text} {at} {end} {value} d h is small =
    let here = a_digit text end d is in
    let more = slice_more text at end h.rises here.0 in
    record {
      rises = omega (arith, h.rises);
      inside = omega (arith, here.0);
      digits =
          subst (λ (j : ℕ). all is_digit (slice at j text) ≡ true) (sym (add-one end))
          (ap (all is_digit) more ∙ all_more (slice at end text) (get_or text end 0) h.digits here.1);
      valued =
          ap (λ (v : ℕ). grown v d) h.valued
          ∙ grown_capped (decimal (slice at end text)) d small
          ∙ ap (λ (d : ℕ). capped (10 * decimal (slice at end text) + d)) here.2
          ∙ ap capped (sym (decimal_more 0 (slice at end text) (get_or text end 0)))
          ∙ ap (λ (w : List ℕ). capped (decimal w)) (sym more)
          ∙ ap (λ (j : ℕ). capped (decimal (slice at j text))) (sym (add-one end));
      whole =
          h.whole
          ∙ ap (λ (w : List ℕ). slice at end text ++ w)
          (ap digits_of (drop-cons text end 0 here.0) ∙ rw here.1)
          ∙ sym (append_assoc (slice at end text) (get_or text end 0 ∷ []) (digits_of (drop (suc end) text)))
          ∙ ap (λ (w : List ℕ). w ++ digits_of (drop (suc end) text)) (sym more)
          ∙ ap (λ (j : ℕ). slice at j text ++ digits_of (drop j text)) (sym (add-one end));
    }

-- no digit more
pub begun_whole : {text : List ℕ} {at end value : ℕ} → Begun text at end value → digit_at text end ≡ None
    → slice at end text ≡ digits_of (drop at text)
begun_whole {text} {at} {end} h none =
    sym (append-nil (slice at end text)) ∙ ap (λ (w : List ℕ). slice at end text ++ w) (sym (no_digit text end none)) ∙ sym h.whole

-- ---- digits that stand in a text

digits_first : (w : List ℕ) → digits_of w ≡ take (length (digits_of w)) w
unfolding digits_of
digits_first [] = refl
digits_first (b ∷ bs) = go (is_digit b) (digits_first bs)
  where
    go : (t : Bool) → digits_of bs ≡ take (length (digits_of bs)) bs
        → cond t (b ∷ digits_of bs) [] ≡ take (length (cond t (b ∷ digits_of bs) [])) (b ∷ bs)
    go true on = ap (λ (l : List ℕ). b ∷ l) on
    go false on = refl

-- those that start at a place do
pub stand_at : (text digits : List ℕ) (at : ℕ) → digits ≡ digits_of (drop at text) → at + length digits ≤ length text → StandIn text digits
unfolding StandIn
stand_at text digits at whole inside = (
  at,
  inside,
  whole ∙ digits_first (drop at text) ∙ ap (λ (d : List ℕ). take (length d) (drop at text)) (sym whole)
      ∙ sym (drop-take at (length digits) text),
)

-- where there are none, they stand in every text
pub none_stand : (text : List ℕ) → StandIn text []
unfolding StandIn
none_stand text = (0, omega arith, sym (slice_empty 0 text))

-- The header as the code finds it: 'aag', a space, and a line of five to nine numbers from there on.
use Prim.Native.Nat.{ℕ, suc, ◌+◌, ◌≤◌, ◌<◌}
use Rattle.std.proofs.Common.{arith, subst, ◌∙◌, inl, inr, true≢false}
use Rattle.std.specs.List.{starts_with}
use Rattle.std.specs.Prelude.{◌≡◌, ◌⊎◌, Bool, not, ◌&&◌, length, get_or, drop, Option, None, is_some, MatchOption}
use Rattle.std.proofs.Math.Path.{refl, sym, ap}
use Rattle.std.proofs.Math.Bool.{true, false}
use mathlib.Core.List.{List, [], ◌∷◌, ◌++◌, map}
use Rattle.std.proofs.lemmas.List.{length-map}
use Rattle.std.proofs.Math.ListN.{get_or-map}
use Rattle.std.proofs.Math.Dec.{ltb, leb, eqb, leb-suc-suc}
use borrow.Author.Tests.{eqb-true, eqb-false, eq-eqb, ne_eqb, ltb-true, ltb-false, leb-true, le-leb, lt-leb}
use Rattle.meaning.specs.Clauses.{all}
use Rattle.meaning.specs.File.{between}
use Rattle.meaning.specs.Lines.{newline, space, until, line_at, ended, next_line, with_first, words, is_number, decimal, decimal_on, of_numbers}
use Rattle.meaning.specs.CircuitText
use Rattle.meaning.specs.CircuitText.{aag, same_bytes, number_in, header_of, header_right, numbers_at}
use Rattle.laws.specs.Basics.{bool_cases, and_left, and_right, and_both, not_true_is_false}
use Rattle.lines.specs.declared.number.Number.{Number}
use Rattle.lines.specs.Digits.{StandIn}
use Rattle.lines.specs.Numbers.{worth}
use Rattle.lines.specs.Past.{line_past, line_byte, first_word}
use Rattle.std.specs.declared.cmp.Ordering.{Ordering}
use Rattle.std.specs.Ordering.{is_gt}
use Rattle.lines.specs.Order.{order, order_cases, order_less, order_same, order_more}
use Rattle.lines.specs.Literals.{nothing_worth}
use Rattle.sections.specs.Split.{numbers_count, numbers_all}
use Rattle.sections.specs.LineOf.{past_none, past_some, get_d_past}
use Rattle.circuit_text.specs.declared.header.Header.{Header}

-- the text starts with 'aag' and a space
unfoldable pub starts : List ℕ → Bool
starts text =
    leb 4 (length text) && (eqb (get_or text 0 0) 97 && (eqb (get_or text 1 0) 97 && (eqb (get_or text 2 0) 103 && eqb (get_or text 3 0) 32)))

and_false : (b : Bool) → (b && false) ≡ false
and_false true = refl
and_false false = refl

and_true : (b : Bool) → (b && true) ≡ b
and_true true = refl
and_true false = refl

same_byte : (a b : ℕ) → eqb a b ≡ eqb b a
same_byte a b = go (bool_cases (eqb a b))
  where
    go : (eqb a b ≡ true) ⊎ (eqb a b ≡ false) → eqb a b ≡ eqb b a
    go (inl t) = t ∙ sym (eq-eqb b a (sym (eqb-true a b t)))
    go (inr t) = t ∙ sym (ne_eqb b a (λ e. eqb-false a b t (sym e)))

-- it is what the library's test of a prefix says
pub starts_is : (text : List ℕ) → starts_with eqb text (97 ∷ 97 ∷ 103 ∷ 32 ∷ []) ≡ starts text
unfolding starts
starts_is [] = refl
starts_is (a ∷ []) = and_false (eqb 97 a)
starts_is (a ∷ b ∷ []) = rw (and_false (eqb 97 b)) (and_false (eqb 97 a))
starts_is (a ∷ b ∷ c ∷ []) = rw (and_false (eqb 103 c), and_false (eqb 97 b)) (and_false (eqb 97 a))
starts_is (a ∷ b ∷ c ∷ d ∷ text) =
    rw (and_true (eqb 32 d), same_byte 97 a, same_byte 97 b, same_byte 103 c, same_byte 32 d)
    (sym (rw (le-leb 4 (suc (suc (suc (suc (length text))))) (omega arith))))

-- the definition's test of the first line
unfoldable pub header_test : List ℕ → Bool
header_test text = ended text 0 && header_right (line_at text 0)

-- the numbers of a header where they stand, as the definition has them
unfoldable pub header_at : Header → CircuitText.Header
header_at h =
    record {
      m = worth h.m;
      i = worth h.i;
      l = worth h.l;
      o = worth h.o;
      a = worth h.a;
      b = worth h.b;
      c = worth h.c;
      j = worth h.j;
      f = worth h.f;
      newer = h.newer;
    }

-- the header, with its numbers where they stand
pub record Parts (text : List ℕ) (h : Header) : Type 0 where
  pub next_is : h.next ≡ next_line text 0
  pub next_in : h.next ≤ length text
  pub worths : header_at h ≡ header_of (line_at text 0)

-- the digits of each of its numbers stand in the text
pub record NumbersStand (text : List ℕ) (h : Header) : Type 0 where
  pub m : StandIn text h.m.digits.now
  pub i : StandIn text h.i.digits.now
  pub l : StandIn text h.l.digits.now
  pub o : StandIn text h.o.digits.now
  pub a : StandIn text h.a.digits.now
  pub b : StandIn text h.b.digits.now
  pub c : StandIn text h.c.digits.now
  pub j : StandIn text h.j.digits.now
  pub f : StandIn text h.f.digits.now

-- a header that is right
pub record HeaderRight (text : List ℕ) (h : Header) : Type 0 where
  pub right : header_test text ≡ true
  pub parts : Parts text h

-- the header, or none where it is not right
abbrev pub HeaderIs : List ℕ → Option Header → Type 0
HeaderIs text r = MatchOption r (header_test text ≡ false) (HeaderRight text)

-- ---- a line of two words or more

words_cut : (l w v : List ℕ) (ws : List (List ℕ)) → words l ≡ (w ∷ v ∷ ws) → (rest : List ℕ) × (l ≡ w ++ (space ∷ rest))
unfolding words with_first
words_cut [] w v ws e = let z : ◌≡◌ {A = ℕ} 1 (suc (suc (length ws))) = ap length e in absurd (omega arith)
words_cut (b ∷ l) w v ws e = go (bool_cases (eqb b space)) (first_word l) (words_cut l)
  where
    Cut : Type 0
    Cut = (rest : List ℕ) × ((b ∷ l) ≡ w ++ (space ∷ rest))

    go : (eqb b space ≡ true) ⊎ (eqb b space ≡ false) → (w' : List ℕ) × (ws' : List (List ℕ)) × (words l ≡ (w' ∷ ws'))
        → ((w' v' : List ℕ) (ws' : List (List ℕ)) → words l ≡ (w' ∷ v' ∷ ws') → (rest : List ℕ) × (l ≡ w' ++ (space ∷ rest))) → Cut
    go (inl t) first on =
        let here : ([] ∷ words l) ≡ (w ∷ v ∷ ws) = sym (rw t) ∙ e in
        let none : [] ≡ w = cc in
        (l, ap (λ (a : ℕ). a ∷ l) (eqb-true b space t) ∙ ap (λ (x : List ℕ). x ++ (space ∷ l)) none)
    go (inr t) (w', ws', f) on =
        let here : ((b ∷ w') ∷ ws') ≡ (w ∷ v ∷ ws) = ap (with_first b) (sym f) ∙ sym (rw t) ∙ e in
        let w_is : (b ∷ w') ≡ w = cc in
        let ws_is : ws' ≡ (v ∷ ws) = cc in
        let cut = on w' v ws (f ∙ ap (λ (x : List (List ℕ)). w' ∷ x) ws_is) in
        (cut.0, ap (λ (x : List ℕ). b ∷ x) cut.1 ∙ ap (λ (x : List ℕ). x ++ (space ∷ cut.0)) w_is)

same_is : (a b : List ℕ) → same_bytes a b ≡ true → a ≡ b
unfolding same_bytes
same_is [] [] h = refl
same_is [] (b ∷ bs) h = absurd (true≢false (sym h))
same_is (a ∷ as') [] h = absurd (true≢false (sym h))
same_is (a ∷ as') (b ∷ bs) h =
    let first = eqb-true a b (and_left (eqb a b) (same_bytes as' bs) h) in
    let rest = same_is as' bs (and_right (eqb a b) (same_bytes as' bs) h) in
    ap (λ (x : ℕ). x ∷ as') first ∙ ap (λ (xs : List ℕ). b ∷ xs) rest

-- a text whose first line starts with some bytes starts with them
until_start : (text d rest : List ℕ) → until newline text ≡ d ++ rest → (more : List ℕ) × (text ≡ d ++ more)
unfolding until
until_start text [] rest e = (text, refl)
until_start [] (b ∷ d) rest e = let z : ◌≡◌ {A = ℕ} 0 (suc (length (d ++ rest))) = ap length e in absurd (omega arith)
until_start (a ∷ text) (b ∷ d) rest e = go (bool_cases (eqb a newline)) (until_start text d rest)
  where
    go : (eqb a newline ≡ true) ⊎ (eqb a newline ≡ false) → (until newline text ≡ d ++ rest → (more : List ℕ) × (text ≡ d ++ more))
        → (more : List ℕ) × ((a ∷ text) ≡ (b ∷ d) ++ more)
    go (inl t) on =
        let here : [] ≡ (b ∷ (d ++ rest)) = sym (rw t) ∙ e in
        let z : ◌≡◌ {A = ℕ} 0 (suc (length (d ++ rest))) = ap length here in absurd (omega arith)
    go (inr t) on =
        let here : (a ∷ until newline text) ≡ (b ∷ (d ++ rest)) = sym (rw t) ∙ e in
        let first : a ≡ b = cc in
        let later = on (cc) in
        (later.0, ap (λ (x : ℕ). x ∷ text) first ∙ ap (λ (x : List ℕ). b ∷ x) later.1)

-- ---- where the text does not start so, the header is wrong

long_enough : (more : List ℕ) → leb 4 (length (97 ∷ 97 ∷ 103 ∷ space ∷ more)) ≡ true
long_enough more = le-leb 4 (suc (suc (suc (suc (length more))))) (omega arith)

header_starts : (text : List ℕ) → header_test text ≡ true → starts text ≡ true
unfolding header_test header_right starts line_at between
header_starts text h = by_words (words (line_at text 0)) refl six first
  where
    right : header_right (line_at text 0) ≡ true
    right = and_right (ended text 0) (header_right (line_at text 0)) h

    three : ((between 6 10 (length (words (line_at text 0))) && same_bytes (get_or (words (line_at text 0)) 0 []) aag)
        && all is_number (drop 1 (words (line_at text 0)))) ≡ true
    three = and_left _ _ right

    two : (between 6 10 (length (words (line_at text 0))) && same_bytes (get_or (words (line_at text 0)) 0 []) aag) ≡ true
    two = and_left _ (all is_number (drop 1 (words (line_at text 0)))) three

    range : between 6 10 (length (words (line_at text 0))) ≡ true
    range = and_left (between 6 10 (length (words (line_at text 0)))) _ two

    six : 6 ≤ length (words (line_at text 0))
    six = leb-true 6 _ (and_left (leb 6 (length (words (line_at text 0)))) _ range)

    first : get_or (words (line_at text 0)) 0 [] ≡ aag
    first = same_is _ aag (and_right (between 6 10 (length (words (line_at text 0)))) _ two)

    by_bytes : (more : List ℕ) → text ≡ (97 ∷ 97 ∷ 103 ∷ space ∷ more) → starts text ≡ true
    by_bytes more is = ap starts is ∙ rw (long_enough more)

    by_words : (ws : List (List ℕ)) → words (line_at text 0) ≡ ws → 6 ≤ length ws → get_or ws 0 [] ≡ aag → starts text ≡ true
    by_words [] e six first = absurd (omega (arith, six))
    by_words (w ∷ []) e six first = absurd (omega (arith, six))
    by_words (w ∷ v ∷ ws) e six first =
        let cut = words_cut (line_at text 0) w v ws e in
        let line = cut.1 ∙ ap (λ (x : List ℕ). x ++ (space ∷ cut.0)) first in
        let whole = until_start text (97 ∷ 97 ∷ 103 ∷ space ∷ []) cut.0 line in
        by_bytes whole.0 whole.1

pub not_starts : (text : List ℕ) → starts text ≡ false → false ≡ header_test text
not_starts text no_start = sym (not_true_is_false (λ h. true≢false (sym (header_starts text h) ∙ no_start)))

-- ---- where it does, the rest of the line is five to nine numbers

pub eqb_suc : (a b : ℕ) → eqb (suc a) (suc b) ≡ eqb a b
eqb_suc a b = go (bool_cases (eqb a b))
  where
    go : (eqb a b ≡ true) ⊎ (eqb a b ≡ false) → eqb (suc a) (suc b) ≡ eqb a b
    go (inl t) = eq-eqb (suc a) (suc b) (ap suc (eqb-true a b t)) ∙ sym t
    go (inr t) = ne_eqb (suc a) (suc b) (λ e. eqb-false a b t (omega (arith, e))) ∙ sym t

module _ (text : List ℕ) (start : starts text ≡ true) where
  bytes : (4 ≤ length text) × (get_or text 0 0 ≡ 97) × (get_or text 1 0 ≡ 97) × (get_or text 2 0 ≡ 103) × (get_or text 3 0 ≡ 32)
  unfolding starts
  bytes =
      let l = leb 4 (length text) in
      let a = eqb (get_or text 0 0) 97 in
      let b = eqb (get_or text 1 0) 97 in
      let c = eqb (get_or text 2 0) 103 in
      let d = eqb (get_or text 3 0) 32 in
      let r₁ = and_right l (a && (b && (c && d))) start in
      let r₂ = and_right a (b && (c && d)) r₁ in
      let r₃ = and_right b (c && d) r₂ in (
        leb-true 4 (length text) (and_left l (a && (b && (c && d))) start),
        eqb-true (get_or text 0 0) 97 (and_left a (b && (c && d)) r₁),
        eqb-true (get_or text 1 0) 97 (and_left b (c && d) r₂),
        eqb-true (get_or text 2 0) 103 (and_left c d r₃),
        eqb-true (get_or text 3 0) 32 (and_right c d r₃),
      )

  pub four_in : 4 ≤ length text
  four_in = bytes.0

  in_text : (k : ℕ) → k < 4 → k < length text
  in_text k h = omega (arith, bytes.0)

  no_newline : (k v : ℕ) → get_or text k 0 ≡ v → (v ≡ newline → ⊥) → get_or text k 0 ≡ newline → ⊥
  no_newline k v e f g = f (sym e ∙ g)

  line_is : line_at text 0 ≡ (97 ∷ 97 ∷ 103 ∷ 32 ∷ line_at text 4)
  line_is =
      line_byte text 0 (in_text 0 (omega arith)) (no_newline 0 97 bytes.1 (λ e. omega (arith, e)))
      ∙ ap (λ (b : ℕ). b ∷ line_at text 1) bytes.1
      ∙ ap (λ (l : List ℕ). 97 ∷ l)
      (line_byte text 1 (in_text 1 (omega arith)) (no_newline 1 97 bytes.2 (λ e. omega (arith, e)))
      ∙ ap (λ (b : ℕ). b ∷ line_at text 2) bytes.2
      ∙ ap (λ (l : List ℕ). 97 ∷ l)
      (line_byte text 2 (in_text 2 (omega arith)) (no_newline 2 103 bytes.3 (λ e. omega (arith, e)))
      ∙ ap (λ (b : ℕ). b ∷ line_at text 3) bytes.3
      ∙ ap (λ (l : List ℕ). 103 ∷ l)
      (line_byte text 3 (in_text 3 (omega arith)) (no_newline 3 32 bytes.4 (λ e. omega (arith, e)))
      ∙ ap (λ (b : ℕ). b ∷ line_at text 4) bytes.4)))

  place_is : 0 + length (line_at text 0) ≡ 4 + length (line_at text 4)
  place_is = omega (arith, ap length line_is)

  ended_is : ended text 0 ≡ ended text 4
  unfolding ended
  ended_is = ap (λ (k : ℕ). ltb k (length text)) place_is

  pub next_is : next_line text 0 ≡ next_line text 4
  unfolding next_line
  next_is = ap suc place_is

  words_are : words (line_at text 0) ≡ (aag ∷ words (line_at text 4))
  unfolding words with_first
  words_are = ap words line_is

  -- how many words there are, past the first
  range_is : between 6 10 (length (words (line_at text 0))) ≡ between 5 9 (length (words (line_at text 4)))
  unfolding between
  range_is =
      ap (λ (ws : List (List ℕ)). leb 6 (length ws) && leb (length ws) 10) words_are
      ∙ cc (leb-suc-suc 5 (length (words (line_at text 4))), leb-suc-suc (length (words (line_at text 4))) 9)

  pub test_is : header_test text
      ≡ ((ended text 4 && (between 5 9 (length (words (line_at text 4))) && all is_number (words (line_at text 4))))
      && leb ((header_of (line_at text 0)).i + (header_of (line_at text 0)).l + (header_of (line_at text 0)).a) (header_of (line_at text 0)).m)
  unfolding header_test header_right same_bytes
  test_is =
      rw (ended_is, range_is, words_are)
      (shuffle (ended text 4) (between 5 9 (length (words (line_at text 4)))) (all is_number (words (line_at text 4))) _)
    where
      shuffle : (e a b c : Bool) → (e && (((a && true) && b) && c)) ≡ ((e && (a && b)) && c)
      shuffle true true b c = refl
      shuffle true false b c = refl
      shuffle false a b c = refl

  -- its numbers
  pub number_is : (j : ℕ) → number_in (line_at text 0) (suc j) ≡ get_or (numbers_at text 4) j 0
  unfolding number_in numbers_at decimal decimal_on
  number_is j =
      ap (λ (ws : List (List ℕ)). decimal (get_or ws (suc j) [])) words_are
      ∙ sym (get_or-map decimal (words (line_at text 4)) j [])

  -- six or more are edition 1.9
  pub newer_is : (width : ℕ) → of_numbers width (line_at text 4) ≡ true → ltb 5 width ≡ ltb 6 (length (words (line_at text 0)))
  newer_is width n =
      ap (ltb 5) (sym (numbers_count width (line_at text 4) n)) ∙ sym (leb-suc-suc 6 (length (words (line_at text 4))))
      ∙ ap (λ (ws : List (List ℕ)). ltb 6 (length ws)) (sym words_are)

-- ---- how many numbers, and each of them

-- so many numbers follow 'aag' and its space
pub record NumbersFollow (text : List ℕ) (width : ℕ) : Type 0 where
  pub closed : ended text 4 ≡ true
  pub numbers : of_numbers width (line_at text 4) ≡ true
  pub few : width ≤ 9
  pub least : 5 ≤ width

-- how many do; none where there are not five to nine
abbrev pub WidthIs : List ℕ → Option ℕ → Type 0
WidthIs text r =
    MatchOption r ((ended text 4 && (between 5 9 (length (words (line_at text 4))) && all is_number (words (line_at text 4)))) ≡ false) (NumbersFollow text)

-- they are not so many, for each number from 5 on that was tried
abbrev pub Tried : List ℕ → ℕ → Type 0
Tried text width = (k : ℕ) → 5 ≤ k → k < width → (ended text 4 && of_numbers k (line_at text 4)) ≡ false

pub tried_more : (text : List ℕ) (width : ℕ) (r : Option ℕ) → r ≡ line_past width text 4 → (b : Bool) → b ≡ is_some r → b ≡ false → Tried text width
    → Tried text (width + 1)
tried_more text width r is b told z tried k low high = go (bool_cases (ltb k width))
  where
    go : (ltb k width ≡ true) ⊎ (ltb k width ≡ false) → (ended text 4 && of_numbers k (line_at text 4)) ≡ false
    go (inl t) = tried k low (ltb-true k width t)
    go (inr t) =
        let same : k ≡ width = omega (arith, ltb-false k width t) in
        subst (λ (w : ℕ). (ended text 4 && of_numbers w (line_at text 4)) ≡ false) (sym same) (past_none width text 4 r is b told z)

pub width_found : (text : List ℕ) (width : ℕ) (r : Option ℕ) → r ≡ line_past width text 4 → (b : Bool) → b ≡ is_some r → b ≡ true → 5 ≤ width → width < 10
    → NumbersFollow text width
width_found text width r is b told some low high =
    let facts = past_some width text 4 r is b told some in
    record { closed = facts.0; numbers = facts.1; few = omega arith; least = low }

pub width_none : (text : List ℕ) (width : ℕ) → (width < 10 → ⊥) → Tried text width → WidthIs text None
unfolding of_numbers between
width_none text width past tried = go (bool_cases (leb 5 count)) (bool_cases (leb count 9))
  where
    count : ℕ
    count = length (words (line_at text 4))

    Not : Type 0
    Not = (ended text 4 && ((leb 5 count && leb count 9) && all is_number (words (line_at text 4)))) ≡ false

    nothing : (e : Bool) → (e && false) ≡ false
    nothing true = refl
    nothing false = refl

    go : (leb 5 count ≡ true) ⊎ (leb 5 count ≡ false) → (leb count 9 ≡ true) ⊎ (leb count 9 ≡ false) → Not
    go (inr t) s = rw t (nothing (ended text 4))
    go (inl t) (inr s) = rw (t, s) (nothing (ended text 4))
    go (inl t) (inl s) =
        let not_so = tried count (leb-true 5 count t) (omega (arith, leb-true count 9 s)) in
        rw (t, s) (sym (ap (λ (b : Bool). ended text 4 && (b && all is_number (words (line_at text 4)))) (eq-eqb count count refl)) ∙ not_so)

-- x is number j after 'aag' and its space
pub record NumberIs (text : List ℕ) (j : ℕ) (x : Number) : Type 0 where
  pub is : worth x ≡ get_or (numbers_at text 4) j 0

pub number_left_out : (text : List ℕ) (width j : ℕ) → of_numbers width (line_at text 4) ≡ true → width ≤ j
    → (x : Number) → x.digits.now ≡ [] → NumberIs text j x
unfolding numbers_at
number_left_out text width j n past x none =
    record {
      is =
          nothing_worth x none
          ∙ sym
          (get_d_past (map decimal (words (line_at text 4))) j
          (omega (arith, numbers_count width (line_at text 4) n, length-map (words (line_at text 4)) decimal)));
    }

-- the order of a sum and a number says whether it is at most that
pub at_most : (s m : ℕ) (r : Ordering) → r ≡ order (s + 0) m → not (is_gt r) ≡ leb s m
at_most s m r is = go (order_cases (s + 0) m)
  where
    go : (s + 0 < m) ⊎ ((s + 0 ≡ m) ⊎ (m < s + 0)) → not (is_gt r) ≡ leb s m
    go (inl h) = ap (λ (o : Ordering). not (is_gt o)) (is ∙ order_less (s + 0) m h) ∙ sym (le-leb s m (omega arith))
    go (inr (inl h)) = ap (λ (o : Ordering). not (is_gt o)) (is ∙ order_same (s + 0) m h) ∙ sym (le-leb s m (omega (arith, h)))
    go (inr (inr h)) = ap (λ (o : Ordering). not (is_gt o)) (is ∙ order_more (s + 0) m h) ∙ sym (lt-leb s m (omega arith))

-- ---- the header put together

module _ (text : List ℕ) (start : starts text ≡ true) where
  pub not_numbers : (ended text 4 && (between 5 9 (length (words (line_at text 4))) && all is_number (words (line_at text 4)))) ≡ false
      → header_test text ≡ false
  not_numbers none = test_is text start ∙ rw none

  module _ (width : ℕ) (is : NumbersFollow text width) (m i l o a b c j f : Number) (em : NumberIs text 0 m) (ei : NumberIs text 1 i) (el : NumberIs text 2 l)
      (eo : NumberIs text 3 o) (ea : NumberIs text 4 a) (eb : NumberIs text 5 b) (ec : NumberIs text 6 c) (ej : NumberIs text 7 j)
      (ef : NumberIs text 8 f) (next : ℕ) where
    abbrev made : Header
    made =
        record {
          next = next;
          newer = ltb 5 width;
          m = m;
          i = i;
          l = l;
          o = o;
          a = a;
          b = b;
          c = c;
          j = j;
          f = f;
        }

    worths_are : header_at made ≡ header_of (line_at text 0)
    unfolding header_at header_of
    worths_are =
        let fm = em.is ∙ sym (number_is text start 0) in
        let fi = ei.is ∙ sym (number_is text start 1) in
        let fl = el.is ∙ sym (number_is text start 2) in
        let fo = eo.is ∙ sym (number_is text start 3) in
        let fa = ea.is ∙ sym (number_is text start 4) in
        let fb = eb.is ∙ sym (number_is text start 5) in
        let fc = ec.is ∙ sym (number_is text start 6) in
        let fj = ej.is ∙ sym (number_is text start 7) in
        let ff = ef.is ∙ sym (number_is text start 8) in
        let fn = newer_is text start width is.numbers in
        λ k. record { m = fm k; i = fi k; l = fl k; o = fo k; a = fa k; b = fb k; c = fc k; j = fj k; f = ff k; newer = fn k }

    five_to_nine : (between 5 9 (length (words (line_at text 4))) && all is_number (words (line_at text 4))) ≡ true
    unfolding between
    five_to_nine =
        let ws = words (line_at text 4) in
        let count = numbers_count width (line_at text 4) is.numbers in
        and_both (leb 5 (length ws) && leb (length ws) 9) (all is_number ws)
        (and_both (leb 5 (length ws)) (leb (length ws) 9) (le-leb 5 (length ws) (omega (arith, count, is.least)))
        (le-leb (length ws) 9 (omega (arith, count, is.few))))
        (numbers_all width (line_at text 4) is.numbers)

    -- the test is whether the sum is at most M
    test_made : (q : Ordering) → q ≡ order (worth i + worth l + worth a + 0) (worth m) → header_test text ≡ not (is_gt q)
    unfolding header_at
    test_made q q_is =
        sym
        (at_most (worth i + worth l + worth a) (worth m) q q_is
        ∙ ap (λ (h : CircuitText.Header). leb (h.i + h.l + h.a) h.m) worths_are
        ∙ sym (test_is text start ∙ rw (is.closed, five_to_nine)))

    pub header_over : (q : Ordering) → q ≡ order (worth i + worth l + worth a + 0) (worth m) → is_gt q ≡ true
        → header_test text ≡ false
    header_over q q_is over = test_made q q_is ∙ ap not over

    pub header_made : next ≡ next_line text 4 → next ≤ length text → (q : Ordering)
        → q ≡ order (worth i + worth l + worth a + 0) (worth m) → is_gt q ≡ false → HeaderRight text made
    header_made next_at inside q q_is within =
        record {
          right = test_made q q_is ∙ ap not within;
          parts =
              record {
                next_is = next_at ∙ sym (next_is text start);
                next_in = inside;
                worths = worths_are;
              };
        }

-- Symbol lines before a place: what they name, and how they are walked from the first on.
use Rattle.std.specs.Prelude.{ℕ, ◌+◌, ◌≤◌, ◌<◌, ◌≡◌, Bool, ◌&&◌, ◌||◌, cond, length, get_or, drop, ltb, leb, eqb}
use Rattle.std.proofs.Common.{arith, ◌∙◌, leb-true, ltb-true, ne_eqb}
use Rattle.std.proofs.Math.Path.{refl, sym, ap, subst}
use Rattle.std.proofs.Math.Bool.{true, false, not}
use mathlib.Core.List.{List, [], ◌∷◌, ◌++◌}
use Rattle.std.proofs.lemmas.Bool.{lt-leb}
use Rattle.meaning.specs.Clauses.{any, all}
use Rattle.meaning.specs.Lines.{space, newline, until, line_at, ended, next_line, is_number, is_empty, is_digit, decimal}
use Rattle.meaning.specs.CircuitText.{Header, Symbol, positions, symbol_digits, symbol_of, same_symbol, symbol_right}
use Rattle.laws.specs.Basics.{and_left, and_right}
use Rattle.lines.specs.declared.number.Number.{Number}
use Rattle.lines.specs.Digits.{huge, capped, digits_of}
use Rattle.lines.specs.Numbers.{worth}
use Rattle.symbols.specs.declared.Counts.{Counts}
use Rattle.symbols.specs.Symbols.{header_from, Small, named_right, Named, Earlier, Listed, symbol}
use Rattle.symbols.specs.Form.{some_byte, all_digits}

-- ---- a line that is right but for a position that is named twice

pub positions_small : (counts : Counts) → Small counts → (letter : ℕ) → positions (header_from counts) letter < huge
unfolding positions header_from
positions_small counts s letter =
    either (eqb letter 105) s.inputs
    (either (eqb letter 108) s.latches
    (either (eqb letter 111) s.outputs
    (either (eqb letter 98) s.bads
    (either (eqb letter 99) s.constraints
    (either (eqb letter 106) s.justice (either (eqb letter 102) s.fairness (omega arith)))))))
  where
    either : (is : Bool) {x y : ℕ} → x < huge → y < huge → cond is x y < huge
    either true a b = a
    either false a b = b

all_three : (a b c : Bool) → (a && b && c) ≡ true → (a ≡ true) × (b ≡ true) × (c ≡ true)
all_three a b c h =
    let first = and_left (a && b) c h in
    (and_left a b first, and_right a b first, and_right (a && b) c h)

pub is_named : (text : List ℕ) (at : ℕ) (counts : Counts) → at < length text → Small counts → ended text at ≡ true
    → named_right (header_from counts) (line_at text at) ≡ true → Named text at
unfolding named_right symbol_of symbol_digits is_number line_at
is_named text at counts inside small closed right =
    let line = line_at text at in
    let digits = symbol_digits line in
    let most = positions (header_from counts) (symbol_of line).letter in
    let parts =
    all_three (is_number digits) (ltb (symbol_of line).at most) (leb (length digits + 3) (length line)) right in
    let long : length digits + 3 ≤ length line = leb-true _ _ parts.2 in
    let below : (symbol_of line).at < most = ltb-true _ _ parts.1 in
    let starts = some_byte text at inside (omega (arith, long)) in
    let rest : digits ≡ until space (until newline (drop (at + 1) text)) = ap symbol_digits starts in
    let are = and_right (not (is_empty digits)) (all is_digit digits) parts.0 in
    record {
      closed = closed;
      letter = ap (λ (l : List ℕ). get_or l 0 0) starts;
      digits = rest ∙ all_digits (drop (at + 1) text) (ap (all is_digit) (sym rest) ∙ are);
      small = omega (arith, below, positions_small counts small (symbol_of line).letter);
    }

-- the number after the letter is the position
pub place_of : (text : List ℕ) (at : ℕ) → Named text at → (x : Number) → x.digits.now ≡ digits_of (drop (at + 1) text)
    → x.value ≡ (symbol_of (line_at text at)).at
unfolding worth symbol_of capped
place_of text at named x whole =
    let same : worth x ≡ (symbol_of (line_at text at)).at = ap decimal (whole ∙ sym named.digits) in
    let below : worth x < huge = omega (arith, same, named.small) in
    x.valued ∙ (rw (lt-leb huge (worth x) below) same)

pub symbol_is : (text : List ℕ) (at : ℕ) → Named text at → (letter place : ℕ) → letter ≡ get_or text at 0
    → place ≡ (symbol_of (line_at text at)).at → symbol letter place ≡ symbol_of (line_at text at)
unfolding symbol
symbol_is text at named letter place l p = rw (l ∙ sym named.letter, p)

-- two symbols are the same where their letters and their places are
pub compared : (letter place letter' place' : ℕ) (s : Symbol) → symbol letter' place' ≡ s → (same : Bool)
    → same ≡ (eqb letter letter' && eqb place place') → same ≡ same_symbol (symbol letter place) s
unfolding same_symbol symbol
compared letter place letter' place' s is same same_is = same_is ∙ ap (same_symbol (symbol letter place)) is

-- a line of another letter names another position, whatever its number
pub other_letter : (text : List ℕ) (at : ℕ) → Named text at → (letter place : ℕ) → (letter ≡ get_or text at 0 → ⊥)
    → false ≡ same_symbol (symbol letter place) (symbol_of (line_at text at))
unfolding same_symbol symbol
other_letter text at named letter place other =
    sym (rw (ne_eqb letter (symbol_of (line_at text at)).letter (λ e. other (e ∙ named.letter))))

-- ---- lines from one place to another

pub earlier_rises : (text : List ℕ) (from : ℕ) (before : List Symbol) (to : ℕ) → Earlier text from before to → from ≤ to
unfolding Earlier next_line
earlier_rises text from [] to h = omega arith
earlier_rises text from (s ∷ before) to h = omega (arith, earlier_rises text (next_line text from) before to h.2)

-- one line more
pub earlier_more : (text : List ℕ) (from : ℕ) (before : List Symbol) (to : ℕ) → Earlier text from before to → Named text to
    → Earlier text from (before ++ (symbol_of (line_at text to) ∷ [])) (next_line text to)
unfolding Earlier
earlier_more text from [] to h named =
    subst (λ (k : ℕ). Earlier text k (symbol_of (line_at text to) ∷ []) (next_line text to)) (sym h) (named, refl, refl)
earlier_more text from (s ∷ before) to h named = (h.0, h.1, earlier_more text (next_line text from) before to h.2 named)

-- The walk has come from the first line to p with no line that names s: whatever the lines name, those from p on decide.
unfoldable pub Walked : List ℕ → Symbol → ℕ → ℕ → ℕ → Type 0
Walked text s first p at =
    (before : List Symbol) → Earlier text first before at
    → (rest : List Symbol) × Earlier text p rest at × (any (same_symbol s) before ≡ any (same_symbol s) rest)

module _ (text : List ℕ) (s : Symbol) (first at : ℕ) where
  pub walked_none : Walked text s first first at
  unfolding Walked
  walked_none before h = (before, h, refl)

  module _ (p : ℕ) (walked : Walked text s first p at) where
    module _ (inside : p < at) where
      pub named_here : Listed text first at → Named text p
      unfolding Walked Earlier
      named_here listed = let on = walked listed.before listed.earlier in go on.0 on.1
        where
          go : (rest : List Symbol) → Earlier text p rest at → Named text p
          go [] e = absurd (omega arith)
          go (t ∷ rest) e = e.0

      pub found_here : true ≡ same_symbol s (symbol_of (line_at text p)) → (before : List Symbol) → Earlier text first before at
          → true ≡ any (same_symbol s) before
      unfolding Walked Earlier any
      found_here same before h = let on = walked before h in go on.0 on.1 ∙ sym on.2
        where
          go : (rest : List Symbol) → Earlier text p rest at → true ≡ any (same_symbol s) rest
          go [] e = absurd (omega arith)
          go (t ∷ rest) e = sym (ap (λ (u : Symbol). same_symbol s u || any (same_symbol s) rest) e.1 ∙ rw (sym same))

      pub walked_on : false ≡ same_symbol s (symbol_of (line_at text p)) → (next : ℕ) → next ≡ next_line text p
          → Walked text s first next at
      unfolding Walked Earlier any
      walked_on other next is before h =
          let on = walked before h in
          let further = go on.0 on.1 on.2 in
          (further.0, subst (λ (k : ℕ). Earlier text k further.0 at) (sym is) further.1, further.2)
        where
          go : (rest : List Symbol) → Earlier text p rest at → any (same_symbol s) before ≡ any (same_symbol s) rest
              → (rest : List Symbol) × Earlier text (next_line text p) rest at × (any (same_symbol s) before ≡ any (same_symbol s) rest)
          go [] e same = absurd (omega arith)
          go (t ∷ rest) e same =
              (rest, e.2, same ∙ ap (λ (u : Symbol). same_symbol s u || any (same_symbol s) rest) e.1 ∙ rw (sym other))

    pub not_found : at ≤ p → (before : List Symbol) → Earlier text first before at → false ≡ any (same_symbol s) before
    unfolding Walked Earlier any next_line
    not_found past before h = let on = walked before h in go on.0 on.1 ∙ sym on.2
      where
        go : (rest : List Symbol) → Earlier text p rest at → false ≡ any (same_symbol s) rest
        go [] e = refl
        go (t ∷ rest) e = absurd (omega (arith, earlier_rises text (next_line text p) rest at e.2))

-- ---- a line is right: its form, and what is before it

module _ (judged : Bool) (h : Header) (before : List Symbol) (line : List ℕ) where
  pub wrong_form : named_right h line ≡ false → false ≡ symbol_right judged h before line
  unfolding symbol_right named_right
  wrong_form wrong = sym (ap (λ (b : Bool). b && not (judged && any (same_symbol (symbol_of line)) before)) wrong)

  module _ (right : named_right h line ≡ true) where
    by_before : (not (judged && any (same_symbol (symbol_of line)) before)) ≡ symbol_right judged h before line
    unfolding symbol_right named_right
    by_before = sym (ap (λ (b : Bool). b && not (judged && any (same_symbol (symbol_of line)) before)) right)

    pub not_judged : judged ≡ false → true ≡ symbol_right judged h before line
    not_judged off = sym (ap (λ (b : Bool). not (b && any (same_symbol (symbol_of line)) before)) off) ∙ by_before

    pub is_judged : judged ≡ true → (found : Bool) → found ≡ any (same_symbol (symbol_of line)) before
        → not found ≡ symbol_right judged h before line
    is_judged on found is =
        ap not is ∙ sym (ap (λ (b : Bool). not (b && any (same_symbol (symbol_of line)) before)) on) ∙ by_before

  pub form_right : true ≡ symbol_right judged h before line → named_right h line ≡ true
  unfolding symbol_right named_right
  form_right right = and_left (named_right h line) (not (judged && any (same_symbol (symbol_of line)) before)) (sym right)

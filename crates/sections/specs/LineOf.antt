-- A line that is right, part by part.
use Rattle.std.specs.Prelude.{ℕ, zero, suc, ◌+◌, ◌-◌, ◌≤◌, ◌<◌, ◌≡◌, Bool, ◌&&◌, ◌||◌, length, get_or, drop, ltb, eqb, Option, Some, None, is_some, MatchOption}
use Rattle.std.proofs.Common.{arith, add-one, ap, subst, ◌∙◌, true≢false, lt-ltb, le-ltb}
use Rattle.std.proofs.Math.Path.{refl, sym}
use Rattle.std.proofs.Math.Bool.{true, false, cond, or-true}
use mathlib.Core.List.{List, [], ◌∷◌, map}
use Rattle.std.proofs.Math.ListN.{length-map}
use Rattle.meaning.specs.Clauses.{all}
use Rattle.meaning.specs.Lines.{line_at, ended, next_line, words, decimal, of_numbers}
use Rattle.meaning.specs.CircuitText
use Rattle.meaning.specs.CircuitText.{numbers_at, used_right, defined_right, literals_right, width_right, start_right, line_right}
use Rattle.laws.specs.Basics.{and_left, and_right}
use Rattle.lines.specs.declared.number.Number.{Number}
use Rattle.lines.specs.Digits.{digits_of}
use Rattle.lines.specs.Numbers.{worth}
use Rattle.lines.specs.Past.{line_past}
use Rattle.sections.specs.declared.line.Form.{Form}
use Rattle.sections.specs.Rows.{form_of, numbers_after, value_small, value_least}
use Rattle.sections.specs.Split.{Split, split, numbers_count}

-- whether a place after the line is told tells whether it is so many numbers
module _ (width : ℕ) (text : List ℕ) (at : ℕ) (r : Option ℕ) (is : r ≡ line_past width text at) (b : Bool) (told : b ≡ is_some r) where
  told_is : b ≡ (ended text at && of_numbers width (line_at text at))
  unfolding line_past
  told_is = told ∙ ap is_some is ∙ go (ended text at && of_numbers width (line_at text at))
    where
      go : (t : Bool) → is_some (cond t (Some (next_line text at)) None) ≡ t
      go true = refl
      go false = refl

  pub past_none : b ≡ false → (ended text at && of_numbers width (line_at text at)) ≡ false
  past_none e = sym told_is ∙ e

  pub past_some : b ≡ true → (ended text at ≡ true) × (of_numbers width (line_at text at) ≡ true)
  past_some e = (and_left (ended text at) _ (sym told_is ∙ e), and_right (ended text at) _ (sym told_is ∙ e))

-- a line that is as its form says, of this many numbers
pub record HasWidth (f : CircuitText.Form) (text : List ℕ) (at width : ℕ) : Type 0 where
  pub closed : ended text at ≡ true
  pub right : width_right f (line_at text at) ≡ true
  pub numbers : of_numbers width (line_at text at) ≡ true
  pub least : f.width ≤ width

-- so many numbers that the line at a place has; none where it is not as its form says
abbrev pub WidthIs : CircuitText.Form → List ℕ → ℕ → Option ℕ → Type 0
WidthIs f text at r = MatchOption r ((ended text at && width_right f (line_at text at)) ≡ false) (HasWidth f text at)

module _ (f : CircuitText.Form) (text : List ℕ) (at : ℕ) (r : Option ℕ) (is : r ≡ line_past f.width text at) (b : Bool) (told : b ≡ is_some r) where
  pub width_plain : b ≡ true → HasWidth f text at f.width
  unfolding width_right
  width_plain some =
      let facts = past_some f.width text at r is b told some in
      record { closed = facts.0; right = rw facts.1; numbers = facts.1; least = omega arith }

  -- and-or : what neither has, both together have not
  neither : (e a b : Bool) → (e && a) ≡ false → (e && b) ≡ false → (e && (a || b)) ≡ false
  neither true true b h g = absurd (true≢false h)
  neither true false b h g = g
  neither false a b h g = refl

  no_more : (e b : Bool) → (e && (false && b)) ≡ false
  no_more true b = refl
  no_more false b = refl

  pub width_none : b ≡ false → f.starts ≡ false → WidthIs f text at None
  unfolding width_right
  width_none z s =
      neither (ended text at) (of_numbers f.width (line_at text at)) (f.starts && of_numbers (suc f.width) (line_at text at))
      (past_none f.width text at r is b told z)
      (rw s (no_more (ended text at) (of_numbers (suc f.width) (line_at text at))))

  module _ (s : f.starts ≡ true) (q : Option ℕ) (q_is : q ≡ line_past (f.width + 1) text at) (d : Bool) (d_told : d ≡ is_some q) where
    q_past : q ≡ line_past (suc f.width) text at
    q_past = q_is ∙ ap (λ (k : ℕ). line_past k text at) (add-one f.width)

    pub width_start : d ≡ true → HasWidth f text at (f.width + 1)
    unfolding width_right
    width_start some =
        let facts = past_some (suc f.width) text at q q_past d d_told some in
        record {
          closed = facts.0;
          right = rw (s, facts.1) (or-true (of_numbers f.width (line_at text at)));
          numbers = subst (λ (k : ℕ). of_numbers k (line_at text at) ≡ true) (sym (add-one f.width)) facts.1;
          least = omega arith;
        }

    pub width_neither : b ≡ false → d ≡ false → WidthIs f text at None
    unfolding width_right
    width_neither z y =
        neither (ended text at) (of_numbers f.width (line_at text at)) (f.starts && of_numbers (suc f.width) (line_at text at))
        (past_none f.width text at r is b told z)
        (rw s (past_none (suc f.width) text at q q_past d d_told y))

-- ---- the literals

module _ (f : Form) (judged : Bool) (m : ℕ) (before text : List ℕ) (at width : ℕ) (closed : ended text at ≡ true)
    (numbers : of_numbers width (line_at text at) ≡ true) (least : 1 ≤ width) where
  abbrev Literals : Bool → Type 0
  Literals b = b ≡ literals_right (form_of f) judged m before (numbers_at text at)

  pub literals_counts : f.counts ≡ true → Literals true
  unfolding form_of literals_right
  literals_counts e = go (numbers_at text at)
    where
      go : (ns : List ℕ) → true ≡ literals_right (form_of f) judged m before ns
      go [] = refl
      go (l ∷ ls) = sym (rw e)

  module _ (x : Number) (whole : x.digits.now ≡ digits_of (drop at text)) where
    pub line_split : Split text at (width - 1) x
    line_split =
        let up : width ≡ suc (width - 1) = omega arith in
        split text at (width - 1) closed (subst (λ (w : ℕ). of_numbers w (line_at text at) ≡ true) up numbers) x whole

    abbrev First : Bool
    First = cond f.defines (defined_right judged m before (worth x)) (used_right m (worth x))

    module _ (no_count : f.counts ≡ false) where
      right_is : literals_right (form_of f) judged m before (numbers_at text at)
          ≡ (First && all (used_right m) (numbers_after text (at + length x.digits.now) (width - 1)))
      unfolding form_of literals_right
      right_is = rw (line_split.numbers, no_count)

      pub literals_first : (b : Bool) → b ≡ First → b ≡ false → Literals false
      literals_first b said e = sym (rw (right_is, sym said ∙ e))

      pub literals_rest : (b : Bool) → b ≡ First → b ≡ true → (q : Bool)
          → q ≡ all (used_right m) (numbers_after text (at + length x.digits.now) (width - 1)) → Literals q
      literals_rest b said right q rest_said = rest_said ∙ sym (rw (right_is, sym said ∙ right))

-- ---- the start value

-- a number past the last is 0
pub get_d_past : (ns : List ℕ) (k : ℕ) → length ns ≤ k → get_or ns k 0 ≡ 0
get_d_past [] k h = refl
get_d_past (a ∷ ns) zero h = absurd (omega arith)
get_d_past (a ∷ ns) (suc k) h = get_d_past ns k (omega arith)

module _ (f : Form) (text : List ℕ) (at width : ℕ) where
  abbrev Starts : Bool → Type 0
  Starts b = b ≡ start_right (form_of f) (numbers_at text at)

  pub starts_not : f.starts ≡ false → Starts true
  unfolding form_of start_right
  starts_not e = sym (rw e)

  past_last : of_numbers width (line_at text at) ≡ true → f.width ≡ width → get_or (numbers_at text at) f.width 0 ≡ 0
  unfolding numbers_at
  past_last n e =
      get_d_past (map decimal (words (line_at text at))) f.width
      (omega (arith, e, numbers_count width (line_at text at) n, length-map (words (line_at text at)) decimal))

  module _ (starts : f.starts ≡ true) where
    start_is : start_right (form_of f) (numbers_at text at)
        ≡ (ltb (get_or (numbers_at text at) f.width 0) 2 || eqb (get_or (numbers_at text at) f.width 0) (get_or (numbers_at text at) 0 0))
    unfolding form_of start_right
    start_is = rw starts

    pub starts_none : of_numbers width (line_at text at) ≡ true → f.width ≡ width → Starts true
    starts_none n e = sym (start_is ∙ rw (past_last n e))

    module _ (x : Number) (x_is : worth x ≡ get_or (numbers_at text at) f.width 0) where
      pub starts_constant : x.value < 2 → Starts true
      starts_constant less =
          sym (start_is ∙ rw (lt-ltb (get_or (numbers_at text at) f.width 0) 2 (subst (λ (v : ℕ). v < 2) x_is (value_small x less))))

      pub starts_own : 2 ≤ x.value → (y : ℕ) → y ≡ get_or (numbers_at text at) 0 0 → (b : Bool) → b ≡ eqb (worth x + 0) y → Starts b
      starts_own more y y_is b said =
          let alone : worth x + 0 ≡ worth x = omega arith in
          said ∙ ap (λ (v : ℕ). eqb v y) (alone ∙ x_is) ∙ ap (eqb (get_or (numbers_at text at) f.width 0)) y_is
          ∙ sym
          (start_is
          ∙ rw
          (le-ltb (get_or (numbers_at text at) f.width 0) 2
          (subst (λ (v : ℕ). 2 ≤ v) x_is (value_least x more))))

-- ---- the line put together

module _ (f : Form) (judged : Bool) (m : ℕ) (before text : List ℕ) (at : ℕ) where
  abbrev Answer : Option ℕ → Type 0
  Answer q = q ≡ cond (line_right (form_of f) judged m before text at) (Some (next_line text at)) None

  pub line_not_numbers : (ended text at && width_right (form_of f) (line_at text at)) ≡ false → Answer None
  unfolding line_right
  line_not_numbers none = sym (rw (and_first _ _ _ _ none))
    where
      and_first : (a b c d : Bool) → (a && b) ≡ false → (a && b && c && d) ≡ false
      and_first a b c d h = rw h

  module _ (width : ℕ) (is : HasWidth (form_of f) text at width) (b : Bool)
      (said : b ≡ literals_right (form_of f) judged m before (numbers_at text at)) where
    pub line_literals_wrong : b ≡ false → Answer None
    unfolding line_right
    line_literals_wrong e = sym (rw (is.closed, is.right, sym said ∙ e))

    module _ (right : b ≡ true) (q : Bool) (start_said : q ≡ start_right (form_of f) (numbers_at text at)) where
      pub line_start_wrong : q ≡ false → Answer None
      unfolding line_right
      line_start_wrong e = sym (rw (is.closed, is.right, sym said ∙ right, sym start_said ∙ e))

      pub line_all_right : q ≡ true → Answer (Some (next_line text at))
      unfolding line_right
      line_all_right e = sym (rw (is.closed, is.right, sym said ∙ right, sym start_said ∙ e))

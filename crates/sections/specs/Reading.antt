-- A section, as far as it is read: how it ends is how the rest of it ends.
use Rattle.std.specs.Prelude.{ℕ, suc, ◌+◌, ◌-◌, ◌*◌, ◌≤◌, ◌<◌, ◌≡◌, ◌⊎◌, Bool, length, get_or, ltb, leb, Option, Some, None, Result, Ok, Err, ok_or}
use native.Mathlib.Omega.{arith}
use Rattle.std.proofs.Common.{add-one, ◌∙◌, inl, inr, true≢false, ltb-true, ltb-false, leb-true, leb-false}
use Rattle.std.proofs.Math.Path.{refl, sym, ap, subst}
use Rattle.std.proofs.Math.Bool.{true, false, cond}
use mathlib.Core.List.{List, [], ◌∷◌, ◌++◌, map, append_assoc, append-nil}
use Rattle.meaning.specs.Clauses.{all}
use Rattle.meaning.specs.Lines.{line_at, ended, next_line, words, is_number, is_empty}
use Rattle.meaning.specs.Circuit.{var}
use Rattle.meaning.specs.CircuitText.{Section, fault, lines, section, line_right, line_and, if_right, before_next, numbers_at, at_number, defined_in, Line}
use Rattle.laws.specs.Basics.{bool_cases}
use Rattle.lines.specs.Numbers.{huge, capped}
use Rattle.lines.specs.Literals.{capped_below}
use Rattle.sections.specs.declared.find.Lines.{Lines}
use Rattle.sections.specs.declared.line.Form.{Form}
use Rattle.lines.specs.declared.fault.Fault.{Fault}
use Rattle.sections.specs.Lists.{first_lines, line_after, Numbered, Placed, variables_of, lines_more, after_more, numbered_more}
use Rattle.sections.specs.Rows.{form_of, before_of}
use Rattle.sections.specs.SectionLines.{Row, right_row}

-- how a section ends: where the next line starts, or the first line at fault
unfoldable pub ended_as : Section → Result ℕ Fault
ended_as (fault at) = Err (record { at = at })
ended_as (lines ls next) = Ok next

line_and_ends : (l : Line) (s : Section) → ended_as (line_and l s) ≡ ended_as s
unfolding ended_as line_and
line_and_ends l (fault at) = refl
line_and_ends l (lines ls next) = refl

-- ---- what is defined before line i

unfoldable pub own_count : Bool → ℕ → ℕ
own_count true i = i
own_count false i = 0

-- a map over one more
map_more : {A B : Type 0} (f : A → B) (xs : List A) (a : A) → map f (xs ++ (a ∷ [])) ≡ map f xs ++ (f a ∷ [])
map_more f [] a = refl
map_more f (x ∷ xs) a = ap (λ l. f x ∷ l) (map_more f xs a)

module _ (text : List ℕ) (at : ℕ) where
  unfoldable pub before_line : Bool → List ℕ → ℕ → List ℕ
  before_line defines before i = before ++ defined_in (first_lines text at (own_count defines i))

  pub before_none : (defines : Bool) (before : List ℕ) → before_line defines before 0 ≡ before
  unfolding before_line own_count first_lines defined_in
  before_none true before = append-nil before
  before_none false before = append-nil before

  pub before_more : (f : Form) (before : List ℕ) (i : ℕ)
      → before_next (form_of f) (before_line f.defines before i) (numbers_at text (line_after text at i))
      ≡ before_line f.defines before (i + 1)
  unfolding before_next form_of before_line own_count defined_in at_number
  before_more f before i = go f.defines
    where
      go : (d : Bool)
          → cond d ((before ++ defined_in (first_lines text at (own_count d i))) ++ (var (get_or (numbers_at text (line_after text at i)) 0 0) ∷ []))
          (before ++ defined_in (first_lines text at (own_count d i)))
          ≡ before ++ defined_in (first_lines text at (own_count d (i + 1)))
      go true =
          append_assoc before (defined_in (first_lines text at i)) _
          ∙ ap (λ (l : List ℕ). before ++ l)
          (sym (map_more (λ (l : Line). var (at_number 0 l)) (first_lines text at i) _)
          ∙ ap defined_in (sym (lines_more text at i) ∙ ap (first_lines text at) (sym (add-one i))))
      go false = refl

-- a line of numbers has a byte at least
numbers_byte : (line : List ℕ) → all is_number (words line) ≡ true → 1 ≤ length line
unfolding words all is_number is_empty
numbers_byte [] h = absurd (true≢false (sym h))
numbers_byte (b ∷ line) h = omega arith

-- ---- a section as far as i lines are read

module _ (text : List ℕ) (f : Form) (judged : Bool) (m : ℕ) (before : List ℕ) (at : ℕ) where
  pub record Going (count p i : ℕ) : Type 0 where
    pub ends : ended_as (section (form_of f) judged m text count before at)
        ≡ ended_as (section (form_of f) judged m text (count - i) (before_line text at f.defines before i) p)
    pub place : p ≡ line_after text at i
    pub inside : p ≤ length text
    pub numbered : Numbered text at i
    pub far : 2 * i ≤ p
    pub low : i ≤ count

  pub going_start : (count : ℕ) → at ≤ length text → Going count at 0
  unfolding line_after
  going_start count h =
      let all_left : count ≡ count - 0 = omega arith in
      record {
        ends =
            ap (λ (k : ℕ). ended_as (section (form_of f) judged m text k before at)) all_left
            ∙ ap (λ (b : List ℕ). ended_as (section (form_of f) judged m text (count - 0) b at)) (sym (before_none text at f.defines before));
        place = refl;
        inside = h;
        numbered = tt;
        far = omega arith;
        low = omega arith;
      }

  module _ {count p i : ℕ} (g : Going count p i) where
    pub going_end : count ≡ i → Ok p ≡ ended_as (section (form_of f) judged m text count before at)
    unfolding section ended_as
    going_end e =
        sym (g.ends ∙ ap (λ (k : ℕ). ended_as (section (form_of f) judged m text k (before_line text at f.defines before i) p)) (none e))
      where
        none : count ≡ i → count - i ≡ 0
        none e = omega arith

    module _ (less : i < count) where
      one_left : section (form_of f) judged m text (count - i) (before_line text at f.defines before i) p
          ≡ section (form_of f) judged m text (suc (count - (i + 1))) (before_line text at f.defines before i) p
      one_left = ap (λ (k : ℕ). section (form_of f) judged m text k (before_line text at f.defines before i) p) (up less)
        where
          up : i < count → count - i ≡ suc (count - (i + 1))
          up h = omega arith

      pub going_wrong : line_right (form_of f) judged m (before_line text at f.defines before i) text p ≡ false
          → Err (record { at = p }) ≡ ended_as (section (form_of f) judged m text count before at)
      unfolding section if_right ended_as
      going_wrong wrong = sym (g.ends ∙ ap ended_as one_left ∙ rw wrong)

      module _ (right : line_right (form_of f) judged m (before_line text at f.defines before i) text p ≡ true) (least : 1 ≤ f.width) (q : ℕ)
          (q_is : q ≡ next_line text p) (q_in : q ≤ length text) where
        row : Row text (form_of f).width p
        row = right_row (form_of f) judged m (before_line text at f.defines before i) text p right

        ends_next : ended_as (section (form_of f) judged m text (count - i) (before_line text at f.defines before i) p)
            ≡ ended_as (section (form_of f) judged m text (count - (i + 1)) (before_line text at f.defines before (i + 1)) q)
        unfolding section if_right
        ends_next =
            ap ended_as one_left ∙ rw right (line_and_ends _ _)
            ∙ ap (λ (b : List ℕ). ended_as (section (form_of f) judged m text (count - (i + 1)) b (next_line text p)))
            (ap (λ (k : ℕ). before_next (form_of f) (before_line text at f.defines before i) (numbers_at text k)) g.place
            ∙ before_more text at f before i)
            ∙ ap (λ (k : ℕ). ended_as (section (form_of f) judged m text (count - (i + 1)) (before_line text at f.defines before (i + 1)) k)) (sym q_is)

        pub going_next : Going count q (i + 1)
        unfolding next_line
        going_next =
            record {
              ends = g.ends ∙ ends_next;
              place =
                  q_is ∙ ap (next_line text) g.place ∙ sym (after_more text at i)
                  ∙ ap (line_after text at) (sym (add-one i));
              inside = q_in;
              numbered =
                  subst (Numbered text at) (sym (add-one i))
                  (numbered_more text at i g.numbered
                  (subst (λ (k : ℕ). ended text k ≡ true) g.place row.closed)
                  (subst (λ (k : ℕ). all is_number (words (line_at text k)) ≡ true) g.place row.numbers));
              far = omega (arith, g.far, q_is, numbers_byte (line_at text p) row.numbers);
              low = omega arith;
            }

-- what the next line's start tells, and that there is none: that the line is at fault
next_none : (b : Bool) (text : List ℕ) (p : ℕ) → None ≡ cond b (Some (next_line text p)) None → b ≡ false
next_none true text p is = absurd (cc)
next_none false text p is = refl

next_some : (b : Bool) (text : List ℕ) (p q : ℕ) → Some q ≡ cond b (Some (next_line text p)) None → (b ≡ true) × (q ≡ next_line text p)
next_some true text p q is = (refl, cc)
next_some false text p q is = absurd (cc)

-- the same of what the code returns for it
pub fault_none : (r : Option ℕ) (f e : Fault) → ◌≡◌ {A = Result ℕ Fault} (Err e) (ok_or r f) → (r ≡ None) × (e ≡ f)
fault_none None f e is = (refl, cc)
fault_none (Some q) f e is = absurd (cc)

pub fault_some : (r : Option ℕ) (f : Fault) (q : ℕ) → ◌≡◌ {A = Result ℕ Fault} (Ok q) (ok_or r f) → r ≡ Some q
fault_some None f q is = absurd (cc)
fault_some (Some p) f q is = cc

-- ---- what the code has before a line is that

pub before_is : (text : List ℕ) (at : ℕ) (inputs latches : Lines) (defines : Bool) (i own : ℕ) → own ≡ own_count defines i
    → before_of text (record { inputs = inputs; latches = latches; own = record { at = at; count = own } })
    ≡ before_line text at defines (variables_of text inputs ++ variables_of text latches) i
unfolding before_of before_line variables_of
before_is text at inputs latches defines i own e =
    sym
    (append_assoc (defined_in (first_lines text inputs.at inputs.count)) (defined_in (first_lines text latches.at latches.count))
    (defined_in (first_lines text at own)))
    ∙ ap
    (λ (k : ℕ).
    (defined_in (first_lines text inputs.at inputs.count) ++ defined_in (first_lines text latches.at latches.count))
    ++ defined_in (first_lines text at k))
    e

pub own_placed : (text : List ℕ) (at : ℕ) (defines : Bool) (i own : ℕ) → own ≡ own_count defines i → at ≤ length text → Numbered text at i
    → Placed text (record { at = at; count = own })
unfolding own_count
own_placed text at true i own e h n = record { inside = h; numbered = subst (Numbered text at) (sym e) n }
own_placed text at false i own e h n = record { inside = h; numbered = subst (Numbered text at) (sym e) tt }

-- when as many lines are read as the capped count says, all are
pub all_lines : (n total i p : ℕ) → total ≡ capped n → 2 * i ≤ p → p ≤ 18446744073709551615 → i ≤ n → (i < total → ⊥) → n ≡ i
all_lines n total i p is far top low past = go (bool_cases (ltb total huge))
  where
    go : (ltb total huge ≡ true) ⊎ (ltb total huge ≡ false) → n ≡ i
    go (inl t) =
        let same = capped_below n (subst (λ (v : ℕ). v < huge) is (ltb-true total huge t)) in
        omega (arith, same, low, is)
    go (inr t) = absurd (omega (arith, ltb-false total huge t))

pub capped_most : (n : ℕ) → capped n ≤ n
unfolding capped
capped_most n = go (bool_cases (leb huge n))
  where
    go : (leb huge n ≡ true) ⊎ (leb huge n ≡ false) → capped n ≤ n
    go (inl t) = rw t (leb-true huge n t)
    go (inr t) = rw t (omega arith)

pub capped_self : (n : ℕ) → n ≤ huge → n ≡ capped n
unfolding capped
capped_self n h = go (bool_cases (leb huge n))
  where
    go : (leb huge n ≡ true) ⊎ (leb huge n ≡ false) → n ≡ cond (leb huge n) huge n
    go (inl t) = sym (rw t (omega (arith, leb-true huge n t)))
    go (inr t) = sym (rw t)

pub capped_huge : (n : ℕ) → capped n ≤ huge
unfolding capped
capped_huge n = go (bool_cases (leb huge n))
  where
    go : (leb huge n ≡ true) ⊎ (leb huge n ≡ false) → cond (leb huge n) huge n ≤ huge
    go (inl t) = rw t (omega arith)
    go (inr t) = rw t (omega (arith, leb-false huge n t))

-- ---- the same, with what the code has

module _ (text : List ℕ) (f : Form) (judged : Bool) (m : ℕ) (inputs latches : Lines) (at p i own : ℕ) (r : Option ℕ)
    (own_is : own ≡ own_count f.defines i)
    (r_is : r ≡ cond (line_right (form_of f) judged m (before_of text (record { inputs = inputs; latches = latches; own = record { at = at; count = own } })) text p) (Some (next_line text p)) None)
  where
    said : r
        ≡ cond (line_right (form_of f) judged m (before_line text at f.defines (variables_of text inputs ++ variables_of text latches) i) text p)
        (Some (next_line text p)) None
    said =
        r_is
        ∙ ap (λ (b : List ℕ). cond (line_right (form_of f) judged m b text p) (Some (next_line text p)) None)
        (before_is text at inputs latches f.defines i own own_is)

    module _ (n : ℕ) (less : i < n) (g : Going text f judged m (variables_of text inputs ++ variables_of text latches) at n p i) where
      pub section_wrong : r ≡ None
          → Err (record { at = p }) ≡ ended_as (section (form_of f) judged m text n (variables_of text inputs ++ variables_of text latches) at)
      section_wrong e = going_wrong text f judged m _ at g less (next_none _ text p (sym e ∙ said))

      pub section_next : 1 ≤ f.width → (q : ℕ) → r ≡ Some q → q ≤ length text
          → Going text f judged m (variables_of text inputs ++ variables_of text latches) at n q (i + 1)
      section_next least q e inside =
          let next = next_some _ text p q (sym e ∙ said) in
          going_next text f judged m _ at g less next.0 least q next.1 inside

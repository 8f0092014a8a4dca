-- A section that is read is so many lines from its place on, each ended and of so many numbers at least.
use Rattle.std.specs.Prelude.{ℕ, zero, suc, ◌+◌, ◌≤◌, ◌≡◌, refl, ◌⊎◌, Bool, true, false, ◌&&◌, List, ◌∷◌, length}
use Rattle.std.proofs.Common.{arith, sym, ap, ◌∙◌, inl, inr, ltb-true}
use Rattle.meaning.specs.Clauses.{all}
use Rattle.meaning.specs.Lines.{line_at, ended, next_line, words, is_number, of_numbers}
use Rattle.meaning.specs.CircuitText.{Form, Section, fault, lines, section, line_right, width_right, literals_right, line_and, if_right, before_next, numbers_at, Line}
use Rattle.laws.specs.Basics.{bool_cases, and_left, and_right}
use Rattle.sections.specs.Lists.{first_lines, line_after, Numbered}
use Rattle.sections.specs.Split.{numbers_all, numbers_count}

-- the line at a place is ended, and of so many numbers at least
pub record Row (text : List ℕ) (width at : ℕ) : Type 0 where
  pub closed : ended text at ≡ true
  pub numbers : all is_number (words (line_at text at)) ≡ true
  pub wide : width ≤ length (words (line_at text at))

-- each of so many lines is such a line
abbrev pub Rows : List ℕ → ℕ → ℕ → ℕ → Type 0
Rows text width at zero = Unit {0}
Rows text width at (suc i) = Row text width at × Rows text width (next_line text at) i

pub rows_numbered : (text : List ℕ) (width at i : ℕ) → Rows text width at i → Numbered text at i
rows_numbered text width at zero r = tt
rows_numbered text width at (suc i) r =
    (r.0.closed, r.0.numbers, rows_numbered text width (next_line text at) i r.1)

-- the line after one that is ended starts inside the text, or at its end
pub next_inside : (text : List ℕ) (at : ℕ) → ended text at ≡ true → next_line text at ≤ length text
unfolding ended next_line
next_inside text at h = omega (arith, ltb-true (at + length (line_at text at)) (length text) h)

pub rows_inside : (text : List ℕ) (width at i : ℕ) → at ≤ length text → Rows text width at i → line_after text at i ≤ length text
unfolding line_after
rows_inside text width at zero inside r = inside
rows_inside text width at (suc i) inside r =
    rows_inside text width (next_line text at) i (next_inside text at r.0.closed) r.1

-- a line whose numbers are as many as its form says
pub width_numbers : (f : Form) (line : List ℕ) → width_right f line ≡ true
    → (all is_number (words line) ≡ true) × (f.width ≤ length (words line))
unfolding width_right
width_numbers f line h = go (bool_cases (of_numbers f.width line))
  where
    go : (of_numbers f.width line ≡ true) ⊎ (of_numbers f.width line ≡ false)
        → (all is_number (words line) ≡ true) × (f.width ≤ length (words line))
    go (inl t) = (numbers_all f.width line t, omega (arith, numbers_count f.width line t))
    go (inr t) =
        let one_more = and_right f.starts (of_numbers (suc f.width) line) (sym (rw t) ∙ h) in
        (numbers_all (suc f.width) line one_more, omega (arith, numbers_count (suc f.width) line one_more))

-- a line that is right
pub right_row : (f : Form) (judged : Bool) (m : ℕ) (before text : List ℕ) (at : ℕ) → line_right f judged m before text at ≡ true
    → Row text f.width at
unfolding line_right
right_row f judged m before text at h =
    let three = and_left (ended text at && width_right f (line_at text at) && literals_right f judged m before (numbers_at text at)) _ h in
    let two = and_left (ended text at && width_right f (line_at text at)) _ three in
    let numbers = width_numbers f (line_at text at) (and_right (ended text at) _ two) in
    record { closed = and_left (ended text at) _ two; numbers = numbers.0; wide = numbers.1 }

-- what a section that is read is
pub record ReadRows (text : List ℕ) (width at count : ℕ) (ls : List Line) (next : ℕ) : Type 0 where
  pub lines_are : ls ≡ first_lines text at count
  pub next_is : next ≡ line_after text at count
  pub rows : Rows text width at count

lines_same : {ls ms : List Line} {a b : ℕ} → lines ls a ≡ lines ms b → (ls ≡ ms) × (a ≡ b)
lines_same e = (cc, cc)

fault_not : {a b : ℕ} {ls : List Line} → fault a ≡ lines ls b → ⊥
fault_not e = let z : ◌≡◌ {A = ℕ} 0 1 = cc in omega arith

and_lines : (l : Line) (s : Section) (ls : List Line) (next : ℕ) → line_and l s ≡ lines ls next
    → (ms : List Line) × (s ≡ lines ms next) × (ls ≡ (l ∷ ms))
unfolding line_and
and_lines l (fault at) ls next e = absurd (fault_not e)
and_lines l (lines ms b) ls next e = let both = lines_same e in (ms, ap (lines ms) both.1, sym both.0)

pub section_rows : (f : Form) (judged : Bool) (m : ℕ) (text : List ℕ) (count : ℕ) (before : List ℕ) (at : ℕ) (ls : List Line) (next : ℕ)
    → section f judged m text count before at ≡ lines ls next → ReadRows text f.width at count ls next
unfolding section first_lines line_after if_right
section_rows f judged m text zero before at ls next e =
    let both = lines_same e in record { lines_are = sym both.0; next_is = sym both.1; rows = tt }
section_rows f judged m text (suc count) before at ls next e =
    go (line_right f judged m before text at) refl e
    (λ ms on. section_rows f judged m text count (before_next f before (numbers_at text at)) (next_line text at) ms next on)
  where
    here : Line
    here = record { at = at; numbers = numbers_at text at }

    rest : Section
    rest = section f judged m text count (before_next f before (numbers_at text at)) (next_line text at)

    Rest : Type 0
    Rest = (ms : List Line) → rest ≡ lines ms next → ReadRows text f.width (next_line text at) count ms next

    go : (b : Bool) → line_right f judged m before text at ≡ b → if_right b at (line_and here rest) ≡ lines ls next → Rest
        → ReadRows text f.width at (suc count) ls next
    go true t h on =
        let cut = and_lines here rest ls next h in
        let later = on cut.0 cut.1 in
        record {
          lines_are = cut.2 ∙ ap (λ (ms : List Line). here ∷ ms) later.lines_are;
          next_is = later.next_is;
          rows = (right_row f judged m before text at t, later.rows);
        }
    go false t h on = absurd (fault_not h)

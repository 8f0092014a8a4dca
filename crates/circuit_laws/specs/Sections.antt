-- The lines of a circuit text that is read: each section has as many as the header says, each line as many numbers as its form says, and each
-- line that defines a variable defines one that is not 0, by a literal that is not negated, and that no line before it defines.
use Rattle.std.specs.Prelude.{ℕ, zero, suc, ◌*◌, ◌%◌, ◌≤◌, ◌≡◌, refl, ◌⊎◌, Bool, true, false, not, ◌&&◌, ◌||◌, cond, List, [], ◌∷◌, ◌++◌, map, length, get_or, leb, eqb}
use Rattle.std.proofs.Common.{arith, sym, ap, subst, ◌∙◌, inl, inr, append-nil, append_assoc, eqb-true, ne_eqb, leb-true}
use Rattle.std.proofs.lemmas.List.{length-map}
use Rattle.meaning.specs.Clauses.{all}
use Rattle.meaning.specs.File.{between}
use Rattle.meaning.specs.Demands.{In}
use Rattle.meaning.specs.Circuit.{var, negated}
use Rattle.meaning.specs.Built.{among}
use Rattle.meaning.specs.Lines.{line_at, ended, next_line, words, decimal, of_numbers}
use Rattle.meaning.specs.CircuitText.{Form, Line, Section, fault, lines, at_number, used_right, defined_right, literals_right, width_right, start_right, numbers_at, line_right, before_next, line_and, if_right, section, defined_in}
use Rattle.laws.specs.Basics.{and_left, and_right, or_cases, false_of_not, not_both, in_append_cases}
use Rattle.circuit_laws.specs.Sane.{Once}
use Rattle.circuit_laws.specs.Listed.{among_of}

-- ---- line by line

if_right_lines : (b : Bool) (at : ℕ) (on : Section) (ls : List Line) (next : ℕ) → if_right b at on ≡ lines ls next
    → (b ≡ true) × (on ≡ lines ls next)
unfolding if_right
if_right_lines true at on ls next e = (refl, e)
if_right_lines false at on ls next e = let z : ◌≡◌ {A = ℕ} 0 1 = cc in absurd (omega arith)

line_and_lines : (l : Line) (on : Section) (ls : List Line) (next : ℕ) → line_and l on ≡ lines ls next
    → (rest : List Line) × (on ≡ lines rest next) × (ls ≡ l ∷ rest)
unfolding line_and
line_and_lines l (fault at) ls next e = let z : ◌≡◌ {A = ℕ} 0 1 = cc in absurd (omega arith)
line_and_lines l (lines rest at) ls next e = (rest, (cc), (cc))

-- the first line of a section, and the rest
section_step : (f : Form) (judged : Bool) (m : ℕ) (text : List ℕ) (count : ℕ) (before : List ℕ) (at : ℕ) (ls : List Line) (next : ℕ)
    → section f judged m text (suc count) before at ≡ lines ls next
    → (rest : List Line) × (line_right f judged m before text at ≡ true)
    × (section f judged m text count (before_next f before (numbers_at text at)) (next_line text at) ≡ lines rest next)
    × (ls ≡ record { at = at; numbers = numbers_at text at } ∷ rest)
unfolding section
section_step f judged m text count before at ls next e =
    let this : Line = record { at = at; numbers = numbers_at text at } in
    let on = section f judged m text count (before_next f before (numbers_at text at)) (next_line text at) in
    let (is_right, more) = if_right_lines (line_right f judged m before text at) at (line_and this on) ls next e in
    let (rest, further, is) = line_and_lines this on ls next more in
    (rest, is_right, further, is)

pub section_count : (f : Form) (judged : Bool) (m : ℕ) (text : List ℕ) (count : ℕ) (before : List ℕ) (at : ℕ) (ls : List Line) (next : ℕ)
    → section f judged m text count before at ≡ lines ls next → length ls ≡ count
unfolding section
section_count f judged m text zero before at ls next e = let none : ls ≡ [] = cc in ap length none
section_count f judged m text (suc count) before at ls next e =
    let (rest, is_right, further, is) = section_step f judged m text count before at ls next e in
    ap length is
    ∙ ap suc (section_count f judged m text count (before_next f before (numbers_at text at)) (next_line text at) rest next further)

-- ---- how many numbers a line has

line_width : (f : Form) (judged : Bool) (m : ℕ) (before : List ℕ) (text : List ℕ) (at : ℕ) → line_right f judged m before text at ≡ true
    → width_right f (line_at text at) ≡ true
unfolding line_right
line_width f judged m before text at h =
    let as_numbers = width_right f (line_at text at) in
    let as_literals = literals_right f judged m before (numbers_at text at) in
    and_right (ended text at) as_numbers
    (and_left (ended text at && as_numbers) as_literals
    (and_left (ended text at && as_numbers && as_literals) (start_right f (numbers_at text at)) h))

-- so many as the form says or, where a start value may follow, one more
word_count : (f : Form) (line : List ℕ) → width_right f line ≡ true
    → (length (words line) ≡ f.width) ⊎ ((f.starts ≡ true) × (length (words line) ≡ suc f.width))
unfolding width_right of_numbers
word_count f line h = go (or_cases (of_numbers f.width line) (f.starts && of_numbers (suc f.width) line) h)
  where
    counted : (count : ℕ) → of_numbers count line ≡ true → length (words line) ≡ count
    counted count e = eqb-true (length (words line)) count (and_left (eqb (length (words line)) count) _ e)

    go : (of_numbers f.width line ≡ true) ⊎ ((f.starts && of_numbers (suc f.width) line) ≡ true)
        → (length (words line) ≡ f.width) ⊎ ((f.starts ≡ true) × (length (words line) ≡ suc f.width))
    go (inl e) = inl (counted f.width e)
    go (inr e) = inr (and_left f.starts _ e, counted (suc f.width) (and_right f.starts _ e))

-- where none may follow, each line of a section has as many as the form says
pub section_numbers : (f : Form) (judged : Bool) (m : ℕ) (text : List ℕ) (count : ℕ) (before : List ℕ) (at : ℕ) (ls : List Line) (next : ℕ)
    → f.starts ≡ false → section f judged m text count before at ≡ lines ls next → (l : Line) → In l ls → length l.numbers ≡ f.width
unfolding section numbers_at
section_numbers f judged m text zero before at ls next older e l i =
    let none : ls ≡ [] = cc in absurd (subst (In l) none i)
section_numbers f judged m text (suc count) before at ls next older e l i =
    let (rest, is_right, further, is) = section_step f judged m text count before at ls next e in
    go rest (word_count f (line_at text at) (line_width f judged m before text at is_right))
    (section_numbers f judged m text count (before_next f before (numbers_at text at)) (next_line text at) rest next older further l)
    (subst (In l) is i)
  where
    go : (rest : List Line)
        → (length (words (line_at text at)) ≡ f.width) ⊎ ((f.starts ≡ true) × (length (words (line_at text at)) ≡ suc f.width))
        → (In l rest → length l.numbers ≡ f.width) → In l (record { at = at; numbers = numbers_at text at } ∷ rest)
        → length l.numbers ≡ f.width
    go rest (inl many) on (inl this) = ap (λ (a : Line). length a.numbers) this ∙ length-map (words (line_at text at)) decimal ∙ many
    go rest (inl many) on (inr later) = on later
    go rest (inr (starts, many)) on place = absurd (not_both starts older)

-- ---- lines that define

-- each line defines a variable that is new
abbrev pub DefinedFrom : List ℕ → List Line → Type 0
DefinedFrom before [] = Unit {0}
DefinedFrom before (l ∷ ls) =
    (negated (at_number 0 l) ≡ false) × (var (at_number 0 l) ≡ 0 → ⊥) × (In (var (at_number 0 l)) before → ⊥)
    × DefinedFrom (before ++ (var (at_number 0 l) ∷ [])) ls

defined_is : (m : ℕ) (before : List ℕ) (l : ℕ) → defined_right true m before l ≡ true
    → (negated l ≡ false) × (var l ≡ 0 → ⊥) × (In (var l) before → ⊥)
unfolding defined_right between negated var
defined_is m before l h =
    let in_range = leb 2 l && leb l (2 * m) in
    let is_even = eqb (l % 2) 0 in
    let is_new = not (among (var l) before) in
    let first = and_left (is_even && in_range) is_new h in
    let even : l % 2 ≡ 0 = eqb-true (l % 2) 0 (and_left is_even in_range first) in
    let low : 2 ≤ l = leb-true 2 l (and_left (leb 2 l) (leb l (2 * m)) (and_right is_even in_range first)) in
    let fresh = false_of_not (among (var l) before) (and_right (is_even && in_range) is_new h) in
    (ne_eqb (l % 2) 1 (omega arith), omega arith, λ i. not_both (among_of (var l) before i) fresh)

first_defined : (f : Form) (judged : Bool) (m : ℕ) (before : List ℕ) (text : List ℕ) (at : ℕ) → f.defines ≡ true → f.counts ≡ false
    → 1 ≤ f.width → line_right f judged m before text at ≡ true → defined_right judged m before (get_or (numbers_at text at) 0 0) ≡ true
unfolding line_right literals_right numbers_at
first_defined f judged m before text at defines counts wide h =
    let shape = ended text at && width_right f (line_at text at) in
    let as_literals = literals_right f judged m before (numbers_at text at) in
    go (words (line_at text at)) (some_word (word_count f (line_at text at) (line_width f judged m before text at h)))
    (and_right shape as_literals (and_left (shape && as_literals) (start_right f (numbers_at text at)) h))
  where
    some_word : {k : ℕ} → (k ≡ f.width) ⊎ ((f.starts ≡ true) × (k ≡ suc f.width)) → 1 ≤ k
    some_word (inl e) = omega arith
    some_word (inr (starts, e)) = omega arith

    go : (ws : List (List ℕ)) → 1 ≤ length ws → literals_right f judged m before (map decimal ws) ≡ true
        → defined_right judged m before (get_or (map decimal ws) 0 0) ≡ true
    go [] a b = absurd (omega arith)
    go (w ∷ ws) a b =
        let defined = defined_right judged m before (decimal w) in
        let used = used_right m (decimal w) in
        let rest = all (used_right m) (map decimal ws) in
        sym (ap (λ (d : Bool). cond d defined used) defines)
        ∙ and_left (cond f.defines defined used) rest (sym (ap (λ (d : Bool). d || (cond f.defines defined used && rest)) counts) ∙ b)

pub section_defines : (f : Form) (m : ℕ) (text : List ℕ) (count : ℕ) (before : List ℕ) (at : ℕ) (ls : List Line) (next : ℕ)
    → f.defines ≡ true → f.counts ≡ false → 1 ≤ f.width → section f true m text count before at ≡ lines ls next → DefinedFrom before ls
unfolding section at_number before_next
section_defines f m text zero before at ls next defines counts wide e = let none : [] ≡ ls = cc in subst (DefinedFrom before) none tt
section_defines f m text (suc count) before at ls next defines counts wide e =
    let (rest, is_right, further, is) = section_step f true m text count before at ls next e in
    let l = get_or (numbers_at text at) 0 0 in
    let new = defined_is m before l (first_defined f true m before text at defines counts wide is_right) in
    let after : before_next f before (numbers_at text at) ≡ before ++ (var l ∷ []) = cc in
    let on = section_defines f m text count (before_next f before (numbers_at text at)) (next_line text at) rest next defines counts wide further in
    subst (DefinedFrom before) (sym is) (new.0, new.1, new.2, subst (λ (b : List ℕ). DefinedFrom b rest) after on)

-- ---- what they define

once_more : (us : List ℕ) (u : ℕ) → Once us → (In u us → ⊥) → Once (us ++ (u ∷ []))
once_more [] u o f = ((λ i. i), tt)
once_more (v ∷ us) u o f = (λ i. go (in_append_cases v us (u ∷ []) i), once_more us u o.1 (λ i. f (inr i)))
  where
    go : In v us ⊎ In v (u ∷ []) → ⊥
    go (inl i) = o.0 i
    go (inr (inr x4)) = elim x4 [ ]
    go (inr (inl e)) = f (inl (sym e))

pub defined_once : (before : List ℕ) (ls : List Line) → Once before → DefinedFrom before ls → Once (before ++ defined_in ls)
unfolding defined_in
defined_once before [] o h = rw append-nil o
defined_once before (l ∷ ls) o h =
    let u = var (at_number 0 l) in
    rw append_assoc at (defined_once (before ++ (u ∷ [])) ls (once_more before u o h.2) h.3)

pub defined_at : (before : List ℕ) (ls : List Line) → DefinedFrom before ls → (l : Line) → In l ls
    → (negated (at_number 0 l) ≡ false) × (var (at_number 0 l) ≡ 0 → ⊥)
defined_at before [] h l x'' = elim x'' [ ]
defined_at before (k ∷ ls) h l (inl e) = (
  ap (λ (a : Line). negated (at_number 0 a)) e ∙ h.0,
  λ z. h.1 (sym (ap (λ (a : Line). var (at_number 0 a)) e) ∙ z),
)
defined_at before (k ∷ ls) h l (inr i) = defined_at (before ++ (var (at_number 0 k) ∷ [])) ls h.3 l i

-- Clauses read in place: the next literal, the next record.
use Prim.Native.Nat.{ℕ, zero, suc, ◌+◌, ◌-◌, ◌*◌, ◌/◌, ◌≤◌, ◌<◌}
use native.Mathlib.Nat.{not-suc-le-zero}
use native.Mathlib.Numerals.{add-one, sub-one}
use native.Mathlib.Omega.{arith}
use mathlib.Core.Path.{◌≡◌, refl, sym, ap, ap₂, ◌∙◌, subst, subst₂}
use mathlib.Core.Bool.{Bool, true, false, true≢false}
use mathlib.Core.List.{List, [], ◌∷◌, map}
use lib.ListN.{length, get_or, drop}
use Rattle.meaning.specs.Clauses.{Literal, pos, neg, Clause, variable, negation}
use Rattle.meaning.specs.Meaning.{at_marks}
use Rattle.meaning.specs.Rules.{denied, next}
use Rattle.meaning.specs.Search.{Setting, value}
use Rattle.meaning.specs.File.{two_at, literal_at, literals}
use Rattle.format.specs.Section.{next_record, clause_at, section, Inside}
use Rattle.laws.specs.Within.{ClauseWithin, Within}
use Rattle.laws.specs.Setting.{variable_negation}
use Rattle.passes.specs.Sweep.{Status, met, seen, status_from}
use Rattle.passes.specs.Forms.{entry}
use Rattle.passes.specs.Places.{Literals, Records, Denials}
use Rattle.passes.proofs.EntryLaws.{entry_false}
use Rattle.passes.proofs.StatusLaws.{status_true, status_false, status_unset}

pub pred_suc : (k : ℕ) → suc k - 1 ≡ k
pred_suc k = sub-one (suc k)

pub literals_more : (file : List ℕ) (at left : ℕ) → 0 < left
    → literals file at left ≡ literal_at file at ∷ literals file (at + 2) (left - 1)
unfolding literals
literals_more file at zero h = absurd (not-suc-le-zero h)
literals_more file at (suc left) h = ap (λ (k : ℕ). literal_at file at ∷ literals file (at + 2) k) (sym (pred_suc left))

module _ (file : List ℕ) (at left : ℕ) (h : 0 < left) (r : Literals file at left) where
  first_within : ClauseWithin 512 (literal_at file at ∷ literals file (at + 2) (left - 1))
  first_within = subst (ClauseWithin 512) (literals_more file at left h) r.within

  pub literal_inside : at + 1 < length file
  literal_inside = let i : at + 2 * left ≤ length file = r.inside in omega arith

  pub literal_range : variable (literal_at file at) < 513
  literal_range = let i : variable (literal_at file at) ≤ 512 = first_within.0.1 in omega arith

  pub literals_next : Literals file (at + 2) (left - 1)
  literals_next = let i : at + 2 * left ≤ length file = r.inside in record { inside = omega arith; within = first_within.1 }

-- the literals after so many of them
module _ (file : List ℕ) (start count i : ℕ) (h : i < count) where
  pub some_left : 0 < count - i
  some_left = omega arith

  pub one_fewer : count - i - 1 ≡ count - (i + 1)
  one_fewer = omega arith

  pub two_on : start + 2 * i + 2 ≡ start + 2 * (i + 1)
  two_on = omega arith

  pub rest_after : literals file (start + 2 * i + 2) (count - i - 1) ≡ literals file (start + 2 * (i + 1)) (count - (i + 1))
  rest_after = ap₂ (literals file) two_on one_fewer

  pub literals_after : Literals file (start + 2 * i) (count - i) → Literals file (start + 2 * (i + 1)) (count - (i + 1))
  literals_after r = subst₂ (Literals file) two_on one_fewer (literals_next file (start + 2 * i) (count - i) some_left r)

-- a literal of a clause is read, and its value told as an entry

module _ (v : Setting) (s : Status) (file : List ℕ) (at left : ℕ) (h : 0 < left) (l : Literal) (e : l ≡ literal_at file at)
    (w : ℕ) (told : entry w ≡ value v l)
  where
    here : status_from v s (literals file at left) ≡ status_from v s (l ∷ literals file (at + 2) (left - 1))
    here = ap (status_from v s) (literals_more file at left h ∙ ap (λ (k : Literal). k ∷ literals file (at + 2) (left - 1)) (sym e))

    pub read_true : w ≡ 1 → status_from v s (literals file at left) ≡ met
    unfolding entry
    read_true is = here ∙ status_true v s l (literals file (at + 2) (left - 1)) (sym told ∙ ap entry is)

    pub read_unset : w ≡ 0 → status_from v s (literals file at left) ≡ status_from v (seen s l) (literals file (at + 2) (left - 1))
    unfolding entry
    read_unset is = here ∙ status_unset v s l (literals file (at + 2) (left - 1)) (sym told ∙ ap entry is)

    pub read_false : (w ≡ 0 → ⊥) → (w ≡ 1 → ⊥) → status_from v s (literals file at left) ≡ status_from v s (literals file (at + 2) (left - 1))
    read_false f g = here ∙ status_false v s l (literals file (at + 2) (left - 1)) (sym told ∙ entry_false w f g)

pub literals_done : (v : Setting) (s : Status) (file : List ℕ) (at left : ℕ) → left ≤ 0 → status_from v s (literals file at left) ≡ s
unfolding literals status_from
literals_done v s file at zero h = refl
literals_done v s file at (suc left) h = absurd (not-suc-le-zero h)

-- the next record

pub section_more : (file : List ℕ) (at left : ℕ) → 0 < left
    → section file at left ≡ clause_at file at ∷ section file (next_record file at) (left - 1)
unfolding section
section_more file at zero h = absurd (not-suc-le-zero h)
section_more file at (suc left) h =
    ap (λ (k : ℕ). clause_at file at ∷ section file (next_record file at) k) (sym (pred_suc left))

pub section_done : (file : List ℕ) (at left : ℕ) → left ≤ 0 → section file at left ≡ []
unfolding section
section_done file at zero h = refl
section_done file at (suc left) h = absurd (not-suc-le-zero h)

pub inside_more : (file : List ℕ) (at left : ℕ) → 0 < left → Inside file at left
    → (next_record file at ≤ length file) × Inside file (next_record file at) (left - 1)
inside_more file at zero h i = absurd (not-suc-le-zero h)
inside_more file at (suc left) h i = (i.0, subst (Inside file (next_record file at)) (sym (pred_suc left)) i.1)

pub half_twice : (n : ℕ) → 2 * (n / 2) ≤ n
half_twice n = omega arith

module _ (file : List ℕ) (at left : ℕ) (h : 0 < left) (r : Records file at left) where
  pub record_inside : at + 4 + two_at file at ≤ length file
  unfolding next_record
  record_inside = (inside_more file at left h r.inside).0

  clauses_within : Within 512 (clause_at file at ∷ section file (next_record file at) (left - 1))
  clauses_within = subst (Within 512) (section_more file at left h) r.within

  pub record_literals : Literals file (at + 4) (two_at file at / 2)
  unfolding clause_at
  record_literals = record { inside = omega (arith, record_inside, half_twice (two_at file at)); within = clauses_within.0 }

  pub records_next : Records file (next_record file at) (left - 1)
  records_next = record { inside = (inside_more file at left h r.inside).1; within = clauses_within.1 }

-- the lemma at a position, in or out

pub marks_in : (on : List Bool) (i : ℕ) (c : Clause) (cs : List Clause) → get_or on i false ≡ true
    → at_marks (drop i on) (c ∷ cs) ≡ c ∷ at_marks (drop (i + 1) on) cs
unfolding at_marks
marks_in on i c cs e = go on i e ∙ ap (λ (k : ℕ). c ∷ at_marks (drop k on) cs) (sym (add-one i))
  where
    go : (on : List Bool) (i : ℕ) → get_or on i false ≡ true → at_marks (drop i on) (c ∷ cs) ≡ c ∷ at_marks (drop (suc i) on) cs
    go [] i e = absurd (true≢false (sym e))
    go (true ∷ on) zero e = refl
    go (false ∷ on) zero e = absurd (true≢false (sym e))
    go (b ∷ on) (suc i) e = go on i e

pub marks_out : (on : List Bool) (i : ℕ) (c : Clause) (cs : List Clause) → get_or on i false ≡ false
    → at_marks (drop i on) (c ∷ cs) ≡ at_marks (drop (i + 1) on) cs
unfolding at_marks
marks_out on i c cs e = go on i e ∙ ap (λ (k : ℕ). at_marks (drop k on) cs) (sym (add-one i))
  where
    go : (on : List Bool) (i : ℕ) → get_or on i false ≡ false → at_marks (drop i on) (c ∷ cs) ≡ at_marks (drop (suc i) on) cs
    go [] zero e = refl
    go [] (suc i) e = refl
    go (true ∷ on) zero e = absurd (true≢false e)
    go (false ∷ on) zero e = refl
    go (b ∷ on) (suc i) e = go on i e

pub marks_none : (on : List Bool) → at_marks on [] ≡ []
unfolding at_marks
marks_none [] = refl
marks_none (b ∷ on) = refl

-- the next literal that is denied

variable_next : (n : ℕ) (l : Literal) → variable (next n l) ≡ n + variable l
unfolding variable next
variable_next n (pos x) = refl
variable_next n (neg x) = refl

module _ (file : List ℕ) (at left added : ℕ) (h : 0 < left) (r : Denials file at left added) where
  pub denied_more : denied (map (next added) (literals file at left))
      ≡ (negation (next added (literal_at file at)) ∷ []) ∷ denied (map (next added) (literals file (at + 2) (left - 1)))
  unfolding denied
  denied_more = ap (λ (c : Clause). denied (map (next added) c)) (literals_more file at left h)

  shifted_within : ClauseWithin 512 (next added (literal_at file at) ∷ map (next added) (literals file (at + 2) (left - 1)))
  shifted_within = subst (λ (c : Clause). ClauseWithin 512 (map (next added) c)) (literals_more file at left h) r.within

  pub denial_inside : at + 1 < length file
  denial_inside = let i : at + 2 * left ≤ length file = r.inside in omega arith

  pub denial_range : added + variable (literal_at file at) < 513
  denial_range =
      let i : variable (next added (literal_at file at)) ≤ 512 = shifted_within.0.1 in
      omega (arith, variable_next added (literal_at file at))

  -- the clause of the one literal that is denied
  pub denial_within : ClauseWithin 512 (negation (next added (literal_at file at)) ∷ [])
  denial_within = ((rw variable_negation shifted_within.0.0, rw variable_negation shifted_within.0.1), tt)

  pub denials_next : Denials file (at + 2) (left - 1) added
  denials_next = let i : at + 2 * left ≤ length file = r.inside in record { inside = omega arith; within = shifted_within.1 }

pub denied_done : (file : List ℕ) (at left added : ℕ) → left ≤ 0 → denied (map (next added) (literals file at left)) ≡ []
unfolding literals denied
denied_done file at zero added h = refl
denied_done file at (suc left) added h = absurd (not-suc-le-zero h)

-- Laws of a lemma's line: a literal more, a record more.
use Prim.Native.Nat.{ℕ, zero, suc, ◌+◌, ◌-◌, ◌≤◌, ◌<◌}
use Rattle.std.proofs.Common.{arith, sym, subst, ◌∙◌}
use Rattle.std.specs.Prelude.{◌≡◌, refl, List, [], ◌++◌, length}
use Rattle.std.proofs.Math.Path.{ap}
use Rattle.std.proofs.Math.ListN.{get_or}
use borrow.Author.Tests.{lt-ltb, le-ltb}
use Rattle.meaning.specs.Clauses.{Clause}
use Rattle.meaning.specs.File.{accepted, literal_at, literals}
use Rattle.format.specs.Section.{next_record, clause_at, section, Inside, problem_at}
use Rattle.format.specs.declared.Problem.{Problem}
use Rattle.problem.specs.Held.{length_section}
use Rattle.text.specs.Ascii.{ascii}
use Rattle.text.specs.Page.{Appends}
use Rattle.text.specs.PageLaws.{Leaves, leaves_is, leaves_less}
use Rattle.told_lemmas.specs.Lemmas.{literal_text, literals_text, clause_text, lemma_text}

-- one less
less : (n : ℕ) → n ≡ suc n - 1
less n = omega arith

-- the literals from a place on: the first, and then those that are left
literals_first : (file : List ℕ) (at left : ℕ) → 0 < left
    → literals_text (literals file at left) ≡ literal_text (literal_at file at) ++ literals_text (literals file (at + 2) (left - 1))
unfolding literals literals_text
literals_first file at zero h = absurd (omega (arith, h))
literals_first file at (suc left) h =
    ap (λ (n : ℕ). literal_text (literal_at file at) ++ literals_text (literals file (at + 2) n)) (less left)

pub literal_more : {all a b c : List ℕ} {i j k : ℕ} (file : List ℕ) (at left : ℕ) → 0 < left
    → Leaves all a i (literals_text (literals file at left)) b j → Appends (literal_text (literal_at file at)) b j c k
    → Leaves all a i (literals_text (literals file (at + 2) (left - 1))) c k
literal_more file at left h before wrote = leaves_less (leaves_is (literals_first file at left h) before) wrote

pub literals_done : {all a b c : List ℕ} {i j k : ℕ} (file : List ℕ) (at left : ℕ) → left ≡ 0
    → Leaves all a i (literals_text (literals file at left)) b j → Appends (ascii "\n") b j c k → Appends all a i c k
unfolding literals literals_text
literals_done {c = c} {k = k} file at left e before wrote =
    leaves_is (ap (λ (n : ℕ). literals_text (literals file at n)) e) before c k wrote

-- a clause of no literals, and one of some
pub clause_none : (file : List ℕ) (at count : ℕ) → count ≡ 0 → ascii " no literal, never true\n" ≡ clause_text (literals file at count)
unfolding literals clause_text
clause_none file at count e = sym (ap (λ (n : ℕ). clause_text (literals file at n)) e)

pub clause_some : (file : List ℕ) (at count : ℕ) → (count ≡ 0 → ⊥) → literals_text (literals file at count) ≡ clause_text (literals file at count)
unfolding literals clause_text
clause_some file at zero h = absurd (h refl)
clause_some file at (suc count) h = refl

-- where the record stands that is so many records behind another, and that it lies inside the file
abbrev pub Stands : List ℕ → ℕ → ℕ → ℕ → Type 0
Stands file start position r =
    (clause_at file r ≡ get_or (section file start (suc position)) position []) × (next_record file r ≤ length file)

-- records one after another: the first, and then those that are left
module _ (file : List ℕ) (at : ℕ) where
  pub inside_more : (left : ℕ) → 0 < left → Inside file at (suc left)
      → (next_record file at ≤ length file) × Inside file (next_record file at) (suc (left - 1))
  inside_more zero h inside = absurd (omega (arith, h))
  inside_more (suc left) h inside = (inside.0, subst (λ (n : ℕ). Inside file (next_record file at) (suc n)) (less left) inside.1)

  pub section_more : (left : ℕ) → 0 < left
      → get_or (section file at (suc left)) left [] ≡ get_or (section file (next_record file at) (suc (left - 1))) (left - 1) []
  unfolding section
  section_more zero h = absurd (omega (arith, h))
  section_more (suc left) h = ap (λ (n : ℕ). get_or (section file (next_record file at) (suc n)) n []) (less left)

  pub section_first : (left : ℕ) → left ≡ 0 → get_or (section file at (suc left)) left [] ≡ clause_at file at
  unfolding section
  section_first left e = ap (λ (n : ℕ). get_or (section file at (suc n)) n []) e

-- those up to a position, of so many
pub inside_fewer : (file : List ℕ) (at position count : ℕ) → position < count → Inside file at count → Inside file at (suc position)
inside_fewer file at position zero h inside = absurd (omega (arith, h))
inside_fewer file at zero (suc count) h inside = (inside.0, tt)
inside_fewer file at (suc position) (suc count) h inside =
    (inside.0, inside_fewer file (next_record file at) position count (omega arith) inside.1)

section_fewer : (file : List ℕ) (at position count : ℕ) → position < count
    → get_or (section file at (suc position)) position [] ≡ get_or (section file at count) position []
unfolding section
section_fewer file at position zero h = absurd (omega (arith, h))
section_fewer file at zero (suc count) h = refl
section_fewer file at (suc position) (suc count) h = section_fewer file (next_record file at) position count (omega arith)

-- the lemma at a position that there is, and at one that there isn't
module _ (file : List ℕ) (p : Problem) (position : ℕ) where
  pub lemma_there : position < p.k → (clause : Clause) → clause ≡ get_or (section file p.lemmas_at (suc position)) position []
      → clause_text clause ≡ lemma_text (accepted (problem_at file p)) position
  unfolding lemma_text problem_at
  lemma_there h clause e =
      rw (length_section, lt-ltb position p.k h) (ap clause_text (e ∙ section_fewer file p.lemmas_at position p.k h))

  pub lemma_missing : p.k ≤ position → ascii " there is none\n" ≡ lemma_text (accepted (problem_at file p)) position
  unfolding lemma_text problem_at
  lemma_missing h = rw (length_section, le-ltb position p.k h)

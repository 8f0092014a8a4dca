-- Every literal of an accepted file names a variable that its kind may name.
use Rattle.std.specs.Prelude.{ℕ, ◌+◌, ◌/◌, ◌≤◌, ◌≡◌, refl, ◌⊎◌, Bool, true, false, ◌||◌, List, [], ◌∷◌, map, length, leb, eqb}
use Rattle.std.proofs.Common.{subst, subst₂, ◌∙◌, inl, inr, leb-true, eqb-true, arith}
use Rattle.std.proofs.Math.Path.{subst⁻¹}
use Rattle.meaning.specs.Clauses.{Literal, variable, any}
use Rattle.meaning.specs.Meaning.{Problem}
use Rattle.meaning.specs.Rules.{width}
use Rattle.meaning.specs.File
use Rattle.meaning.specs.File.{Class, state, present, every, Reader, Span, accepted, read, at_start, past, kind_at, row_at, body_at, body_length, body_literals, body_names, span_at, kind_row, literals, literal_count, between, names, offends, two_at, clauses_of, of_kind, keep_if, clause_of, problem_of}
use Rattle.laws.specs.Basics.{true_of_not, and_left, and_right}
use Rattle.laws.specs.Within.{ClauseOf, ClausesOf, UpTo, Present, WellFormed}
use Rattle.laws.specs.Range.{clauses_of_wider}
use Rattle.laws.specs.Accepted.{Chain, Kept, kept, kind_kept, or_false_left, or_false_right, accepted_chain}

-- a variable that a class names
abbrev pub Named : Class → ℕ → ℕ → ℕ → Type 0
Named c n m v = names c n m v ≡ true

-- literals of which none offends name what they may
pub none_offends : (may : ℕ → Bool) (ls : List Literal) → any (offends may) ls ≡ false → ClauseOf (λ v. may v ≡ true) ls
unfolding any offends
none_offends may [] h = tt
none_offends may (l ∷ ls) h = (
  true_of_not (may (variable l)) (or_false_left (offends may l) (any (offends may) ls) h),
  none_offends may ls (or_false_right (offends may l) (any (offends may) ls) h),
)

-- the variables of a record's literals are those that its kind may name, where n and m are such
abbrev pub SpanWithin : ℕ → ℕ → List ℕ → Span → Type 0
SpanWithin n m file s =
    ClauseOf (Named (kind_row s.kind).class n m)
    (literals file s.start (literal_count (kind_row s.kind).class s.len))

abbrev pub SpansWithin : ℕ → ℕ → List ℕ → List Span → Type 0
SpansWithin n m file [] = Unit {0}
SpansWithin n m file (s ∷ ss) = SpanWithin n m file s × SpansWithin n m file ss

span_within : (file : List ℕ) (w : Reader) → Kept file w → SpanWithin w.n w.m file (span_at file w)
unfolding span_at body_literals body_names row_at
span_within file w k = none_offends (body_names file w) (body_literals file w) k.body_literals

-- after the first record n and m stay as they are
past_counts : (file : List ℕ) (w : Reader) → eqb (kind_at file w) 1 ≡ false
    → ((past file w).n ≡ w.n) × ((past file w).m ≡ w.m)
unfolding past
past_counts file w e = (rw e, rw e)

past_before : (file : List ℕ) (w : Reader) → Kept file w → (past file w).before ≡ 0 → ⊥
unfolding past
past_before file w k e = omega (arith, (kind_kept w.before (kind_at file w) k.kind).least)

rest_within : (file : List ℕ) (w : Reader) (n m : ℕ) (ss : List Span) → (Chain file (past file w) ss → SpansWithin n m file ss)
    → ((eqb (kind_at file w) 6 ≡ true) × (ss ≡ []) × (length file ≤ (past file w).at))
    ⊎ ((eqb (kind_at file w) 6 ≡ false) × Chain file (past file w) ss)
    → SpansWithin n m file ss
rest_within file w n m ss on (inl end) = subst⁻¹ (SpansWithin n m file) end.1 tt
rest_within file w n m ss on (inr more) = on more.1

chain_within : (file : List ℕ) (w : Reader) (n m : ℕ) (ss : List Span) → (w.before ≡ 0 → ⊥) → w.n ≡ n → w.m ≡ m → Chain file w ss
    → SpansWithin n m file ss
chain_within file w n m [] nonzero en em c = elim c [ ]
chain_within file w n m (s ∷ ss) nonzero en em c =
    let k = kept file w c.0 in
    let same = past_counts file w ((kind_kept w.before (kind_at file w) k.kind).not_again nonzero) in (
      subst⁻¹ (SpanWithin n m file) c.1
          (subst₂ (λ (a b : ℕ). SpanWithin a b file (span_at file w)) en em (span_within file w k)),
      rest_within file w n m ss
          (λ h. chain_within file (past file w) n m ss (past_before file w k) (same.0 ∙ en) (same.1 ∙ em) h) c.2,
    )

-- the first record gives n and m
first_counts : (file : List ℕ) → eqb (kind_at file at_start) 1 ≡ true
    → ((past file at_start).n ≡ two_at file 4) × ((past file at_start).m ≡ two_at file 6)
unfolding past at_start body_at
first_counts file e = (rw e, rw e)

-- and names no variable
first_within : (file : List ℕ) (n m : ℕ) → eqb (kind_at file at_start) 1 ≡ true → SpanWithin n m file (span_at file at_start)
unfolding span_at kind_row File.kind_table literals literal_count
first_within file n m e =
    subst⁻¹
    (λ (kind : ℕ).
    ClauseOf (Named (kind_row kind).class n m)
    (literals file (body_at at_start) (literal_count (kind_row kind).class (body_length file at_start))))
    (eqb-true (kind_at file at_start) 1 e)
    tt

pub spans_within : (file : List ℕ) (ss : List Span) → Chain file at_start ss → SpansWithin (two_at file 4) (two_at file 6) file ss
unfolding at_start
spans_within file [] c = elim c [ ]
spans_within file (s ∷ ss) c =
    let k = kept file at_start c.0 in
    let one = (kind_kept 0 (kind_at file at_start) k.kind).first refl in
    let counts = first_counts file one in (
      subst⁻¹ (SpanWithin (two_at file 4) (two_at file 6) file) c.1
          (first_within file (two_at file 4) (two_at file 6) one),
      rest_within file at_start (two_at file 4) (two_at file 6) ss
          (λ h. chain_within file (past file at_start) _ _ ss (past_before file at_start k) counts.0 counts.1 h) c.2,
    )

-- the clauses of a kind that holds literals name its variables alone
pub kind_within : (kind n m : ℕ) (file : List ℕ) (ss : List Span)
    → ((len : ℕ) → literal_count (kind_row kind).class len ≡ len / 2) → SpansWithin n m file ss
    → ClausesOf (Named (kind_row kind).class n m) (clauses_of kind file ss)
unfolding clauses_of of_kind clause_of keep_if
kind_within kind n m file [] half h = tt
kind_within kind n m file (s ∷ ss) half h = go (eqb s.kind kind) refl (kind_within kind n m file ss half h.1)
  where
    clause_within : s.kind ≡ kind → ClauseOf (Named (kind_row kind).class n m) (clause_of file s)
    clause_within e =
        subst (λ (count : ℕ). ClauseOf (Named (kind_row kind).class n m) (literals file s.start count))
        (half s.len)
        (subst
        (λ (q : ℕ).
        ClauseOf (Named (kind_row q).class n m)
        (literals file s.start (literal_count (kind_row q).class s.len)))
        e
        h.0)

    go : (b : Bool) → eqb s.kind kind ≡ b
        → ClausesOf (Named (kind_row kind).class n m) (map (clause_of file) (of_kind kind ss))
        → ClausesOf (Named (kind_row kind).class n m) (map (clause_of file) (keep_if b s (of_kind kind ss)))
    go true t rest = (clause_within (eqb-true s.kind kind t), rest)
    go false t rest = rest

-- the variables of a class, as a range
between_is : (low high v : ℕ) → between low high v ≡ true → (low ≤ v) × (v ≤ high)
unfolding between
between_is low high v h = (leb-true low v (and_left (leb low v) (leb v high) h), leb-true v high (and_right (leb low v) (leb v high) h))

state_named : (n m v : ℕ) → Named state n m v → UpTo n v
unfolding names
state_named n m v h = between_is 1 n v h

every_named : (n m v : ℕ) → Named every n m v → UpTo (n + n + m) v
unfolding names
every_named n m v h = between_is 1 (n + n + m) v h

present_named : (n m v : ℕ) → Named present n m v → Present n m v
unfolding names
present_named n m v h = go (between 1 n v) refl h
  where
    go : (b : Bool) → between 1 n v ≡ b → (b || between (n + n + 1) (n + n + m) v) ≡ true → Present n m v
    go true e g = inl (between_is 1 n v e)
    go false e g = inr (between_is (n + n + 1) (n + n + m) v g)

problem_within : (file : List ℕ) (ss : List Span) → SpansWithin (two_at file 4) (two_at file 6) file ss → WellFormed (problem_of file ss)
unfolding problem_of width kind_row File.kind_table literal_count
problem_within file ss good =
    record {
      init = sorted 2 (λ len. refl) (UpTo n) (state_named n m);
      tr = sorted 3 (λ len. refl) (UpTo (n + n + m)) (every_named n m);
      bad = sorted 4 (λ len. refl) (Present n m) (present_named n m);
      lemmas = sorted 5 (λ len. refl) (UpTo n) (state_named n m);
    }
  where
    n : ℕ
    n = two_at file 4

    m : ℕ
    m = two_at file 6

    sorted : (kind : ℕ) → ((len : ℕ) → literal_count (kind_row kind).class len ≡ len / 2) → (P : ℕ → Type 0)
        → ((v : ℕ) → Named (kind_row kind).class n m v → P v) → ClausesOf P (clauses_of kind file ss)
    sorted kind half P wide =
        clauses_of_wider (Named (kind_row kind).class n m) P wide (clauses_of kind file ss) (kind_within kind n m file ss half good)

-- every clause of an accepted file names variables of its kind alone
pub accepted_well_formed : (file : List ℕ) (p : Problem) → read file ≡ accepted p → WellFormed p
accepted_well_formed file p e =
    let found = accepted_chain file p e in
    subst⁻¹ WellFormed found.2 (problem_within file found.0 (spans_within file found.0 found.1))

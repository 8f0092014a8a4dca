-- A run of clause records of one kind: the spans that are read of it, and the clauses of these spans.
use Prim.Native.Nat.{ℕ, zero, suc, ◌+◌, ◌*◌, ◌≤◌}
use native.Mathlib.Omega.{arith}
use Rattle.std.proofs.Common.{add-zero, ap, ap₂, subst₂, ◌∙◌, inl, le-ltb, eq-eqb}
use Rattle.std.specs.Prelude.{◌≡◌, refl, ◌⊎◌, Bool, true, false, eqb}
use Rattle.std.proofs.Math.Path.{sym}
use Rattle.std.proofs.Math.Logic.{inr}
use mathlib.Core.List.{List, [], ◌∷◌, ◌++◌, map, append_assoc}
use Rattle.std.proofs.Math.ListN.{length, drop}
use Rattle.meaning.specs.Clauses.{Clause}
use Rattle.meaning.specs.File.{Reader, Span, records, walk, at_end, and_before, unless_end, unless_refused, past, kind_at, kind_row, span_at, literals, clause_of, of_kind, keep_if, clauses_most}
use Rattle.meaning.specs.Filed.{clause_bytes, record_bytes, clause_records}
use Rattle.laws.specs.Within.{ClausesOf, Within}
use Rattle.laws.specs.Accepted.{Chain}
use Rattle.laws.specs.Named.{Named}
use Rattle.filed.specs.Fits.{Short}
use Rattle.filed.specs.Bytes.{variable_most, literals_here, body_stands, clause_after}
use Rattle.filed.specs.Length.{literal_total, records_length}
use Rattle.filed.specs.Passing.{ClauseKind, Past, same_of, half_of, clause_step}

-- the spans of clauses that are written from a place on
unfoldable pub spans : ℕ → ℕ → List Clause → List Span
spans kind at [] = []
spans kind at (c ∷ cs) =
    record { kind = kind; start = at + 4; len = 2 * length c } ∷ spans kind (at + 4 + 2 * length c) cs

pub spans_length : (kind at : ℕ) (cs : List Clause) → length (spans kind at cs) ≡ length cs
unfolding spans
spans_length kind at [] = refl
spans_length kind at (c ∷ cs) = ap suc (spans_length kind (at + 4 + 2 * length c) cs)

-- where the next clause is written
next_stands : (file : List ℕ) (kind at : ℕ) (c : Clause) (cs : List Clause) (rest : List ℕ)
    → drop at file ≡ clause_records kind (c ∷ cs) ++ rest
    → drop at file ≡ record_bytes kind (clause_bytes c) ++ (clause_records kind cs ++ rest)
unfolding clause_records
next_stands file kind at c cs rest e = e ∙ append_assoc (record_bytes kind (clause_bytes c)) (clause_records kind cs) rest

module _ (file : List ℕ) (kind n m : ℕ) (q : ClauseKind kind) (rest : List ℕ) where
  -- a run of clauses, none of them refused, and then what follows it
  pub section_chain : (cs : List Clause) (at clauses : ℕ) (ss : List Span) → drop at file ≡ clause_records kind cs ++ rest
      → Short cs → ClausesOf (Named (kind_row kind).class n m) cs → Within variable_most cs → clauses + length cs ≤ clauses_most
      → ((w : Reader) → Past kind (at + length (clause_records kind cs)) (clauses + length cs) n m w → Chain file w ss)
      → (w : Reader) → Past kind at clauses n m w → same_of kind w + length cs ≤ (kind_row kind).most
      → Chain file w (spans kind at cs ++ ss)
  unfolding clause_records spans literal_total
  section_chain [] at clauses ss e short named within all_few on w z few =
      on w (subst₂ (λ (a b : ℕ). Past kind a b n m w) (sym (add-zero at)) (sym (add-zero clauses)) z)
  section_chain (c ∷ cs) at clauses ss e short named within all_few on w z few =
      let here = next_stands file kind at c cs rest e in
      let more = clause_records kind cs ++ rest in
      let step = clause_step file kind q w at clauses n m z c short.0 named.0 within.0 more here (omega arith) (omega arith) in
      let there : drop (at + 4 + 2 * length c) file ≡ clause_records kind cs ++ rest = clause_after file at kind c more here in
      let far : at + 4 + 2 * length c + length (clause_records kind cs) ≡ at + length (clause_records kind (c ∷ cs)) =
      omega (arith, records_length kind cs, records_length kind (c ∷ cs)) in
      let other : suc clauses + length cs ≡ clauses + suc (length cs) = omega arith in (
        step.passed,
        sym step.span,
        inr (
          step.not_end,
          section_chain cs (at + 4 + 2 * length c) (suc clauses) ss there short.1 named.1 within.1 (omega arith)
              (λ w' z'. on w' (subst₂ (λ (a b : ℕ). Past kind a b n m w') far other z'))
              (past file w) step.next (omega (arith, step.same)),
        ),
      )

-- each span's clause is the clause that was written
pub section_clauses : (file : List ℕ) (kind : ℕ) (rest : List ℕ) (cs : List Clause) (at : ℕ) → drop at file ≡ clause_records kind cs ++ rest → Within variable_most cs
    → map (clause_of file) (spans kind at cs) ≡ cs
unfolding clause_records spans clause_of
section_clauses file kind rest [] at e within = refl
section_clauses file kind rest (c ∷ cs) at e within =
    let here = next_stands file kind at c cs rest e in
    let more = clause_records kind cs ++ rest in
    ap₂ {A = Clause} {B = List Clause} {C = List Clause} (λ d ds. d ∷ ds)
    (ap (literals file (at + 4)) (half_of (length c)) ∙
    literals_here file (at + 4) c more within.0 (body_stands file at kind (clause_bytes c) more here))
    (section_clauses file kind rest cs (at + 4 + 2 * length c) (clause_after file at kind c more here) within.1)

-- of the spans of one kind, those of a kind are all or none
pub same_spans : (kind at : ℕ) (cs : List Clause) → of_kind kind (spans kind at cs) ≡ spans kind at cs
unfolding spans of_kind keep_if
same_spans kind at [] = refl
same_spans kind at (c ∷ cs) = rw (eq-eqb kind kind refl, same_spans kind (at + 4 + 2 * length c) cs)

pub other_spans : (kind other at : ℕ) (cs : List Clause) → eqb other kind ≡ false → of_kind kind (spans other at cs) ≡ []
unfolding spans of_kind keep_if
other_spans kind other at [] e = refl
other_spans kind other at (c ∷ cs) e = rw e (other_spans kind other (at + 4 + 2 * length c) cs e)

pub of_kind_append : (kind : ℕ) (ss ts : List Span) → of_kind kind (ss ++ ts) ≡ of_kind kind ss ++ of_kind kind ts
unfolding of_kind keep_if
of_kind_append kind [] ts = refl
of_kind_append kind (s ∷ ss) ts = by_kind (eqb s.kind kind) (of_kind_append kind ss ts)
  where
    by_kind : (b : Bool) → of_kind kind (ss ++ ts) ≡ of_kind kind ss ++ of_kind kind ts
        → keep_if b s (of_kind kind (ss ++ ts)) ≡ keep_if b s (of_kind kind ss) ++ of_kind kind ts
    by_kind true e = ap (λ (l : List Span). s ∷ l) e
    by_kind false e = e

-- a chain is walked, where there is fuel for each of its records
pub chain_walk : (fuel : ℕ) (file : List ℕ) (w : Reader) (ss : List Span) → length ss ≤ fuel → Chain file w ss
    → walk fuel file w ≡ records ss
unfolding walk unless_refused unless_end at_end and_before
chain_walk fuel file w [] few c = absurd c
chain_walk zero file w (s ∷ ss) few c = absurd (omega arith)
chain_walk (suc fuel) file w (s ∷ ss) few c =
    rw c.0 (ap (and_before (span_at file w)) (goes c.2 (λ more. chain_walk fuel file (past file w) ss (omega arith) more)) ∙ ap (λ (t : Span). records (t ∷ ss)) (sym c.1))
  where
    goes : ((eqb (kind_at file w) 6 ≡ true) × (ss ≡ []) × (length file ≤ (past file w).at))
        ⊎ ((eqb (kind_at file w) 6 ≡ false) × Chain file (past file w) ss)
        → (Chain file (past file w) ss → walk fuel file (past file w) ≡ records ss)
        → unless_end (eqb (kind_at file w) 6) (walk fuel file) file w ≡ records ss
    goes (inl end) on = rw (end.0, le-ltb (past file w).at (length file) end.2) (ap records (sym end.1))
    goes (inr more) on = rw more.0 (on more.1)

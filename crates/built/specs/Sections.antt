-- The clauses of latches, gates and literals that are to be 1, line by line.
use Rattle.std.specs.Prelude.{ℕ, zero, suc, ◌+◌, ◌≡◌, Bool, true, false, not, get_or, Some, None}
use Rattle.std.proofs.Common.{arith, sym, ◌∙◌}
use Rattle.std.proofs.Math.Path.{refl, ap}
use mathlib.Core.List.{List, [], ◌∷◌, ◌++◌, map, append_assoc}
use Rattle.meaning.specs.Clauses.{pos, neg, negation, Clause}
use Rattle.meaning.specs.Circuit as Meant
use Rattle.meaning.specs.Circuit.{Start, at_0, at_1, at_either}
use Rattle.meaning.specs.Built as Built
use Rattle.meaning.specs.Built.{named, n_of, edge, opposite, literal_if, clause_if, and_clauses, gates_clauses, next_clauses, latches_clauses, start_clause, start_clauses, one_clauses}
use Rattle.meaning.specs.CircuitText.{Line, numbers_at, at_number, start_of, latch_of, gate_of, circuit_of}
use Rattle.meaning.specs.Filed.{clause_records, record_bytes, clause_bytes}
use Rattle.sections.specs.declared.find.Lines.{Lines}
use Rattle.sections.specs.declared.circuit.Circuit.{Circuit}
use Rattle.sections.specs.Lists.{first_lines, line_after, after_more}
use Rattle.sections.specs.Whole.{circuit_at, sections_of, lines_of, latch_count}
use Rattle.clause_count.specs.Start.{start_code, start_in}
use Rattle.clause_count.specs.Bad.{literals_of}
use Rattle.built.specs.Turns.{parts}
use Rattle.built.specs.Cuts.{Three, Two}

-- ---- the clauses of line i, counted from 0, by its numbers

-- of a gate
unfoldable pub gate_clauses : Meant.Circuit → List ℕ → List Clause
gate_clauses c ns = and_clauses (edge c (get_or ns 0 0)) (edge c (get_or ns 1 0)) (edge c (get_or ns 2 0))

abbrev pub gate_line : Meant.Circuit → ℕ → List ℕ → List Clause
gate_line c i ns = gate_clauses c ns

-- of a latch's next value
abbrev pub latch_line : Meant.Circuit → ℕ → List ℕ → List Clause
latch_line c i ns = next_clauses (n_of c + suc i) (edge c (get_or ns 1 0))

-- of a latch's start
abbrev pub start_line : ℕ → List ℕ → List Clause
start_line i ns = start_clause (suc i) (start_of (get_or ns 2 0))

-- of a literal that is to be 1
abbrev pub one_line : Meant.Circuit → ℕ → List ℕ → List Clause
one_line c i ns = clause_if (edge c (get_or ns 0 0) ∷ [])

-- the records of line i
unfoldable pub line_part : ℕ → (ℕ → List ℕ → List Clause) → List ℕ → ℕ → ℕ → List ℕ
line_part kind clauses text at i = clause_records kind (clauses i (numbers_at text (line_after text at i)))

-- ---- the clauses of a section are those of its lines

pub records_append : (kind : ℕ) (as' bs : List Clause)
    → clause_records kind (as' ++ bs) ≡ clause_records kind as' ++ clause_records kind bs
unfolding clause_records
records_append kind [] bs = refl
records_append kind (a ∷ as') bs =
    ap (λ (l : List ℕ). record_bytes kind (clause_bytes a) ++ l) (records_append kind as' bs)
    ∙ sym (append_assoc (record_bytes kind (clause_bytes a)) (clause_records kind as') (clause_records kind bs))

-- those of lines from line i on
unfoldable clauses_from : (ℕ → List ℕ → List Clause) → ℕ → List Line → List Clause
clauses_from clauses i [] = []
clauses_from clauses i (l ∷ ls) = clauses i l.numbers ++ clauses_from clauses (suc i) ls

parts_from : (kind : ℕ) (clauses : ℕ → List ℕ → List Clause) (text : List ℕ) (at i k : ℕ)
    → clause_records kind (clauses_from clauses i (first_lines text (line_after text at i) k))
    ≡ parts (line_part kind clauses text at) i k
unfolding parts line_part clauses_from first_lines clause_records
parts_from kind clauses text at i zero = refl
parts_from kind clauses text at i (suc k) =
    records_append kind (clauses i (numbers_at text (line_after text at i))) _
    ∙ ap (λ (l : List ℕ). line_part kind clauses text at i ++ l)
    (ap (λ (p : ℕ). clause_records kind (clauses_from clauses (suc i) (first_lines text p k))) (sym (after_more text at i))
    ∙ parts_from kind clauses text at (suc i) k)

module _ (c : Meant.Circuit) where
  gates_from : (i : ℕ) (ls : List Line) → gates_clauses c (map gate_of ls) ≡ clauses_from (gate_line c) i ls
  unfolding gates_clauses gate_clauses clauses_from gate_of at_number
  gates_from i [] = refl
  gates_from i (l ∷ ls) = ap (λ (cs : List Clause). gate_clauses c l.numbers ++ cs) (gates_from (suc i) ls)

  latches_from : (i : ℕ) (ls : List Line) → latches_clauses c (suc i) (map latch_of ls) ≡ clauses_from (latch_line c) i ls
  unfolding latches_clauses clauses_from latch_of at_number
  latches_from i [] = refl
  latches_from i (l ∷ ls) = ap (λ (cs : List Clause). latch_line c i l.numbers ++ cs) (latches_from (suc i) ls)

  ones_from : (i : ℕ) (ls : List Line) → one_clauses c (map (at_number 0) ls) ≡ clauses_from (one_line c) i ls
  unfolding one_clauses clauses_from at_number
  ones_from i [] = refl
  ones_from i (l ∷ ls) = ap (λ (cs : List Clause). one_line c i l.numbers ++ cs) (ones_from (suc i) ls)

starts_from : (i : ℕ) (ls : List Line) → start_clauses (suc i) (map latch_of ls) ≡ clauses_from start_line i ls
unfolding start_clauses clauses_from latch_of at_number
starts_from i [] = refl
starts_from i (l ∷ ls) = ap (λ (cs : List Clause). start_line i l.numbers ++ cs) (starts_from (suc i) ls)

module _ (text : List ℕ) (c : Circuit) where
  pub gates_are_parts : (kind : ℕ)
      → clause_records kind (gates_clauses (circuit_at text c) (circuit_at text c).gates)
      ≡ parts (line_part kind (gate_line (circuit_at text c)) text c.gates.at) 0 c.gates.count
  unfolding circuit_at circuit_of sections_of lines_of line_after
  gates_are_parts kind =
      ap (clause_records kind) (gates_from (circuit_at text c) 0 (lines_of text c.gates))
      ∙ parts_from kind (gate_line (circuit_at text c)) text c.gates.at 0 c.gates.count

  pub latches_are_parts : clause_records 3 (latches_clauses (circuit_at text c) 1 (circuit_at text c).latches)
      ≡ parts (line_part 3 (latch_line (circuit_at text c)) text c.latches.at) 0 c.latches.count
  unfolding circuit_at circuit_of sections_of lines_of line_after
  latches_are_parts =
      ap (clause_records 3) (latches_from (circuit_at text c) 0 (lines_of text c.latches))
      ∙ parts_from 3 (latch_line (circuit_at text c)) text c.latches.at 0 c.latches.count

  pub starts_are_parts : clause_records 2 (start_clauses 1 (circuit_at text c).latches)
      ≡ parts (line_part 2 start_line text c.latches.at) 0 c.latches.count
  unfolding circuit_at circuit_of sections_of lines_of line_after
  starts_are_parts =
      ap (clause_records 2) (starts_from 0 (lines_of text c.latches))
      ∙ parts_from 2 start_line text c.latches.at 0 c.latches.count

  pub ones_are_parts : (kind : ℕ) (s : Lines)
      → clause_records kind (one_clauses (circuit_at text c) (literals_of text s))
      ≡ parts (line_part kind (one_line (circuit_at text c)) text s.at) 0 s.count
  unfolding literals_of lines_of line_after
  ones_are_parts kind s =
      ap (clause_records kind) (ones_from (circuit_at text c) 0 (lines_of text s))
      ∙ parts_from kind (one_line (circuit_at text c)) text s.at 0 s.count

-- the line of a turn
pub line_here : (kind : ℕ) (clauses : ℕ → List ℕ → List Clause) (text : List ℕ) (at p i : ℕ) → p ≡ line_after text at i
    → line_part kind clauses text at i ≡ clause_records kind (clauses i (numbers_at text p))
unfolding line_part
line_here kind clauses text at p i is = ap (λ (q : ℕ). clause_records kind (clauses i (numbers_at text q))) (sym is)

-- ---- one gate, and one latch

-- the three clauses of a gate, with the negations that the code makes
pub and_split : (kind : ℕ) (g a b : Built.Edge) {g' a' b' : Built.Edge} → g' ≡ opposite g → a' ≡ opposite a → b' ≡ opposite b
    → Three (clause_records kind (and_clauses g a b)) (clause_records kind (clause_if (a ∷ g' ∷ [])))
    (clause_records kind (clause_if (b ∷ g' ∷ []))) (clause_records kind (clause_if (g ∷ a' ∷ b' ∷ [])))
unfolding and_clauses
and_split kind g a b p q r =
    let first = clause_if (a ∷ opposite g ∷ []) in
    let second = clause_if (b ∷ opposite g ∷ []) in
    let third = clause_if (g ∷ opposite a ∷ opposite b ∷ []) in
    record {
      is =
          rw (p, q, r)
          (records_append kind first (second ++ third)
          ∙ ap (λ (l : List ℕ). clause_records kind first ++ l) (records_append kind second third));
    }

pub gate_as : (kind : ℕ) (c : Meant.Circuit) (ns : List ℕ) (g a b : Built.Edge) → g ≡ edge c (get_or ns 0 0) → a ≡ edge c (get_or ns 1 0)
    → b ≡ edge c (get_or ns 2 0) → clause_records kind (and_clauses g a b) ≡ clause_records kind (gate_clauses c ns)
unfolding gate_clauses
gate_as kind c ns g a b p q r = rw (p, q, r)

-- the two clauses of a latch, with the edges that the code makes
pub same_split : (y : ℕ) (x : Built.Edge) {off on x' : Built.Edge} → off ≡ named (literal_if true y) → on ≡ opposite off → x' ≡ opposite x
    → Two (clause_records 3 (next_clauses y x)) (clause_records 3 (clause_if (off ∷ x ∷ []))) (clause_records 3 (clause_if (on ∷ x' ∷ [])))
unfolding next_clauses literal_if opposite negation
same_split y x off_is on_is is =
    record {
      is =
          rw (is, on_is, off_is)
          (records_append 3 (clause_if (named (neg y) ∷ x ∷ [])) (clause_if (named (pos y) ∷ opposite x ∷ [])));
    }

pub latch_as : (text : List ℕ) (c : Circuit) (i l : ℕ) (x : Built.Edge) → x ≡ edge (circuit_at text c) l
    → clause_records 3 (next_clauses (c.latches.count + i + 1) x)
    ≡ clause_records 3 (next_clauses (n_of (circuit_at text c) + suc i) (edge (circuit_at text c) l))
unfolding n_of
latch_as text c i l x is =
    let up : c.latches.count + i + 1 ≡ c.latches.count + suc i = omega arith in
    rw (is, latch_count text c, up)

-- ---- where a latch starts

-- at either value: no clause
pub start_none : (i : ℕ) (ns : List ℕ) → None ≡ start_in ns → clause_records 2 (start_line i ns) ≡ []
unfolding start_in start_code start_clause clause_records
start_none i ns is = go (start_of (get_or ns 2 0)) is
  where
    go : (t : Start) → None ≡ start_code t → clause_records 2 (start_clause (suc i) t) ≡ []
    go at_0 e = cc
    go at_1 e = cc
    go at_either e = refl

-- at 0 or at 1: the clause of one edge, negative where it is 0
pub start_some : (i v : ℕ) (b n : Bool) (ns : List ℕ) → Some b ≡ start_in ns → n ≡ not b → v ≡ suc i
    → clause_records 2 (clause_if (named (literal_if n v) ∷ [])) ≡ clause_records 2 (start_line i ns)
unfolding start_in start_code start_clause clause_if literal_if
start_some i v b n ns is n_is v_is = rw (n_is, v_is) (go (start_of (get_or ns 2 0)) b is)
  where
    go : (t : Start) (b : Bool) → Some b ≡ start_code t
        → clause_records 2 (clause_if (named (literal_if (not b) (suc i)) ∷ [])) ≡ clause_records 2 (start_clause (suc i) t)
    go at_0 false e = refl
    go at_0 true e = cc
    go at_1 true e = refl
    go at_1 false e = cc
    go at_either b e = cc

-- ---- a literal that is to be 1

pub one_as : (kind : ℕ) {d e : Built.Edge} → d ≡ e → clause_records kind (clause_if (d ∷ [])) ≡ clause_records kind (clause_if (e ∷ []))
one_as kind is = ap (λ (e : Built.Edge). clause_records kind (clause_if (e ∷ []))) is

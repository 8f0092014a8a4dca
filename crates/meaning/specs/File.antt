-- The problem file: from any list of bytes to an accepted problem, or a refusal with its number and place.
use Rattle.std.specs.Prelude.{ℕ, zero, suc, ◌+◌, ◌-◌, ◌*◌, ◌/◌, ◌%◌, Bool, true, false, not, ◌&&◌, ◌||◌, cond, List, [], ◌∷◌, map, length, get_or, ltb, leb, eqb}
use Rattle.std.proofs.Math.Option.{Option, none, some}
use Rattle.meaning.specs.Clauses.{Literal, pos, neg, Clause, variable, any}
use Rattle.meaning.specs.Meaning.{Problem}

-- The five limits, each named once
abbrev pub file_most : ℕ
file_most = 65536

abbrev pub n_most : ℕ
n_most = 96

abbrev pub m_most : ℕ
m_most = 320

abbrev pub clauses_most : ℕ
clauses_most = 4096

abbrev pub lemmas_most : ℕ
lemmas_most = 128

-- which variables a body may name: none, those of the state (1..n), those of the present moment (the state's, and inputs and helpers, so all
-- but next values), or every one
pub data Class : Type 0 where
  nothing state present every : Class

-- what a kind may hold: shortest and longest body, whether its length is even, its variables, and how many records of it there may be
pub record Kind : Type 0 where
  pub shortest : ℕ
  pub longest : ℕ
  pub even : Bool
  pub class : Class
  pub most : ℕ

-- the row of what is no kind
unfoldable pub no_kind : Kind
no_kind = record { shortest = 0; longest = 0; even = false; class = nothing; most = 0 }

-- What each kind may hold is one table, read by every part: by kind, 0 (there is none), 1 (counts), 2 (Init), 3 (Tr), 4 (Bad), 5 (lemma),
-- 6 (end)
unfoldable pub kind_table : List Kind
kind_table =
    no_kind ∷
    record { shortest = 4; longest = 4; even = true; class = nothing; most = 1 } ∷
    record { shortest = 0; longest = 128; even = true; class = state; most = clauses_most } ∷
    record { shortest = 0; longest = 128; even = true; class = every; most = clauses_most } ∷
    record { shortest = 0; longest = 128; even = true; class = present; most = clauses_most } ∷
    record { shortest = 0; longest = 128; even = true; class = state; most = lemmas_most } ∷
    record { shortest = 0; longest = 0; even = true; class = nothing; most = 1 } ∷
    []

-- the row of a kind
unfoldable pub kind_row : ℕ → Kind
kind_row kind = get_or kind_table kind no_kind

-- two bytes at a place, little-endian
unfoldable pub two_at : List ℕ → ℕ → ℕ
two_at file at = get_or file at 0 + 256 * get_or file (at + 1) 0

-- literals are two-byte signed numbers: v for a variable, -v for its negation
unfoldable pub signed : ℕ → Literal
signed u = cond (ltb u 32768) (pos u) (neg (65536 - u))

unfoldable pub literal_at : List ℕ → ℕ → Literal
literal_at file at = signed (two_at file at)

-- so many literals from a place on
unfoldable pub literals : List ℕ → ℕ → ℕ → Clause
literals file at zero = []
literals file at (suc count) = literal_at file at ∷ literals file (at + 2) count

-- v is one of low..high
unfoldable pub between : ℕ → ℕ → ℕ → Bool
between low high v = leb low v && leb v high

-- the variables that a class names, where there are n state variables and m inputs and helpers
unfoldable pub names : Class → ℕ → ℕ → ℕ → Bool
names nothing n m v = false
names state n m v = between 1 n v
names present n m v = between 1 n v || between (n + n + 1) (n + n + m) v
names every n m v = between 1 (n + n + m) v

-- how many literals a body of a class and a length holds
unfoldable pub literal_count : Class → ℕ → ℕ
literal_count nothing len = 0
literal_count state len = len / 2
literal_count present len = len / 2
literal_count every len = len / 2

-- a literal that names none of the variables it may name: 0, one too large, or a next value where there may be none
unfoldable pub offends : (ℕ → Bool) → Literal → Bool
offends may l = not (may (variable l))

-- how many literals stand before the first that offends, of so many
unfoldable pub before_offence : (ℕ → Bool) → List Literal → ℕ
before_offence may [] = 0
before_offence may (l ∷ ls) = cond (offends may l) 0 (suc (before_offence may ls))

-- What is known where a record must start: its place, the kind before it (0: there is none) and how many of that kind there were, the
-- clause records so far (kinds 2 to 5 together), and n and m
pub record Reader : Type 0 where
  pub at : ℕ
  pub before : ℕ
  pub of_kind : ℕ
  pub clauses : ℕ
  pub n : ℕ
  pub m : ℕ

-- a two-byte length of the body, a two-byte kind, the body
unfoldable pub body_length : List ℕ → Reader → ℕ
body_length file w = two_at file w.at

unfoldable pub kind_at : List ℕ → Reader → ℕ
kind_at file w = two_at file (w.at + 2)

unfoldable pub body_at : Reader → ℕ
body_at w = w.at + 4

unfoldable pub row_at : List ℕ → Reader → Kind
row_at file w = kind_row (kind_at file w)

-- how many records of this kind stand before this one (kinds never go down)
unfoldable pub same_kind : List ℕ → Reader → ℕ
same_kind file w = cond (eqb (kind_at file w) w.before) w.of_kind 0

unfoldable pub is_clause : Class → Bool
is_clause nothing = false
is_clause state = true
is_clause present = true
is_clause every = true

-- 2: under 4 bytes where a record must start
unfoldable pub head_short : List ℕ → Reader → Bool
head_short file w = ltb (length file) (body_at w)

-- 3: kind out of 1..6, lower than the one before, a second kind 1, or a first record that isn't kind 1
unfoldable pub kind_wrong : ℕ → ℕ → Bool
kind_wrong before kind =
    ltb kind 1 || ltb 6 kind || ltb kind before || (eqb kind 1 && not (eqb before 0))
    || (eqb before 0 && not (eqb kind 1))

-- 4: body length not allowed for the kind
unfoldable pub length_wrong : Kind → ℕ → Bool
length_wrong row len = ltb len row.shortest || ltb row.longest len || (row.even && not (eqb (len % 2) 0))

-- 2: the body runs past the end
unfoldable pub body_short : List ℕ → Reader → Bool
body_short file w = ltb (length file) (body_at w + body_length file w)

-- 7: record that exceeds 4,096 clauses or 128 lemmas
unfoldable pub too_many : Kind → ℕ → ℕ → Bool
too_many row same clauses = leb row.most same || (is_clause row.class && leb clauses_most clauses)

-- 5: n or m out of range
unfoldable pub counts_wrong : ℕ → ℕ → ℕ → Bool
counts_wrong kind n m = eqb kind 1 && (ltb n 1 || ltb n_most n || ltb m_most m)

-- the literals of a record's body, and the variables that it may name
unfoldable pub body_literals : List ℕ → Reader → Clause
body_literals file w = literals file (body_at w) (literal_count (row_at file w).class (body_length file w))

unfoldable pub body_names : List ℕ → Reader → ℕ → Bool
body_names file w = names (row_at file w).class w.n w.m

-- the place of the first literal that offends
unfoldable pub offence_at : List ℕ → Reader → ℕ
offence_at file w = body_at w + 2 * before_offence (body_names file w) (body_literals file w)

-- A refusal: its number and its place
pub record Refusal : Type 0 where
  pub number : ℕ
  pub place : ℕ

-- a test, and the refusal if it passes
pub record Rule : Type 0 where
  pub wrong : Bool
  pub number : ℕ
  pub place : ℕ

unfoldable pub rule_if : Bool → ℕ → ℕ → Rule
rule_if wrong number place = record { wrong = wrong; number = number; place = place }

-- record by record 2 (head), 3, 4, 2 (body), 7, 5 or 6
unfoldable pub record_rules : List ℕ → Reader → List Rule
record_rules file w =
    rule_if (head_short file w) 2 w.at ∷
    rule_if (kind_wrong w.before (kind_at file w)) 3 w.at ∷
    rule_if (length_wrong (row_at file w) (body_length file w)) 4 w.at ∷
    rule_if (body_short file w) 2 w.at ∷
    rule_if (too_many (row_at file w) (same_kind file w) w.clauses) 7 w.at ∷
    rule_if (counts_wrong (kind_at file w) (two_at file (body_at w)) (two_at file (body_at w + 2))) 5 w.at ∷
    rule_if (any (offends (body_names file w)) (body_literals file w)) 6 (offence_at file w) ∷
    []

unfoldable pub refuse_if : Bool → Refusal → Option Refusal → Option Refusal
refuse_if true r other = some r
refuse_if false r other = other

-- the refusal of the first rule whose test passes
unfoldable pub first_wrong : List Rule → Option Refusal
first_wrong [] = none
first_wrong (r ∷ rs) = refuse_if r.wrong (record { number = r.number; place = r.place }) (first_wrong rs)

-- where a record's body stands, and its kind
pub record Span : Type 0 where
  pub kind : ℕ
  pub start : ℕ
  pub len : ℕ

unfoldable pub span_at : List ℕ → Reader → Span
span_at file w = record { kind = kind_at file w; start = body_at w; len = body_length file w }

unfoldable pub one_if_clause : Class → ℕ
one_if_clause c = cond (is_clause c) 1 0

-- what is known after a record
unfoldable pub past : List ℕ → Reader → Reader
past file w =
    record {
      at = body_at w + body_length file w;
      before = kind_at file w;
      of_kind = same_kind file w + 1;
      clauses = w.clauses + one_if_clause (row_at file w).class;
      n = cond (eqb (kind_at file w) 1) (two_at file (body_at w)) w.n;
      m = cond (eqb (kind_at file w) 1) (two_at file (body_at w + 2)) w.m;
    }

-- the records of a file, or its refusal
pub data Walked : Type 0 where
  refused : Refusal → Walked
  records : List Span → Walked

unfoldable pub and_before : Span → Walked → Walked
and_before s (refused r) = refused r
and_before s (records ss) = records (s ∷ ss)

-- 8: bytes after kind 6
unfoldable pub at_end : List ℕ → ℕ → Walked
at_end file at = cond (ltb at (length file)) (refused (record { number = 8; place = at })) (records [])

unfoldable pub unless_end : Bool → (Reader → Walked) → List ℕ → Reader → Walked
unless_end true on file w = at_end file (past file w).at
unless_end false on file w = on (past file w)

unfoldable pub unless_refused : Option Refusal → (Reader → Walked) → List ℕ → Reader → Walked
unless_refused (some r) on file w = refused r
unless_refused none on file w = and_before (span_at file w) (unless_end (eqb (kind_at file w) 6) on file w)

-- the records from one place on, so many at the most (a record takes four bytes at least, so a file has fewer than it has bytes)
unfoldable pub walk : ℕ → List ℕ → Reader → Walked
walk zero file w = refused (record { number = 2; place = w.at })
walk (suc fuel) file w = unless_refused (first_wrong (record_rules file w)) (walk fuel file) file w

unfoldable pub at_start : Reader
at_start = record { at = 0; before = 0; of_kind = 0; clauses = 0; n = 0; m = 0 }

-- 1: file over 65,536 bytes; then record by record
unfoldable pub walked : List ℕ → Walked
walked file = cond (ltb file_most (length file)) (refused (record { number = 1; place = 0 })) (walk (suc (length file)) file at_start)

-- the clause of a record
unfoldable pub clause_of : List ℕ → Span → Clause
clause_of file s = literals file s.start (s.len / 2)

unfoldable pub keep_if : Bool → Span → List Span → List Span
keep_if true s ss = s ∷ ss
keep_if false s ss = ss

-- the records of a kind, in file order
unfoldable pub of_kind : ℕ → List Span → List Span
of_kind kind [] = []
of_kind kind (s ∷ ss) = keep_if (eqb s.kind kind) s (of_kind kind ss)

unfoldable pub clauses_of : ℕ → List ℕ → List Span → List Clause
clauses_of kind file ss = map (clause_of file) (of_kind kind ss)

-- n state variables, then m inputs and helpers, two bytes each, in the first record; then the clauses of each kind
unfoldable pub problem_of : List ℕ → List Span → Problem
problem_of file ss =
    record {
      n = two_at file 4;
      m = two_at file 6;
      init = clauses_of 2 file ss;
      tr = clauses_of 3 file ss;
      bad = clauses_of 4 file ss;
      lemmas = clauses_of 5 file ss;
    }

-- what a file is read as: an accepted problem, or a refusal
pub data Reading : Type 0 where
  accepted : Problem → Reading
  rejected : Refusal → Reading

unfoldable pub reading_of : List ℕ → Walked → Reading
reading_of file (refused r) = rejected r
reading_of file (records ss) = accepted (problem_of file ss)

unfoldable pub read : List ℕ → Reading
read file = reading_of file (walked file)

-- One clause record, written where the reader stands: no rule refuses it, and what is known after it.
use Rattle.std.specs.Prelude.{ℕ, suc, ◌+◌, ◌-◌, ◌*◌, ◌/◌, ◌%◌, ◌≤◌, ◌<◌, ◌≡◌, refl, Bool, true, cond, List, [], ◌∷◌, ◌++◌, drop}
use Rattle.std.proofs.Common.{arith, sym, ap, ◌∙◌, length-append, length-drop}
use Rattle.std.proofs.Math.Bool.{false}
use Rattle.std.proofs.Math.Option.{none}
use Rattle.std.proofs.Math.ListN.{length}
use Rattle.std.proofs.Math.Dec.{eqb}
use borrow.Author.Tests.{lt-leb, le-ltb, eq-eqb, ne_eqb}
use Rattle.meaning.specs.Clauses.{Literal, Clause, any}
use Rattle.meaning.specs.File.{Reader, first_wrong, refuse_if, rule_if, record_rules, head_short, kind_wrong, length_wrong, body_short, too_many, counts_wrong, offends, body_names, body_literals, past, kind_at, kind_row, row_at, same_kind, body_at, body_length, two_at, literals, literal_count, names, is_clause, one_if_clause, span_at, clauses_most}
use Rattle.meaning.specs.Filed.{two, clause_bytes, record_bytes}
use Rattle.laws.specs.Within.{ClauseOf, ClauseWithin}
use Rattle.laws.specs.Accepted.{Kept}
use Rattle.laws.specs.Named.{Named}
use Rattle.filed.specs.Bytes.{variable_most, after, two_here, clause_length, literals_here, body_stands}

-- a record that breaks no rule is not refused
pub passes : (file : List ℕ) (w : Reader) → Kept file w → first_wrong (record_rules file w) ≡ none
unfolding first_wrong refuse_if record_rules rule_if
passes file w k = rw (k.head, k.kind, k.len, k.body, k.many, k.counts, k.body_literals)

-- what the reader finds where a record is written
pub record Head (file : List ℕ) (w : Reader) (kind : ℕ) (body rest : List ℕ) : Type 0 where
  pub len : body_length file w ≡ length body
  pub is_kind : kind_at file w ≡ kind
  pub here : drop (body_at w) file ≡ body ++ rest
  pub bytes : length file ≡ body_at w + length body + length rest

pub head_of : (file : List ℕ) (w : Reader) (kind : ℕ) (body rest : List ℕ) → kind < 65536 → length body < 65536
    → drop w.at file ≡ record_bytes kind body ++ rest → Head file w kind body rest
unfolding body_length kind_at body_at record_bytes two
head_of file w kind body rest small short e =
    let at₂ : drop (w.at + 2) file ≡ two kind ++ (body ++ rest) =
    after file w.at (two (length body)) (two kind ++ (body ++ rest)) (w.at + 2) refl e in
    let bytes : length file - w.at ≡ 2 + (2 + (length body + length rest)) = sym (length-drop w.at file) ∙ ap length e ∙ simp length-append (omega arith) in
    record {
      len = two_here file w.at (length body) (two kind ++ (body ++ rest)) short e;
      is_kind = two_here file (w.at + 2) kind (body ++ rest) small at₂;
      here = body_stands file w.at kind body rest e;
      bytes = omega arith;
    }

module _ (file : List ℕ) (w : Reader) (kind : ℕ) (body rest : List ℕ) (h : Head file w kind body rest) where
  pub head_long : head_short file w ≡ false
  unfolding head_short
  head_long = le-ltb (length file) (body_at w) (omega arith)

  pub body_long : body_short file w ≡ false
  unfolding body_short
  body_long = le-ltb (length file) (body_at w + body_length file w) (omega arith)

-- what the four kinds of clauses have in common
pub record ClauseKind (kind : ℕ) : Type 0 where
  pub least : 2 ≤ kind
  pub most : kind ≤ 5
  pub shortest : (kind_row kind).shortest ≡ 0
  pub longest : (kind_row kind).longest ≡ 128
  pub even : (kind_row kind).even ≡ true
  pub holds : is_clause (kind_row kind).class ≡ true
  pub half : (len : ℕ) → literal_count (kind_row kind).class len ≡ len / 2

-- literals that name what they may do not offend
named_pass : (may : ℕ → Bool) (ls : List Literal) → ClauseOf (λ v. may v ≡ true) ls → any (offends may) ls ≡ false
unfolding any offends
named_pass may [] h = refl
named_pass may (l ∷ ls) h = rw h.0 (named_pass may ls h.1)

-- a kind that rises, and is not the first
pub kind_right : (before kind : ℕ) → 1 ≤ before → before ≤ kind → 2 ≤ kind → kind ≤ 6 → kind_wrong before kind ≡ false
unfolding kind_wrong
kind_right before kind h₁ h₂ h₃ h₄ =
    rw (
      le-ltb kind 1 (omega arith),
      le-ltb 6 kind (omega arith),
      le-ltb kind before h₂,
      ne_eqb kind 1 (λ e. omega arith),
      ne_eqb before 0 (λ e. omega arith),
    )

pub half_of : (count : ℕ) → 2 * count / 2 ≡ count
half_of count = omega arith

module _ (kind : ℕ) (q : ClauseKind kind) where
  length_right : (len : ℕ) → len ≤ 128 → len % 2 ≡ 0 → length_wrong (kind_row kind) len ≡ false
  unfolding length_wrong
  length_right len short two =
      rw (q.shortest, q.longest, q.even, le-ltb len 0 (omega arith), le-ltb 128 len short, eq-eqb (len % 2) 0 two)

  many_right : (same clauses : ℕ) → same < (kind_row kind).most → clauses < clauses_most
      → too_many (kind_row kind) same clauses ≡ false
  unfolding too_many
  many_right same clauses few all_few =
      rw (lt-leb (kind_row kind).most same few, q.holds, lt-leb clauses_most clauses all_few)

  counts_right : (n m : ℕ) → counts_wrong kind n m ≡ false
  unfolding counts_wrong
  counts_right n m = rw (ne_eqb kind 1 (λ e. omega (arith, q.least)))

-- the reader after a first record, where kinds so far are at most a kind
pub record Past (kind at clauses n m : ℕ) (w : Reader) : Type 0 where
  pub is_at : w.at ≡ at
  pub least : 1 ≤ w.before
  pub most : w.before ≤ kind
  pub is_clauses : w.clauses ≡ clauses
  pub is_n : w.n ≡ n
  pub is_m : w.m ≡ m

-- how many of a kind there were
unfoldable pub same_of : ℕ → Reader → ℕ
same_of kind w = cond (eqb kind w.before) w.of_kind 0

-- what a clause record comes to where the reader stands: no refusal, one span, and one more clause
pub record Stepped (file : List ℕ) (kind at clauses n m : ℕ) (c : Clause) (w : Reader) : Type 0 where
  pub passed : first_wrong (record_rules file w) ≡ none
  pub span : span_at file w ≡ record { kind = kind; start = at + 4; len = 2 * length c }
  pub not_end : eqb (kind_at file w) 6 ≡ false
  pub next : Past kind (at + 4 + 2 * length c) (suc clauses) n m (past file w)
  pub same : same_of kind (past file w) ≡ suc (same_of kind w)

module _ (file : List ℕ) (kind : ℕ) (q : ClauseKind kind) (w : Reader) (at clauses n m : ℕ) (z : Past kind at clauses n m w)
    (c : Clause) (short : length c ≤ 64) (named : ClauseOf (Named (kind_row kind).class n m) c) (within : ClauseWithin variable_most c)
    (rest : List ℕ) (e : drop at file ≡ record_bytes kind (clause_bytes c) ++ rest) where
  head : Head file w kind (clause_bytes c) rest
  head =
      head_of file w kind (clause_bytes c) rest (omega arith) (rw clause_length (omega arith))
      (rw z.is_at e)

  length_is : body_length file w ≡ 2 * length c
  length_is = head.len ∙ clause_length c

  -- the literals of the body are those of the clause
  literals_are : body_literals file w ≡ c
  unfolding body_literals row_at
  literals_are =
      rw (head.is_kind, q.half, length_is)
      (ap (literals file (body_at w)) (half_of (length c)) ∙ literals_here file (body_at w) c rest within head.here)

  clause_kept : same_of kind w < (kind_row kind).most → clauses < clauses_most → Kept file w
  unfolding row_at same_kind same_of body_names
  clause_kept few all_few =
      record {
        head = head_long file w kind (clause_bytes c) rest head;
        kind = rw head.is_kind (kind_right w.before kind z.least z.most q.least (omega arith));
        len = rw (head.is_kind, length_is) (length_right kind q (2 * length c) (omega arith) (omega arith));
        body = body_long file w kind (clause_bytes c) rest head;
        many = rw (head.is_kind, z.is_clauses) (many_right kind q (same_of kind w) clauses few all_few);
        counts = rw head.is_kind (counts_right kind q (two_at file (body_at w)) (two_at file (body_at w + 2)));
        body_literals = rw (literals_are, head.is_kind, z.is_n, z.is_m) (named_pass (names (kind_row kind).class n m) c named);
      }

  clause_not_end : eqb (kind_at file w) 6 ≡ false
  clause_not_end = ne_eqb (kind_at file w) 6 (λ e. omega (arith, head.is_kind, q.most))

  clause_past : Past kind (at + 4 + 2 * length c) (suc clauses) n m (past file w)
  unfolding past body_at row_at one_if_clause
  clause_past =
      let other : eqb (kind_at file w) 1 ≡ false = ne_eqb (kind_at file w) 1 (λ e. omega (arith, head.is_kind, q.least)) in
      record {
        is_at = omega (arith, z.is_at, length_is);
        least = omega (arith, head.is_kind, q.least);
        most = omega (arith, head.is_kind);
        is_clauses = rw (head.is_kind, q.holds) (omega (arith, z.is_clauses));
        is_n = rw other z.is_n;
        is_m = rw other z.is_m;
      }

  clause_same : same_of kind (past file w) ≡ suc (same_of kind w)
  unfolding past same_of same_kind
  clause_same = rw (head.is_kind, eq-eqb kind kind refl) (omega arith)

  clause_span : span_at file w ≡ record { kind = kind; start = at + 4; len = 2 * length c }
  unfolding span_at body_at
  clause_span = rw (head.is_kind, length_is, z.is_at)

  pub clause_step : same_of kind w < (kind_row kind).most → clauses < clauses_most → Stepped file kind at clauses n m c w
  clause_step few all_few =
      record {
        passed = passes file w (clause_kept few all_few);
        span = clause_span;
        not_end = clause_not_end;
        next = clause_past;
        same = clause_same;
      }

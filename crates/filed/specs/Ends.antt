-- The first record and the last, and the kinds of clauses between them: what each may hold, and what the reader knows between two kinds.
use Rattle.std.specs.Prelude.{ℕ, ◌+◌, ◌≤◌, ◌<◌, ◌≡◌, true, drop}
use Rattle.std.proofs.Common.{arith, sym, ◌∙◌}
use Rattle.std.proofs.Math.Path.{refl}
use Rattle.std.proofs.Math.Logic.{inl, inr}
use Rattle.std.proofs.Math.Option.{none}
use mathlib.Core.List.{List, [], ◌∷◌, ◌++◌, append-nil}
use borrow.Author.Tests.{le-leb, le-ltb, ne_eqb}
use Rattle.meaning.specs.Clauses.{Clause, any}
use Rattle.meaning.specs.File.{Reader, Span, state, present, every, first_wrong, record_rules, past, at_start, kind_row, kind_table, no_kind, row_at, same_kind, body_at, two_at, body_literals, span_at, literal_count, literals, is_clause, one_if_clause, kind_wrong, length_wrong, too_many, counts_wrong, between, names, n_most, m_most}
use Rattle.meaning.specs.Filed.{two, record_bytes}
use Rattle.laws.specs.Basics.{or_left, or_right}
use Rattle.laws.specs.Within.{ClausesOf, UpTo, Present, Within}
use Rattle.laws.specs.Range.{clauses_of_wider}
use Rattle.laws.specs.Accepted.{Chain}
use Rattle.laws.specs.Named.{Named}
use Rattle.filed.specs.Bytes.{after, two_here}
use Rattle.filed.specs.Passing.{Head, head_of, head_long, body_long, passes, ClauseKind, Past, same_of, kind_right}

-- ---- the kinds of clauses

pub init_kind : ClauseKind 2
unfolding kind_row kind_table no_kind is_clause literal_count
init_kind =
    record { least = omega arith; most = omega arith; shortest = refl; longest = refl; even = refl; holds = refl; half = λ len. refl }

pub tr_kind : ClauseKind 3
unfolding kind_row kind_table no_kind is_clause literal_count
tr_kind =
    record { least = omega arith; most = omega arith; shortest = refl; longest = refl; even = refl; holds = refl; half = λ len. refl }

pub bad_kind : ClauseKind 4
unfolding kind_row kind_table no_kind is_clause literal_count
bad_kind =
    record { least = omega arith; most = omega arith; shortest = refl; longest = refl; even = refl; holds = refl; half = λ len. refl }

pub lemma_kind : ClauseKind 5
unfolding kind_row kind_table no_kind is_clause literal_count
lemma_kind =
    record { least = omega arith; most = omega arith; shortest = refl; longest = refl; even = refl; holds = refl; half = λ len. refl }

-- ---- a range, as the variables of a class

is_between : (low high v : ℕ) → low ≤ v → v ≤ high → between low high v ≡ true
unfolding between
is_between low high v h₁ h₂ = rw (le-leb low v h₁, le-leb v high h₂)

pub state_names : (n m : ℕ) (cs : List Clause) → Within n cs → ClausesOf (Named state n m) cs
unfolding names
state_names n m = clauses_of_wider (UpTo n) (Named state n m) named
  where
    named : (v : ℕ) → UpTo n v → Named state n m v
    named v h = is_between 1 n v h.0 h.1

pub every_names : (n m : ℕ) (cs : List Clause) → Within (n + n + m) cs → ClausesOf (Named every n m) cs
unfolding names
every_names n m = clauses_of_wider (UpTo (n + n + m)) (Named every n m) named
  where
    named : (v : ℕ) → UpTo (n + n + m) v → Named every n m v
    named v h = is_between 1 (n + n + m) v h.0 h.1

pub present_names : (n m : ℕ) (cs : List Clause) → ClausesOf (Present n m) cs → ClausesOf (Named present n m) cs
unfolding names
present_names n m = clauses_of_wider (Present n m) (Named present n m) named
  where
    named : (v : ℕ) → Present n m v → Named present n m v
    named v (inl h) = or_left (between 1 n v) (between (n + n + 1) (n + n + m) v) (is_between 1 n v h.0 h.1)
    named v (inr h) =
        or_right (between 1 n v) (between (n + n + 1) (n + n + m) v) (is_between (n + n + 1) (n + n + m) v h.0 h.1)

-- ---- between two kinds

-- what is known at the end of one kind is known at the start of a later one, of which there is none yet
module _ (kind later at clauses n m : ℕ) (less : kind < later) (w : Reader) (z : Past kind at clauses n m w) where
  pub past_later : Past later at clauses n m w
  past_later =
      record { is_at = z.is_at; least = z.least; most = omega arith; is_clauses = z.is_clauses; is_n = z.is_n; is_m = z.is_m }

  pub none_of_later : same_of later w ≡ 0
  unfolding same_of
  none_of_later = rw (ne_eqb later w.before (λ e. omega (arith, z.most)))

-- ---- the first record

module _ (file : List ℕ) (n m : ℕ) (n_least : 1 ≤ n) (n_few : n ≤ n_most) (m_few : m ≤ m_most) (rest : List ℕ)
    (e : file ≡ record_bytes 1 (two n ++ two m) ++ rest) where
  first_head : Head file at_start 1 (two n ++ two m) rest
  unfolding at_start two
  first_head = head_of file at_start 1 (two n ++ two m) rest (omega arith) (omega arith) e

  pub n_here : two_at file 4 ≡ n
  unfolding at_start two body_at
  n_here = two_here file 4 n (two m ++ rest) (omega arith) first_head.here

  pub m_here : two_at file 6 ≡ m
  unfolding at_start two body_at
  m_here = two_here file 6 m rest (omega arith) (after file 4 (two n) (two m ++ rest) 6 refl first_head.here)

  pub first_passes : first_wrong (record_rules file at_start) ≡ none
  unfolding at_start body_at two kind_wrong row_at kind_row kind_table no_kind length_wrong too_many same_kind counts_wrong body_literals literal_count literals is_clause any
  first_passes =
      passes file at_start
      (record {
        head = head_long file at_start 1 (two n ++ two m) rest first_head;
        kind = rw first_head.is_kind;
        len = rw (first_head.is_kind, first_head.len);
        body = body_long file at_start 1 (two n ++ two m) rest first_head;
        many = rw first_head.is_kind;
        counts =
            rw (first_head.is_kind, n_here, m_here, le-ltb n 1 n_least, le-ltb n_most n n_few, le-ltb m_most m m_few);
        body_literals = rw first_head.is_kind;
      })

  pub first_past : Past 1 8 0 n m (past file at_start)
  unfolding past at_start body_at two row_at kind_row kind_table no_kind is_clause one_if_clause
  first_past =
      record {
        is_at = rw first_head.len;
        least = rw first_head.is_kind (omega arith);
        most = rw first_head.is_kind (omega arith);
        is_clauses = rw first_head.is_kind;
        is_n = rw first_head.is_kind n_here;
        is_m = rw first_head.is_kind m_here;
      }

  pub first_chain : (ss : List Span) → Chain file (past file at_start) ss
      → Chain file at_start (record { kind = 1; start = 4; len = 4 } ∷ ss)
  unfolding at_start span_at body_at two
  first_chain ss c = (first_passes, rw (first_head.is_kind, first_head.len), inr (rw first_head.is_kind, c))

-- ---- the last record

module _ (file : List ℕ) (at clauses n m : ℕ) (w : Reader) (z : Past 5 at clauses n m w) (e : drop at file ≡ record_bytes 6 []) where
  end_head : Head file w 6 [] []
  end_head = head_of file w 6 [] [] (omega arith) (omega arith) (rw z.is_at (e ∙ sym (append-nil (record_bytes 6 []))))

  end_passes : first_wrong (record_rules file w) ≡ none
  unfolding row_at kind_row kind_table no_kind length_wrong too_many same_kind counts_wrong body_literals literal_count literals is_clause any
  end_passes =
      passes file w
      (record {
        head = head_long file w 6 [] [] end_head;
        kind = rw end_head.is_kind (kind_right w.before 6 z.least (omega arith) (omega arith) (omega arith));
        len = rw (end_head.is_kind, end_head.len);
        body = body_long file w 6 [] [] end_head;
        many = rw (end_head.is_kind, ne_eqb 6 w.before (λ h. omega (arith, z.most)));
        counts = rw end_head.is_kind;
        body_literals = rw end_head.is_kind;
      })

  pub end_chain : Chain file w (record { kind = 6; start = at + 4; len = 0 } ∷ [])
  unfolding span_at body_at past
  end_chain = (
    end_passes,
    rw (end_head.is_kind, end_head.len, z.is_at),
    inl (rw end_head.is_kind, refl, omega (arith, end_head.bytes, end_head.len)),
  )

-- The six useless programs of document 01, each written down as a program and refuted, by the demand or rule that document 01 names for it.
use Rattle.std.specs.Prelude.{ℕ, zero, suc, ◌≡◌, refl, true, false, List, [], ◌∷◌, map, get_or, replicate}
use Rattle.std.proofs.Common.{sym, ap, subst, ◌∙◌, inl, inr, true≢false, arith, le_refl}
use Rattle.meaning.specs.Clauses
use Rattle.meaning.specs.Meaning
use Rattle.meaning.specs.Meaning.{Problem, k, Marks, Minimal}
use Rattle.meaning.specs.File
use Rattle.meaning.specs.File.{accepted, read}
use Rattle.meaning.specs.Calls
use Rattle.meaning.specs.Calls.{Outcome, Program, refusal, answered, on_reading, written, check_call, largest_call, one_call, list_call}
use Rattle.meaning.specs.Demands
use Rattle.meaning.specs.Demands.{Trimmer, In, Answered, set_left, rows_left, one_count, list_count, SomeSafeInductive, FixedBy, Demand1, Demand2, Demand3}
use Rattle.meaning.specs.Filed
use Rattle.meaning.specs.Filed.{file_of}
use Rattle.meaning.specs.Cases
use Rattle.meaning.specs.Cases.{case_a, case_b, case_e, case_checksum, sevens, plenty, starred, starred_hold, line, run_line, outcome_of}
use Rattle.laws.specs.Basics.{nonzero}
use Rattle.laws.specs.Named.{accepted_well_formed}
use Rattle.laws.specs.Paper.{one_minimal, largest_one}
use Rattle.laws.specs.DemandsHold.{largest_left, one_left, on_accepted}

-- ---- what the table says of cases

pub reads : (read (file_of case_a) ≡ accepted case_a) × (read (file_of case_b) ≡ accepted case_b) × (read (file_of case_e) ≡ accepted case_e)
    × (read (file_of case_checksum) ≡ accepted case_checksum)
unfolding file_of case_a case_b case_e case_checksum Cases.applied_if Cases.held_if Filed.two Filed.literal_bytes Filed.clause_bytes Filed.record_bytes Filed.clause_records Cases.takes Cases.unit Clauses.variable Clauses.negation Clauses.is_true Clauses.any Clauses.all Clauses.holds Clauses.all_hold File.no_kind File.kind_table File.kind_row File.two_at File.signed File.literal_at File.literals File.between File.names File.literal_count File.offends File.before_offence File.body_length File.kind_at File.body_at File.row_at File.same_kind File.is_clause File.head_short File.kind_wrong File.length_wrong File.body_short File.too_many File.counts_wrong File.body_literals File.body_names File.offence_at File.rule_if File.record_rules File.refuse_if File.first_wrong File.span_at File.one_if_clause File.past File.and_before File.at_end File.unless_end File.unless_refused File.walk File.at_start File.walked File.clause_of File.keep_if File.of_kind File.clauses_of File.problem_of File.reading_of File.read
reads = (refl, refl, refl, refl)

-- what call number i of the table comes to
pub from_table : (i : ℕ) → get_or (map run_line starred) i (answered 0 0 []) ≡ get_or (map outcome_of starred) i (answered 0 0 [])
from_table i = ap (λ (l : List Outcome). get_or l i (answered 0 0 [])) starred_hold

a_one : one_call (file_of case_a) plenty (sevens 3) ≡ answered 0 0 (1 ∷ 1 ∷ 7 ∷ [])
unfolding starred line run_line outcome_of
a_one = from_table 0

b_list : list_call (file_of case_b) plenty (sevens 8) ≡ answered 3 2 (1 ∷ 0 ∷ 0 ∷ 0 ∷ 1 ∷ 1 ∷ 7 ∷ 7 ∷ [])
unfolding starred line run_line outcome_of
b_list = from_table 1

b_largest : largest_call (file_of case_b) 0 (sevens 3) ≡ answered 0 0 (1 ∷ 1 ∷ 1 ∷ [])
unfolding starred line run_line outcome_of
b_largest = from_table 3

b_one : one_call (file_of case_b) 0 (sevens 3) ≡ answered 0 0 (0 ∷ 1 ∷ 1 ∷ [])
unfolding starred line run_line outcome_of
b_one = from_table 4

e_largest : largest_call (file_of case_e) plenty (sevens 2) ≡ answered 0 0 (0 ∷ 7 ∷ [])
unfolding starred line run_line outcome_of
e_largest = from_table 9

pub answered_by : {o : Outcome} (d r : ℕ) (lent : List ℕ) → o ≡ answered d r lent → Answered o
unfolding answered
answered_by d r lent e = ap (λ (o : Outcome). o.report.number) e

-- the single set of B
b_minimal : Minimal case_b (false ∷ true ∷ true ∷ [])
unfolding set_left Demands.marks_in answered case_b k
b_minimal =
    subst (Minimal case_b) (ap (set_left case_b) b_one)
    (one_minimal case_b (accepted_well_formed (file_of case_b) case_b reads.1) _
    (one_left (file_of case_b) case_b 0 (sevens 3) reads.1 (answered_by 0 0 _ b_one)))

-- A has a safe inductive set
a_some : SomeSafeInductive case_a
a_some =
    let least =
    one_minimal case_a (accepted_well_formed (file_of case_a) case_a reads.0) _
    (one_left (file_of case_a) case_a plenty (sevens 3) reads.0 (answered_by 0 0 _ a_one)) in
    (_, least.0, least.1)

-- ---- the programs, each in its job's place beside the true calls

abbrev pub in_place_of_one : Program → Trimmer
in_place_of_one P = record { check = check_call; largest = largest_call; one = P; list = list_call }

abbrev pub in_place_of_list : Program → Trimmer
in_place_of_list P = record { check = check_call; largest = largest_call; one = one_call; list = P }

abbrev pub in_place_of_largest : Program → Trimmer
in_place_of_largest P = record { check = check_call; largest = P; one = one_call; list = list_call }

-- one that refuses everything: shut out by demand 2, on case A
unfoldable pub refuses_everything : Program
refuses_everything file budget lent = refusal 11 0 0 0 lent

pub refuses_everything_is_out : Demand2 (in_place_of_one refuses_everything) → ⊥
unfolding refuses_everything refusal case_a k sevens
refuses_everything_is_out d =
    (d.refused (file_of case_a) case_a (one_count case_a) (sevens 2) reads.0 (le_refl (one_count case_a)) (le_refl 2)).0
    (λ e. nonzero 10 e) a_some

-- one that marks every lemma of any file: shut out by demand 2, on case E, whose largest set is empty
unfoldable pub marks_everything : Program
marks_everything file budget lent =
    on_reading (read file) (λ p left. answered 0 0 (written 0 (replicate (k p) true) left)) lent

pub marks_everything_is_out : Demand2 (in_place_of_largest marks_everything) → ⊥
unfolding marks_everything answered set_left Demands.marks_in written Calls.mark case_e k sevens
marks_everything_is_out d =
    let job : Problem → List ℕ → Outcome = λ p left. answered 0 0 (written 0 (replicate (k p) true) left) in
    let same = on_accepted (file_of case_e) case_e job (sevens 1) reads.2 in
    let marked = d.largest (file_of case_e) case_e 0 (sevens 1) reads.2 (answered_by 0 0 _ same) in
    let is_largest = largest_one case_e (accepted_well_formed (file_of case_e) case_e reads.2) _ marked in
    let truly =
    largest_left (file_of case_e) case_e plenty (sevens 2) reads.2 (answered_by 0 0 _ e_largest) in
    let left : (true ∷ []) ≡ (false ∷ []) =
    sym (ap (set_left case_e) same) ∙ is_largest ∙ sym truly ∙ ap (set_left case_e) e_largest in
    true≢false (ap (λ (S : Marks). get_or S 0 true) left)

-- one that keeps the largest set as its single set: shut out by demand 2, on case B
pub keeps_largest_is_out : Demand2 (in_place_of_one largest_call) → ⊥
unfolding answered set_left Demands.marks_in case_b k Meaning.has
keeps_largest_is_out d =
    let kept =
    subst (Minimal case_b) (ap (set_left case_b) b_largest)
    (d.minimal (file_of case_b) case_b 0 (sevens 3) reads.1 (answered_by 0 0 _ b_largest)) in
    kept.2 (false ∷ true ∷ true ∷ []) refl (part, (0, refl, refl)) b_minimal.1
  where
    part : (q : ℕ) → Meaning.has (false ∷ true ∷ true ∷ []) q ≡ true → Meaning.has (true ∷ true ∷ true ∷ []) q ≡ true
    part zero h = refl
    part (suc zero) h = refl
    part (suc (suc zero)) h = refl
    part (suc (suc (suc q))) h = h

-- one that writes no rows and says complete: shut out by demand 3, on case B
unfoldable pub writes_no_rows : Program
writes_no_rows file budget lent = on_reading (read file) (λ p left. answered (list_count p) 0 left) lent

pub writes_no_rows_is_out : Demand3 (in_place_of_list writes_no_rows) → ⊥
unfolding writes_no_rows answered rows_left Demands.rows_in
writes_no_rows_is_out d =
    let job : Problem → List ℕ → Outcome = λ p left. answered (list_count p) 0 left in
    let same = on_accepted (file_of case_b) case_b job [] reads.1 in
    let all_rows = d.complete (file_of case_b) case_b 0 [] reads.1 (answered_by (list_count case_b) 0 [] same) in
    subst (In (false ∷ true ∷ true ∷ [])) (ap (rows_left case_b) same) (all_rows.every (false ∷ true ∷ true ∷ []) b_minimal)

-- one that lists the first set truly and then says complete: shut out by demand 3, on case B
unfoldable pub says_one : Outcome → Outcome
says_one o = answered o.report.decisions 1 o.lent

unfoldable pub lists_the_first : Program
lists_the_first file budget lent = says_one (list_call file budget lent)

pub lists_the_first_is_out : Demand3 (in_place_of_list lists_the_first) → ⊥
unfolding lists_the_first says_one answered rows_left Demands.rows_in Demands.marks_in case_b k
lists_the_first_is_out d =
    let all_rows = d.complete (file_of case_b) case_b plenty (sevens 8) reads.1 refl in
    let there : In (false ∷ true ∷ true ∷ []) ((true ∷ false ∷ false ∷ []) ∷ []) =
    subst (λ (o : Outcome). In (false ∷ true ∷ true ∷ []) (rows_left case_b (says_one o))) b_list
    (all_rows.every (false ∷ true ∷ true ∷ []) b_minimal) in
    not_there there
  where
    not_there : In (false ∷ true ∷ true ∷ []) ((true ∷ false ∷ false ∷ []) ∷ []) → ⊥
    not_there (inr x') = elim x' [ ]
    not_there (inl e) = true≢false (ap (λ (S : Marks). get_or S 1 true) e)

-- one that invents its decisions: shut out by the counting rules, which demand 1 holds every call to
unfoldable pub one_more : Outcome → Outcome
one_more o =
    record {
      report =
          record {
            number = o.report.number;
            place = o.report.place;
            decisions = suc o.report.decisions;
            rows = o.report.rows;
            n = o.report.n;
            m = o.report.m;
            k = o.report.k;
          };
      lent = o.lent;
    }

pub invents_decisions_is_out : (call : Program) → FixedBy call (λ file budget lent. one_more (call file budget lent)) → ⊥
unfolding one_more
invents_decisions_is_out call fixed =
    let e : suc (call [] 0 []).report.decisions ≡ (call [] 0 []).report.decisions = ap (λ (o : Outcome). o.report.decisions) (fixed [] 0 []) in
    omega arith

-- The starred cases A to J of document 01, with every value it states of them, three cases more for the counts and the rounds, and a loader
-- whose Bad looks at inputs, as one table under one statement that computes.
use Rattle.std.specs.Prelude.{ℕ, ◌≡◌, refl, List, [], ◌∷◌, ◌++◌, map, replicate}
use Rattle.meaning.specs.Clauses
use Rattle.meaning.specs.Clauses.{Literal, pos, neg, Clause}
use Rattle.meaning.specs.Meaning
use Rattle.meaning.specs.Meaning.{Problem}
use Rattle.meaning.specs.File
use Rattle.meaning.specs.Search
use Rattle.meaning.specs.Rules
use Rattle.meaning.specs.Calls
use Rattle.meaning.specs.Filed
use Rattle.meaning.specs.Filed.{file_of}
use Rattle.meaning.specs.Calls.{Outcome, Program, refusal, answered, check_call, largest_call, one_call, list_call}

-- x' = y, as two clauses over the next value x' and the current value y
unfoldable pub takes : ℕ → ℕ → List Clause
takes x y = (neg x ∷ pos y ∷ []) ∷ (pos x ∷ neg y ∷ []) ∷ []

unfoldable pub unit : Literal → Clause
unit l = l ∷ []

unfoldable pub case_a : Problem
case_a =
    record {
      n = 2;
      m = 0;
      init = unit (pos 1) ∷ unit (pos 2) ∷ [];
      tr = takes 3 2 ++ takes 4 1;
      bad = unit (neg 2) ∷ [];
      lemmas = unit (pos 1) ∷ unit (pos 2) ∷ [];
    }

unfoldable pub case_b : Problem
case_b =
    record {
      n = 3;
      m = 0;
      init = unit (pos 1) ∷ unit (pos 2) ∷ unit (pos 3) ∷ [];
      tr = takes 4 1 ++ takes 5 2 ++ takes 6 3;
      bad = unit (neg 1) ∷ (neg 2 ∷ neg 3 ∷ []) ∷ [];
      lemmas = unit (pos 1) ∷ unit (pos 2) ∷ unit (pos 3) ∷ [];
    }

-- A with lemma (2) only
unfoldable pub case_e : Problem
case_e =
    record {
      n = 2;
      m = 0;
      init = unit (pos 1) ∷ unit (pos 2) ∷ [];
      tr = takes 3 2 ++ takes 4 1;
      bad = unit (neg 2) ∷ [];
      lemmas = unit (pos 2) ∷ [];
    }

unfoldable pub case_f : List Clause → Problem
case_f lemmas =
    record {
      n = 1;
      m = 0;
      init = unit (pos 1) ∷ [];
      tr = takes 2 1;
      bad = unit (neg 1) ∷ [];
      lemmas = lemmas;
    }

-- n=1, no lemma, and Bad alone
unfoldable pub case_h : List Clause → Problem
case_h bad = record { n = 1; m = 0; init = []; tr = []; bad = bad; lemmas = [] }

unfoldable pub case_j : Problem
case_j =
    record {
      n = 3;
      m = 0;
      init = unit (pos 1) ∷ unit (pos 2) ∷ unit (pos 3) ∷ [];
      tr = takes 4 2 ++ takes 5 1 ++ takes 6 3;
      bad = unit (neg 3) ∷ [];
      lemmas = unit (pos 1) ∷ unit (pos 2) ∷ unit (pos 3) ∷ [];
    }

-- the first counted case: nearly every counting rule shows in its two counts
unfoldable pub case_counted : Problem
case_counted =
    record {
      n = 4;
      m = 2;
      init = (pos 1 ∷ pos 4 ∷ []) ∷ (neg 1 ∷ neg 1 ∷ []) ∷ unit (pos 1) ∷ [];
      tr =
          (pos 3 ∷ pos 4 ∷ neg 1 ∷ []) ∷ (pos 10 ∷ pos 5 ∷ []) ∷ (pos 1 ∷ neg 6 ∷ pos 8 ∷ []) ∷
          (neg 10 ∷ pos 9 ∷ []) ∷
          unit (neg 3) ∷
          (pos 7 ∷ pos 5 ∷ neg 4 ∷ []) ∷
          [];
      bad = (neg 1 ∷ pos 4 ∷ []) ∷ unit (pos 3) ∷ [];
      lemmas =
          unit (pos 3) ∷ (neg 2 ∷ pos 1 ∷ []) ∷ (pos 4 ∷ pos 1 ∷ []) ∷ (neg 4 ∷ neg 4 ∷ neg 4 ∷ []) ∷
          (neg 2 ∷ pos 3 ∷ []) ∷
          [];
    }

-- the second counted case: initiation is asked once, and before the rounds
unfoldable pub case_initial : Problem
case_initial =
    record {
      n = 2;
      m = 2;
      init = (neg 2 ∷ neg 2 ∷ []) ∷ unit (neg 1) ∷ [];
      tr = [];
      bad = unit (pos 1) ∷ [];
      lemmas = unit (pos 1) ∷ unit (neg 1) ∷ (pos 2 ∷ neg 1 ∷ []) ∷ [];
    }

-- lemma 3 falls in the first round, and lemma 2 with it in the second
unfoldable pub case_chain : Problem
case_chain =
    record {
      n = 3;
      m = 0;
      init = unit (pos 1) ∷ unit (pos 2) ∷ unit (pos 3) ∷ [];
      tr = takes 4 2 ++ takes 5 3 ++ takes 6 1;
      bad = [];
      lemmas = unit (pos 2) ∷ unit (pos 3) ∷ [];
    }

-- A small loader, for request 2026-01. Latches: 1 a file is held, 2 and 3 two service keys; 4 to 6 are their next values; 7 the checksum line
-- and 8 the arrival of a file are inputs, and 9 is the helper 'applied': a held file is applied if the checksum line is high or both keys are
-- on.
unfoldable pub applied_if : List Clause
applied_if =
    (neg 9 ∷ pos 1 ∷ []) ∷ (neg 9 ∷ pos 7 ∷ pos 2 ∷ []) ∷ (neg 9 ∷ pos 7 ∷ pos 3 ∷ []) ∷
    (pos 9 ∷ neg 1 ∷ neg 7 ∷ []) ∷ (pos 9 ∷ neg 1 ∷ neg 2 ∷ neg 3 ∷ []) ∷ []

-- a file is held that arrives, or was held and is not applied
unfoldable pub held_if : List Clause
held_if =
    (neg 4 ∷ pos 8 ∷ pos 1 ∷ []) ∷ (neg 4 ∷ pos 8 ∷ neg 9 ∷ []) ∷ (pos 4 ∷ neg 8 ∷ []) ∷
    (pos 4 ∷ neg 1 ∷ pos 9 ∷ []) ∷ []

-- at power-up nothing is held and both keys are off; the keys change places; Bad is 'applied while the checksum line is low'
unfoldable pub case_checksum : Problem
case_checksum =
    record {
      n = 3;
      m = 3;
      init = unit (neg 1) ∷ unit (neg 2) ∷ unit (neg 3) ∷ [];
      tr = applied_if ++ held_if ++ takes 5 3 ++ takes 6 2;
      bad = applied_if ++ (unit (pos 9) ∷ unit (neg 7) ∷ []);
      lemmas =
          (neg 1 ∷ neg 2 ∷ neg 3 ∷ []) ∷ unit (neg 2) ∷ unit (neg 3) ∷ unit (neg 1) ∷ (neg 2 ∷ neg 3 ∷ []) ∷
          unit (pos 1) ∷ [];
    }

-- a call, and what it must come to
pub record Line : Type 0 where
  pub job : Program
  pub file : List ℕ
  pub budget : ℕ
  pub lent : List ℕ
  pub outcome : Outcome

unfoldable pub line : Program → List ℕ → ℕ → List ℕ → Outcome → Line
line job file budget lent outcome =
    record { job = job; file = file; budget = budget; lent = lent; outcome = outcome }

unfoldable pub run_line : Line → Outcome
run_line l = l.job l.file l.budget l.lent

unfoldable pub outcome_of : Line → Outcome
outcome_of l = l.outcome

-- lent bytes of value 7, so that a byte that keeps its value shows
unfoldable pub sevens : ℕ → List ℕ
sevens count = replicate count 7

-- a budget that suffices
unfoldable pub plenty : ℕ
plenty = 1000

unfoldable pub starred : List Line
starred =
    line one_call (file_of case_a) plenty (sevens 3) (answered 0 0 (1 ∷ 1 ∷ 7 ∷ [])) ∷
    line list_call (file_of case_b) plenty (sevens 8) (answered 3 2 (1 ∷ 0 ∷ 0 ∷ 0 ∷ 1 ∷ 1 ∷ 7 ∷ 7 ∷ [])) ∷
    line list_call (file_of case_b) 3 (sevens 6) (answered 3 2 (1 ∷ 0 ∷ 0 ∷ 0 ∷ 1 ∷ 1 ∷ [])) ∷
    line largest_call (file_of case_b) 0 (sevens 3) (answered 0 0 (1 ∷ 1 ∷ 1 ∷ [])) ∷
    line one_call (file_of case_b) 0 (sevens 3) (answered 0 0 (0 ∷ 1 ∷ 1 ∷ [])) ∷
    line list_call (file_of case_b) 2 (sevens 8) (refusal 10 0 2 1 (1 ∷ 0 ∷ 0 ∷ 7 ∷ 7 ∷ 7 ∷ 7 ∷ 7 ∷ [])) ∷
    line list_call (file_of case_b) 1 (sevens 8) (refusal 10 0 1 0 (sevens 8)) ∷
    line list_call (file_of case_b) plenty (sevens 5) (refusal 12 0 3 1 (1 ∷ 0 ∷ 0 ∷ 7 ∷ 7 ∷ [])) ∷
    line list_call (file_of case_b) plenty (sevens 2) (refusal 12 0 2 0 (sevens 2)) ∷
    line largest_call (file_of case_e) plenty (sevens 2) (answered 0 0 (0 ∷ 7 ∷ [])) ∷
    line one_call (file_of case_e) plenty (sevens 2) (refusal 11 0 0 0 (sevens 2)) ∷
    line list_call (file_of (case_f (unit (pos 1) ∷ unit (pos 1) ∷ []))) plenty (sevens 4)
    (answered 0 2 (1 ∷ 0 ∷ 0 ∷ 1 ∷ [])) ∷
    line one_call (file_of (case_f (unit (neg 1) ∷ []))) plenty (sevens 1) (refusal 11 0 0 0 (sevens 1)) ∷
    line list_call (file_of (case_f (unit (neg 1) ∷ []))) plenty (sevens 1) (refusal 11 0 0 0 (sevens 1)) ∷
    line one_call (file_of (case_h ((pos 1 ∷ pos 1 ∷ []) ∷ []))) plenty [] (refusal 11 0 1 0 []) ∷
    line list_call (file_of (case_h ((pos 1 ∷ pos 1 ∷ []) ∷ []))) plenty [] (refusal 11 0 1 0 []) ∷
    line one_call (file_of (case_h ((pos 1 ∷ pos 1 ∷ []) ∷ []))) 0 [] (refusal 10 0 0 0 []) ∷
    line list_call (file_of (case_h ((pos 1 ∷ pos 1 ∷ []) ∷ []))) 0 [] (refusal 10 0 0 0 []) ∷
    line list_call (file_of (case_h (unit (pos 1) ∷ unit (neg 1) ∷ []))) plenty [] (answered 0 1 []) ∷
    line list_call (file_of case_j) plenty (sevens 6) (answered 1 1 (0 ∷ 0 ∷ 1 ∷ 7 ∷ 7 ∷ 7 ∷ [])) ∷
    line one_call (file_of case_j) 0 (sevens 3) (answered 0 0 (0 ∷ 0 ∷ 1 ∷ [])) ∷
    line one_call (file_of case_counted) 43 (sevens 5) (answered 43 0 (0 ∷ 0 ∷ 1 ∷ 1 ∷ 0 ∷ [])) ∷
    line list_call (file_of case_counted) 126 (sevens 5) (answered 126 1 (0 ∷ 0 ∷ 1 ∷ 1 ∷ 0 ∷ [])) ∷
    line largest_call (file_of case_chain) 1 (sevens 3) (answered 1 0 (0 ∷ 0 ∷ 7 ∷ [])) ∷
    line largest_call (file_of case_initial) 1 (sevens 3) (answered 1 0 (0 ∷ 0 ∷ 0 ∷ [])) ∷
    line one_call (file_of case_initial) plenty (sevens 3) (refusal 11 0 1 0 (sevens 3)) ∷
    line list_call (file_of case_initial) plenty (sevens 3) (refusal 11 0 1 0 (sevens 3)) ∷
    line check_call (file_of case_checksum) 0 (sevens 1)
    (record {
      report = record { number = 0; place = 0; decisions = 0; rows = 0; n = 3; m = 3; k = 6 };
      lent = sevens 1;
    }) ∷
    line largest_call (file_of case_checksum) 0 (sevens 7) (answered 0 0 (1 ∷ 1 ∷ 1 ∷ 0 ∷ 1 ∷ 0 ∷ 7 ∷ [])) ∷
    line one_call (file_of case_checksum) 3 (sevens 7) (answered 3 0 (0 ∷ 0 ∷ 0 ∷ 0 ∷ 1 ∷ 0 ∷ 7 ∷ [])) ∷
    line one_call (file_of case_checksum) 2 (sevens 7) (refusal 10 0 2 0 (sevens 7)) ∷
    line list_call (file_of case_checksum) 24 (sevens 13)
    (answered 24 2 (0 ∷ 1 ∷ 1 ∷ 0 ∷ 0 ∷ 0 ∷ 0 ∷ 0 ∷ 0 ∷ 0 ∷ 1 ∷ 0 ∷ 7 ∷ [])) ∷
    line list_call (file_of case_checksum) 23 (sevens 8) (refusal 10 0 23 1 (0 ∷ 1 ∷ 1 ∷ 0 ∷ 0 ∷ 0 ∷ 7 ∷ 7 ∷ [])) ∷
    line list_call (file_of case_checksum) plenty (sevens 11)
    (refusal 12 0 24 1 (0 ∷ 1 ∷ 1 ∷ 0 ∷ 0 ∷ 0 ∷ 7 ∷ 7 ∷ 7 ∷ 7 ∷ 7 ∷ [])) ∷
    line list_call (file_of case_checksum) 17 (sevens 6) (refusal 10 0 17 0 (sevens 6)) ∷
    []

-- each call of the table comes to what stands beside it
pub starred_hold : map run_line starred ≡ map outcome_of starred
unfolding case_chain applied_if held_if case_checksum Filed.two Filed.literal_bytes Filed.clause_bytes Filed.record_bytes Filed.clause_records file_of takes unit case_a case_b case_e case_f case_h case_j case_counted case_initial line run_line outcome_of sevens plenty starred Clauses.variable Clauses.negation Clauses.is_true Clauses.any Clauses.all Clauses.holds Clauses.all_hold Meaning.k Meaning.moment Meaning.has Meaning.at_marks Meaning.lemmas_of File.no_kind File.kind_table File.kind_row File.two_at File.signed File.literal_at File.literals File.between File.names File.literal_count File.offends File.before_offence File.body_length File.kind_at File.body_at File.row_at File.same_kind File.is_clause File.head_short File.kind_wrong File.length_wrong File.body_short File.too_many File.counts_wrong File.body_literals File.body_names File.offence_at File.rule_if File.record_rules File.refuse_if File.first_wrong File.span_at File.one_if_clause File.past File.and_before File.at_end File.unless_end File.unless_refused File.walk File.at_start File.walked File.clause_of File.keep_if File.of_kind File.clauses_of File.problem_of File.reading_of File.read Search.blank Search.flipped Search.value Search.with_literal Search.says_true Search.says_false Search.has_true Search.only_false Search.keep_unset Search.unset_places Search.only_place Search.forced_by Search.first_place Search.open_in Search.or_else Search.first_of Search.rule_d Search.rule_c Search.rule_b Search.rule_a Search.move Search.after Search.then_false Search.follow Search.search_from Search.searched Rules.denied Rules.next Rules.lemma Rules.clauses Rules.answer Rules.width Rules.asked Rules.plus Rules.each Rules.sum Rules.size Rules.without Rules.with_position Rules.contains Rules.counted_on Rules.unless Rules.or_then Rules.first_yes Rules.no_rows Rules.later Rules.rows_after Rules.and_then Rules.pick Rules.lowest Rules.stays Rules.step_cost Rules.survivors Rules.round_cost Rules.removes Rules.until_none Rules.rounds_within Rules.rounds Rules.initial Rules.initial_cost Rules.largest Rules.largest_safety Rules.reduced Rules.reduced_safety Rules.becomes Rules.shrink_at Rules.shrink Rules.one_if Rules.one Rules.failing Rules.smaller_at Rules.smaller Rules.row_unless Rules.row_of Rules.node_unless Rules.node_if_safe Rules.exclude Rules.branch Rules.node_at Rules.node Rules.list_if Rules.listing Calls.refusal Calls.answered Calls.checked Calls.on_reading Calls.mark Calls.written Calls.marked Calls.within Calls.with_room Calls.row_or_stop Calls.cut Calls.listed Calls.largest_job Calls.one_job Calls.list_job Calls.check_call Calls.largest_call Calls.one_call Calls.list_call
starred_hold = refl

-- Small files that pin each refusal of a file, 1 to 8, with its place, and the order of two that one record can meet: a second table of the
-- same make as that of `Cases`, under one statement that computes. Case L of document 01 stands in it whole, cut and longer. What takes 4,097
-- records is too long for it and is run instead.
use Rattle.std.specs.Prelude.{ℕ, zero, suc, ◌≡◌, refl, List, [], ◌∷◌, ◌++◌, map, replicate}
use Rattle.meaning.specs.Clauses
use Rattle.meaning.specs.Meaning
use Rattle.meaning.specs.File
use Rattle.meaning.specs.Calls
use Rattle.meaning.specs.Calls.{Outcome, refusal, check_call}
use Rattle.meaning.specs.Cases
use Rattle.meaning.specs.Filed
use Rattle.meaning.specs.Filed.{two, record_bytes}
use Rattle.meaning.specs.Cases.{Line, line, run_line, outcome_of}

-- a checked file, and its refusal
unfoldable pub refused : List ℕ → ℕ → ℕ → Line
refused file number place = line check_call file 0 [] (refusal number place 0 0 [])

-- a checked file that is accepted, with n, m and k
unfoldable pub accepted : List ℕ → ℕ → ℕ → ℕ → Line
accepted file n m k =
    line check_call file 0 []
    (record {
      report = record { number = 0; place = 0; decisions = 0; rows = 0; n = n; m = m; k = k };
      lent = [];
    })

-- the 46 bytes of case L, but for the last
unfoldable pub l_cut : List ℕ
l_cut =
    0x04 ∷ 0x00 ∷ 0x01 ∷ 0x00 ∷ 0x01 ∷ 0x00 ∷ 0x00 ∷ 0x00 ∷ 0x02 ∷ 0x00 ∷ 0x02 ∷ 0x00 ∷ 0x01 ∷ 0x00 ∷ 0x04 ∷ 0x00 ∷ 0x03 ∷
    0x00 ∷ 0xFE ∷ 0xFF ∷ 0x01 ∷ 0x00 ∷ 0x04 ∷ 0x00 ∷ 0x03 ∷ 0x00 ∷ 0x02 ∷ 0x00 ∷ 0xFF ∷ 0xFF ∷ 0x02 ∷ 0x00 ∷ 0x04 ∷ 0x00 ∷
    0xFF ∷ 0xFF ∷ 0x02 ∷ 0x00 ∷ 0x05 ∷ 0x00 ∷ 0x01 ∷ 0x00 ∷ 0x00 ∷ 0x00 ∷ 0x06 ∷ []

unfoldable pub L : List ℕ
L = l_cut ++ (0x00 ∷ [])

-- a first record with n state variables and m inputs and helpers: 8 bytes
unfoldable pub counts : ℕ → ℕ → List ℕ
counts n m = record_bytes 1 (two n ++ two m)

-- so many records of lemmas with no literals: 4 bytes each
unfoldable pub lemmas : ℕ → List ℕ
lemmas zero = []
lemmas (suc more) = record_bytes 5 [] ++ lemmas more

unfoldable pub end : List ℕ
end = record_bytes 6 []

-- a head alone: the length of a body, and a kind
unfoldable pub head : ℕ → ℕ → List ℕ
head len kind = two len ++ two kind

unfoldable pub pinned : List Line
pinned =
    -- case L, without its last byte, and with one byte more
    accepted L 1 0 1 ∷
    refused l_cut 2 42 ∷
    refused (L ++ (0 ∷ [])) 8 46 ∷
    -- 1, before all
    refused (replicate 65537 0) 1 0 ∷
    -- 2 (head), before 3
    refused [] 2 0 ∷
    refused (4 ∷ 0 ∷ 1 ∷ []) 2 0 ∷
    refused (counts 1 0) 2 8 ∷
    refused (counts 1 0 ++ (0 ∷ 0 ∷ 5 ∷ [])) 2 8 ∷
    -- 3: kind out of 1..6, lower than the one before, a second kind 1, a first record that isn't kind 1
    refused (head 0 0) 3 0 ∷
    refused (counts 1 0 ++ head 0 7) 3 8 ∷
    refused (counts 1 0 ++ record_bytes 3 [] ++ record_bytes 2 [] ++ end) 3 12 ∷
    refused (counts 1 0 ++ counts 1 0 ++ end) 3 8 ∷
    refused (record_bytes 2 [] ++ end) 3 0 ∷
    refused (head 0 6) 3 0 ∷
    -- 3 before 4, 2 (body), 5 and 6
    refused (head 5 7) 3 0 ∷
    refused (counts 1 0 ++ head 3 0) 3 8 ∷
    refused (counts 1 0 ++ head 2 7) 3 8 ∷
    refused (counts 1 0 ++ counts 0 0) 3 8 ∷
    refused (counts 1 0 ++ record_bytes 3 [] ++ record_bytes 2 (two 0)) 3 12 ∷
    -- 4: body length not allowed for the kind
    refused (head 2 1 ++ two 1) 4 0 ∷
    refused (head 6 1 ++ (two 1 ++ two 0 ++ two 0)) 4 0 ∷
    refused (counts 1 0 ++ record_bytes 2 (1 ∷ [])) 4 8 ∷
    refused (counts 1 0 ++ record_bytes 5 (replicate 130 0)) 4 8 ∷
    refused (counts 1 0 ++ record_bytes 6 (two 0)) 4 8 ∷
    -- 4 before 2 (body), 7, 5 and 6
    refused (head 6 1) 4 0 ∷
    refused (counts 1 0 ++ head 3 2) 4 8 ∷
    refused (counts 1 0 ++ lemmas 128 ++ record_bytes 5 (1 ∷ [])) 4 520 ∷
    refused (head 2 1 ++ two 97) 4 0 ∷
    refused (counts 1 0 ++ record_bytes 2 (0 ∷ 0 ∷ 0 ∷ [])) 4 8 ∷
    -- 2 (body), before 7, 5 and 6
    refused (head 4 1 ++ two 1) 2 0 ∷
    refused (counts 1 0 ++ lemmas 128 ++ head 2 5) 2 520 ∷
    refused (head 4 1 ++ two 97) 2 0 ∷
    refused (counts 1 0 ++ head 4 2 ++ two 0) 2 8 ∷
    -- 7, before 6; 128 lemmas are read
    accepted (counts 1 0 ++ lemmas 128 ++ end) 1 0 128 ∷
    refused (counts 1 0 ++ lemmas 129 ++ end) 7 520 ∷
    refused (counts 1 0 ++ lemmas 128 ++ record_bytes 5 (two 0)) 7 520 ∷
    -- 5: n or m out of range; the limits themselves are read
    accepted (counts 1 0 ++ end) 1 0 0 ∷
    accepted (counts 96 320 ++ end) 96 320 0 ∷
    refused (counts 0 0 ++ end) 5 0 ∷
    refused (counts 97 0 ++ end) 5 0 ∷
    refused (counts 1 321 ++ end) 5 0 ∷
    -- 6: literal 0 or variable too large, at the first literal that offends; -32768 is one
    accepted (counts 2 3 ++ record_bytes 3 (two 7 ++ two 65529) ++ end) 2 3 0 ∷
    refused (counts 2 3 ++ record_bytes 3 (two 7 ++ two 8) ++ end) 6 14 ∷
    refused (counts 2 3 ++ record_bytes 3 (two 65528) ++ end) 6 12 ∷
    refused (counts 2 0 ++ record_bytes 2 (two 2 ++ two 0 ++ two 3) ++ end) 6 14 ∷
    refused (counts 2 0 ++ record_bytes 2 (two 3) ++ end) 6 12 ∷
    refused (counts 2 0 ++ record_bytes 5 (two 32768) ++ end) 6 12 ∷
    -- 6 in a Bad clause: 1..n and 2n+1..2n+m are read; n+1 and 2n, next values, and 2n+m+1 are not
    accepted (counts 3 2 ++ record_bytes 4 (two 1 ++ two 3 ++ two 7 ++ two 65528) ++ end) 3 2 0 ∷
    refused (counts 3 2 ++ record_bytes 4 (two 0) ++ end) 6 12 ∷
    refused (counts 3 2 ++ record_bytes 4 (two 3 ++ two 4) ++ end) 6 14 ∷
    refused (counts 3 2 ++ record_bytes 4 (two 65529 ++ two 65530) ++ end) 6 14 ∷
    refused (counts 3 2 ++ record_bytes 4 (two 8 ++ two 9) ++ end) 6 14 ∷
    refused (counts 3 2 ++ record_bytes 4 (two 7 ++ two 32768) ++ end) 6 14 ∷
    accepted (counts 2 0 ++ record_bytes 4 (two 2) ++ end) 2 0 0 ∷
    refused (counts 2 0 ++ record_bytes 4 (two 65533) ++ end) 6 12 ∷
    refused (counts 2 0 ++ record_bytes 4 (two 65534 ++ two 65533) ++ end) 6 14 ∷
    refused (counts 2 0 ++ record_bytes 4 (two 4) ++ end) 6 12 ∷
    refused (counts 2 0 ++ record_bytes 4 (two 5) ++ end) 6 12 ∷
    -- inputs are for Tr and Bad alone
    refused (counts 3 2 ++ record_bytes 2 (two 7) ++ end) 6 12 ∷
    refused (counts 3 2 ++ record_bytes 5 (two 7) ++ end) 6 12 ∷
    -- one record before the next: 6 of the first, and not 3 of the second
    refused (counts 1 0 ++ record_bytes 3 (two 0) ++ record_bytes 2 []) 6 12 ∷
    refused (counts 1 1 ++ record_bytes 4 (two 2) ++ record_bytes 3 []) 6 12 ∷
    -- 8, whatever the bytes are
    refused (counts 1 0 ++ end ++ (0 ∷ [])) 8 12 ∷
    refused (counts 1 0 ++ end ++ end) 8 12 ∷
    []

-- each call of the table comes to what stands beside it
pub pinned_hold : map run_line pinned ≡ map outcome_of pinned
unfolding refused accepted l_cut L counts lemmas end head pinned Clauses.variable Clauses.negation Clauses.is_true Clauses.any Clauses.all Clauses.holds Clauses.all_hold Meaning.k Meaning.moment Meaning.has Meaning.at_marks Meaning.lemmas_of File.no_kind File.kind_table File.kind_row File.two_at File.signed File.literal_at File.literals File.between File.names File.literal_count File.offends File.before_offence File.body_length File.kind_at File.body_at File.row_at File.same_kind File.is_clause File.head_short File.kind_wrong File.length_wrong File.body_short File.too_many File.counts_wrong File.body_literals File.body_names File.offence_at File.rule_if File.record_rules File.refuse_if File.first_wrong File.span_at File.one_if_clause File.past File.and_before File.at_end File.unless_end File.unless_refused File.walk File.at_start File.walked File.clause_of File.keep_if File.of_kind File.clauses_of File.problem_of File.reading_of File.read Calls.refusal Calls.answered Calls.checked Calls.on_reading Calls.mark Calls.written Calls.marked Calls.within Calls.with_room Calls.row_or_stop Calls.cut Calls.listed Calls.largest_job Calls.one_job Calls.list_job Calls.check_call Calls.largest_call Calls.one_call Calls.list_call Filed.two Filed.literal_bytes Filed.clause_bytes Filed.record_bytes Filed.clause_records Filed.file_of Cases.takes Cases.unit Cases.case_a Cases.case_b Cases.case_e Cases.case_f Cases.case_h Cases.case_j Cases.case_counted Cases.case_initial Cases.line Cases.run_line Cases.outcome_of Cases.sevens Cases.plenty Cases.starred
pinned_hold = refl

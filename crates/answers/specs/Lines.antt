-- Which lines are told of a job's outcome.
use Rattle.std.specs.Prelude.{ℕ, Bool, true, false, ◌||◌, cond, List, [], length, take, eqb, leb}
use Rattle.meaning.specs.Calls.{Report, check_call}
use Rattle.told.specs.Answers.{answer_line, set_line, marks_line, marked}
use Rattle.told.specs.Refusals.{refusal_line}
use Rattle.told.specs.declared.answers.Job.{Job}
use Rattle.told.specs.declared.answers.Job.TheVariants.{Check, Largest, One, List as Listing}

-- k of a file
unfoldable pub k_of : List ℕ → ℕ
k_of file = (check_call file 0 []).report.k

abbrev pub is_list : Job → Bool
is_list Check = false
is_list Largest = false
is_list One = false
is_list Listing = true

-- an answer has a head line, and so has a listing of an accepted file, refused or not: its word says which
unfoldable pub has_head : Bool → ℕ → Bool
has_head list number = eqb number 0 || cond list (leb 10 number) false

-- the head line; where marks alone are wanted there is none
unfoldable pub head_text : Bool → Job → List ℕ → Report → List ℕ → List ℕ
head_text marks job file r lent =
    cond marks [] (cond (has_head (is_list job) r.number) (answer_line job r (k_of file) (marked (take (k_of file) lent))) [])

-- How many sets are told: those of a listing, also of one that was stopped, and the one of a marking job that answered.
abbrev pub marking_sets : Bool → ℕ
marking_sets true = 1
marking_sets false = 0

abbrev pub sets_told : Job → Report → ℕ
sets_told Check r = 0
sets_told Largest r = marking_sets (eqb r.number 0)
sets_told One r = marking_sets (eqb r.number 0)
sets_told Listing r = r.rows

-- before the lemmas of a set: its marks alone, or for a listing its number, from 1
unfoldable pub set_text : Bool → Job → ℕ → List ℕ → List ℕ
set_text marks job number set = cond marks (marks_line set) (cond (is_list job) (set_line number (marked set) (length set)) [])

-- what goes to standard error
unfoldable pub error_text : Job → List ℕ → Report → ℕ → ℕ → List ℕ
error_text job file r budget space = cond (eqb r.number 0) [] (refusal_line job file r budget space)

-- What the program tells, worked out on examples.
use Rattle.std.specs.Prelude.{ℕ, ◌≡◌, refl, [], ◌∷◌}
use Rattle.meaning.specs.Calls.{Report}
use Rattle.text.specs.Ascii.{ascii}
use Rattle.text.specs.Numbers.{digit, digits, decimal}
use Rattle.text.specs.Filled.{filled}
use Rattle.text.specs.Listing.{mark_digit}
use Rattle.told.specs.declared.answers.Job.TheVariants.{Check, Largest, One, List as Listing}
use Rattle.told.specs.Answers.{word, list_line, answer_line, set_line, marks_line, marked}

-- a checked file's report, and a job's
checked : ℕ → ℕ → ℕ → Report
checked n m k = record { number = 0; place = 0; decisions = 0; rows = 0; n = n; m = m; k = k }

report : ℕ → ℕ → ℕ → ℕ → Report
report number place decisions rows = record { number = number; place = place; decisions = decisions; rows = rows; n = 0; m = 0; k = 0 }

case_check : answer_line Check (checked 12 120 27) 27 0 ≡ ascii "accepted: 12 state variables, 120 inputs and helpers, 27 candidate lemmas\n"
unfolding checked answer_line filled decimal digits digit
case_check = refl

case_largest : answer_line Largest (report 0 0 17903 0) 27 16 ≡ ascii "largest inductive set: 16 of 27 candidates (decisions: 17903)\n"
unfolding report answer_line filled decimal digits digit
case_largest = refl

case_one : answer_line One (report 0 0 83680 0) 27 12 ≡ ascii "minimal safe inductive set: 12 of 27 candidates (decisions: 83680)\n"
unfolding report answer_line filled decimal digits digit
case_one = refl

case_list : answer_line Listing (report 0 0 3 2) 3 0 ≡ ascii "complete: minimal safe inductive sets found: 2 (candidates: 3, decisions: 3)\n"
unfolding report answer_line list_line word filled decimal digits digit
case_list = refl

case_room : answer_line Listing (report 12 0 3 1) 3 0 ≡ ascii "room: minimal safe inductive sets found: 1 (candidates: 3, decisions: 3)\n"
unfolding report answer_line list_line word filled decimal digits digit
case_room = refl

case_set : set_line 1 2 3 ≡ ascii "set 1: 2 of 3 candidates\n"
unfolding set_line filled decimal digits digit
case_set = refl

case_marks : marks_line (0 ∷ 1 ∷ 1 ∷ []) ≡ ascii "011\n"
unfolding marks_line mark_digit digit
case_marks = refl

case_marked : marked (0 ∷ 1 ∷ 1 ∷ []) ≡ 2
unfolding marked
case_marked = refl

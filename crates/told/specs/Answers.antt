-- The head line of an answer, the line before a row of a listing, and marks in digits.
use Rattle.std.specs.Prelude.{ℕ, suc, cond, List, [], ◌∷◌, ◌++◌, map, eqb}
use Rattle.meaning.specs.Calls.{Report}
use Rattle.text.specs.Ascii.{ascii}
use Rattle.text.specs.Filled.{filled}
use Rattle.text.specs.Listing.{mark_digit}
use Rattle.told.specs.declared.answers.Job.{Job}
use Rattle.told.specs.declared.answers.Job.TheVariants.{Check, Largest, One, List as Listing}

-- The word is complete, spent for 10, none for 11, room for 12.
unfoldable pub word : ℕ → List ℕ
word number =
    cond (eqb number 0) (ascii "complete")
    (cond (eqb number 10) (ascii "spent")
    (cond (eqb number 11) (ascii "none")
    (cond (eqb number 12) (ascii "room")
    (ascii "refused"))))

-- a listing: its word, then rows, candidates and decisions
unfoldable pub list_line : Report → ℕ → List ℕ
list_line r k =
    word r.number ++ filled (ascii ": minimal safe inductive sets found: # (candidates: #, decisions: #)\n") r.rows k r.decisions

-- the head line of an answer: k is the number of candidates, and so many are kept
unfoldable pub answer_line : Job → Report → ℕ → ℕ → List ℕ
answer_line Check r k kept = filled (ascii "accepted: # state variables, # inputs and helpers, # candidate lemmas\n") r.n r.m r.k
answer_line Largest r k kept = filled (ascii "largest inductive set: # of # candidates (decisions: #)\n") kept k r.decisions
answer_line One r k kept = filled (ascii "minimal safe inductive set: # of # candidates (decisions: #)\n") kept k r.decisions
answer_line Listing r k kept = list_line r k

-- before each row of a listing
unfoldable pub set_line : ℕ → ℕ → ℕ → List ℕ
set_line row kept k = filled (ascii "set #: # of # candidates\n") row kept k

-- marks in digits, on a line
unfoldable pub marks_line : List ℕ → List ℕ
marks_line marks = map mark_digit marks ++ ascii "\n"

-- how many of the marks are 1
unfoldable pub marked : List ℕ → ℕ
marked [] = 0
marked (mark ∷ marks) = cond (eqb mark 1) (suc (marked marks)) (marked marks)

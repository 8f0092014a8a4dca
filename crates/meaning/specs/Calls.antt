-- What a call of each job answers, with any file, any budget and any lent bytes, and every lent byte afterwards.
use Rattle.std.specs.Prelude.{ℕ, suc, ◌+◌, ◌*◌, Bool, true, false, cond, List, [], ◌∷◌, ◌++◌, map, length, take, drop, ltb}
use Rattle.std.proofs.Math.Option.{Option, none, some}
use Rattle.meaning.specs.Meaning.{Problem, Marks, k}
use Rattle.meaning.specs.File.{Reading, accepted, rejected, read}
use Rattle.meaning.specs.Rules.{asked, Row, Listing, largest, one, listing}

-- What a call returns; what is not given for an answer is 0. Number 0: answered, with no refusal
pub record Report : Type 0 where
  pub number : ℕ
  pub place : ℕ
  pub decisions : ℕ
  pub rows : ℕ
  pub n : ℕ
  pub m : ℕ
  pub k : ℕ

-- what a call returns, and the lent bytes after it
pub record Outcome : Type 0 where
  pub report : Report
  pub lent : List ℕ

-- A program takes a file, a budget and lent bytes.
abbrev pub Program : Type 0
Program = List ℕ → ℕ → List ℕ → Outcome

-- A refusal returns its number, place and decisions and, for a listing, the rows kept, and no n, m or k.
unfoldable pub refusal : ℕ → ℕ → ℕ → ℕ → List ℕ → Outcome
refusal number place decisions rows lent =
    record {
      report = record { number = number; place = place; decisions = decisions; rows = rows; n = 0; m = 0; k = 0 };
      lent = lent;
    }

-- Every job also returns the decisions counted and, for a listing, the number of rows.
unfoldable pub answered : ℕ → ℕ → List ℕ → Outcome
answered decisions rows lent =
    record {
      report = record { number = 0; place = 0; decisions = decisions; rows = rows; n = 0; m = 0; k = 0 };
      lent = lent;
    }

-- The checking job writes nothing, counts 0, and returns n, m and k of an accepted file.
unfoldable pub checked : Problem → List ℕ → Outcome
checked p lent =
    record {
      report = record { number = 0; place = 0; decisions = 0; rows = 0; n = p.n; m = p.m; k = k p };
      lent = lent;
    }

-- the job on an accepted file; a refused one has 0 decisions and writes nothing
unfoldable pub on_reading : Reading → (Problem → List ℕ → Outcome) → List ℕ → Outcome
on_reading (accepted p) job lent = job p lent
on_reading (rejected r) job lent = refusal r.number r.place 0 0 lent

-- A mark is one byte, 1 for in and 0 for out.
unfoldable pub mark : Bool → ℕ
mark b = cond b 1 0

-- lent bytes with a row of marks from a place on; all other lent bytes keep their value
unfoldable pub written : ℕ → Marks → List ℕ → List ℕ
written at S lent = take at lent ++ (map mark S ++ drop (at + length S) lent)

-- The two marking jobs write the first k bytes; where the largest set isn't safe, 11 with the decisions counted so far.
unfoldable pub marked : Option Marks → ℕ → List ℕ → Outcome
marked none count lent = refusal 11 0 count 0 lent
marked (some S) count lent = answered count 0 (written 0 S lent)

-- 10: a decision wanted over budget
unfoldable pub within : ℕ → Option Marks → ℕ → List ℕ → Outcome
within budget found count lent = cond (ltb budget count) (refusal 10 0 budget 0 lent) (marked found count lent)

-- 9: mark space shorter than k (the marking jobs)
unfoldable pub with_room : ℕ → ℕ → Option Marks → ℕ → List ℕ → Outcome
with_room k budget found count lent = cond (ltb (length lent) k) (refusal 9 0 0 0 lent) (within budget found count lent)

unfoldable pub row_or_stop : Bool → Bool → Outcome → Outcome → Outcome → Outcome
row_or_stop true full spent room on = spent
row_or_stop false true spent room on = room
row_or_stop false false spent room on = on

-- The listing writes row r at bytes r*k to r*k+k-1. A row whose count is over the budget was not reached: 10. A row found that doesn't
-- fit: 12, with the decisions counted so far. In both the rows already found are kept.
unfoldable pub cut : ℕ → ℕ → ℕ → List Row → ℕ → List ℕ → Outcome
cut k budget r [] count lent = cond (ltb budget count) (refusal 10 0 budget r lent) (answered count r lent)
cut k budget r (row ∷ rest) count lent =
    row_or_stop (ltb budget row.found_at) (ltb (length lent) (r * k + k))
    (refusal 10 0 budget r lent)
    (refusal 12 0 row.found_at r lent)
    (cut k budget (suc r) rest count (written (r * k) row.marks lent))

unfoldable pub listed : ℕ → ℕ → Listing → List ℕ → Outcome
listed k budget L lent =
    cond L.safe (cut k budget 0 L.rows L.count lent)
    (cond (ltb budget L.count) (refusal 10 0 budget 0 lent) (refusal 11 0 L.count 0 lent))

-- The four jobs on an accepted problem
unfoldable pub largest_job : ℕ → Problem → List ℕ → Outcome
largest_job budget p lent =
    with_room (k p) budget (some (largest (asked p) (k p)).marks) (largest (asked p) (k p)).count lent

unfoldable pub one_job : ℕ → Problem → List ℕ → Outcome
one_job budget p lent = with_room (k p) budget (one (asked p) (k p)).found (one (asked p) (k p)).count lent

unfoldable pub list_job : ℕ → Problem → List ℕ → Outcome
list_job budget p lent = listed (k p) budget (listing (asked p) (k p)) lent

-- The four calls, as programs
unfoldable pub check_call : Program
check_call file budget lent = on_reading (read file) checked lent

unfoldable pub largest_call : Program
largest_call file budget lent = on_reading (read file) (largest_job budget) lent

unfoldable pub one_call : Program
one_call file budget lent = on_reading (read file) (one_job budget) lent

unfoldable pub list_call : Program
list_call file budget lent = on_reading (read file) (list_job budget) lent

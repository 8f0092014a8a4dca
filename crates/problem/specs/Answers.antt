-- What the answers of the reader and of the checking job stand for: this paper's number and values for each case.
use Rattle.std.specs.Prelude.{ℕ, List, Result, Ok, Err}
use Rattle.meaning.specs.File.{Reading, accepted, rejected}
use Rattle.meaning.specs.Calls
use Rattle.format.specs.Section.{problem_at, Placed}
use Rattle.format.specs.declared.Problem.{Problem}
use Rattle.problem.specs.declared.refusal.Refusal.{Refusal}
use Rattle.problem.specs.declared.Report.{Report}
use Rattle.problem.specs.Refusals.{refusal_of}

-- an accepted problem stands in its file; a refusal has its number and place
abbrev pub reading_of_answer : List ℕ → Result Problem Refusal → Reading
reading_of_answer file (Ok p) = accepted (problem_at file p)
reading_of_answer file (Err r) = rejected (refusal_of r)

-- what else an accepted problem comes with
abbrev pub PlacedIf : List ℕ → Result Problem Refusal → Type 0
PlacedIf file (Ok p) = Placed file p
PlacedIf file (Err r) = Unit {0}

-- what a job returns
abbrev pub report_of : Report → Calls.Report
report_of r =
    record {
      number = r.number;
      place = r.place;
      decisions = r.decisions;
      rows = r.rows;
      n = r.n;
      m = r.m;
      k = r.k;
    }

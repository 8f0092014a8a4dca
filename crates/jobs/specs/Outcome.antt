-- What a job's report and its lent bytes come to, by the paper's numbers and values.
use Rattle.std.specs.Prelude.{ℕ, ◌≡◌, refl, List}
use Rattle.meaning.specs.Calls.{Outcome, refusal, answered}
use Rattle.problem.specs.declared.Report.{Report}
use Rattle.problem.specs.Answers.{report_of}

abbrev pub outcome_of : Report → List ℕ → Outcome
outcome_of r lent = record { report = report_of r; lent = lent }

-- a report of a number, its place, the decisions and the rows
abbrev pub reported_as : ℕ → ℕ → ℕ → ℕ → Report
reported_as number place decisions rows =
    record { number = number; place = place; decisions = decisions; rows = rows; n = 0; m = 0; k = 0 }

-- with lent bytes it is a refusal, or an answer
pub report_refused : (number place decisions rows : ℕ) (lent : List ℕ)
    → outcome_of (reported_as number place decisions rows) lent ≡ refusal number place decisions rows lent
unfolding refusal
report_refused number place decisions rows lent = refl

pub report_answered : (decisions rows : ℕ) (lent : List ℕ) → outcome_of (reported_as 0 0 decisions rows) lent ≡ answered decisions rows lent
unfolding answered
report_answered decisions rows lent = refl

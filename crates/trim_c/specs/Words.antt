-- A report as seven words: number, place, decisions, rows, n, m, k.
use Rattle.std.specs.Prelude.{ℕ, ◌≡◌, List, [], ◌∷◌}
use Rattle.std.proofs.Common.{ap, ◌∙◌}
use Rattle.meaning.specs.Calls.{Report, Outcome}
use Rattle.problem.specs.declared.Report as code
use Rattle.problem.specs.Answers.{report_of}
use Rattle.jobs.specs.Outcome.{outcome_of}

abbrev pub words_of : Report → List ℕ
words_of r = r.number ∷ r.place ∷ r.decisions ∷ r.rows ∷ r.n ∷ r.m ∷ r.k ∷ []

-- a report that was filled in
pub filled : (r : code.Report) (R : Report) (n : ℕ) (words : List ℕ) → report_of r ≡ R
    → (n ≡ r.number) × (words ≡ words_of (report_of r)) → (n ≡ R.number) × (words ≡ words_of R)
filled r R n words e h = (h.0 ∙ ap (λ (x : Report). x.number) e, h.1 ∙ ap words_of e)

-- a report and lent bytes that came of a call
pub filled_call : (r : code.Report) (O : Outcome) (lent : List ℕ) (n : ℕ) (words : List ℕ) → outcome_of r lent ≡ O
    → (n ≡ r.number) × (words ≡ words_of (report_of r))
    → (n ≡ O.report.number) × (words ≡ words_of O.report) × (lent ≡ O.lent)
filled_call r O lent n words e h =
    let told = filled r O.report n words (ap (λ (x : Outcome). x.report) e) h in
    (told.0, told.1, ap (λ (x : Outcome). x.lent) e)

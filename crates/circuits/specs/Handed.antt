-- The problem file handed over to the caller.
use Rattle.std.specs.Prelude.{ℕ, ◌≤◌, ◌<◌, ◌≡◌, cond, List, [], ◌++◌, length, take, drop, ltb}
use Rattle.std.proofs.Common.{sym, ap, ◌∙◌, lt-ltb, le-ltb}
use Rattle.meaning.specs.Meaning.{Problem}
use Rattle.meaning.specs.File.{accepted}
use Rattle.meaning.specs.Filed.{file_of}
use Rattle.meaning.specs.Calls
use Rattle.meaning.specs.Calls.{Outcome, refusal, on_reading, checked, check_call}
use Rattle.meaning.specs.Circuits.{read_circuit, problem_job, circuit_problem_call}
use Rattle.circuit_laws.specs.AcceptedTexts.{circuit_read_back}
use Rattle.problem.specs.declared.Report.{Report}
use Rattle.problem.specs.Answers.{report_of}
use Rattle.jobs.specs.Outcome.{outcome_of}
use Rattle.circuits.specs.Reading.{WrittenAs}

-- a problem file into the first of some lent bytes, with what a check says of it
unfoldable pub handed_over : List ℕ → List ℕ → Outcome
handed_over own lent =
    cond (ltb (length lent) (length own)) (refusal 12 0 0 0 lent)
    (record {
      report =
          record {
            number = 0;
            place = 0;
            decisions = 0;
            rows = length own;
            n = (check_call own 0 []).report.n;
            m = (check_call own 0 []).report.m;
            k = (check_call own 0 []).report.k;
          };
      lent = own ++ drop (length own) lent;
    })

-- the file of a problem that is read is handed over as the call says
pub handed_is : (text lemmas lent : List ℕ) (p : Problem) → read_circuit text lemmas ≡ accepted p
    → handed_over (file_of p) lent ≡ circuit_problem_call text lemmas 0 lent
unfolding handed_over circuit_problem_call problem_job on_reading check_call checked
handed_is text lemmas lent p e = rw (e, circuit_read_back text lemmas p e)

pub handed_asked : (text lemmas out lent : List ℕ) (len : ℕ) → WrittenAs text lemmas out len → (o : Outcome)
    → o ≡ handed_over (take len out) lent → o ≡ circuit_problem_call text lemmas 0 lent
handed_asked text lemmas out lent len w o told =
    told ∙ ap (λ (file : List ℕ). handed_over file lent) w.bytes ∙ handed_is text lemmas lent w.problem w.is

-- ---- what is handed over

pub handed_short : (own lent : List ℕ) (r : Report) → length lent < length own → report_of r ≡ (refusal 12 0 0 0 []).report
    → outcome_of r lent ≡ handed_over own lent
unfolding handed_over refusal
handed_short own lent r short told =
    ap (λ (x : Calls.Report). record { report = x; lent = lent }) told ∙ sym (rw (lt-ltb (length lent) (length own) short))

pub handed_fits : (own lent after : List ℕ) (r : Report) (len : ℕ) → length own ≤ length lent → len ≡ length own
    → report_of r ≡ (check_call own 0 []).report → after ≡ own ++ drop (length own) lent
    → outcome_of (record { number = 0; place = 0; decisions = 0; rows = len; n = r.n; m = r.m; k = r.k }) after ≡ handed_over own lent
unfolding handed_over
handed_fits own lent after r len fits len_is told after_is =
    rw (len_is, after_is, le-ltb (length lent) (length own) fits)
    (cc (ap (λ (x : Calls.Report). x.n) told, ap (λ (x : Calls.Report). x.m) told, ap (λ (x : Calls.Report). x.k) told))

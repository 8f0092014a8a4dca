-- From the jobs on the file that is written to the calls on the two texts.
use Rattle.std.specs.Prelude.{ℕ, ◌≡◌, List, [], length, take}
use Rattle.std.specs.Borrow.{Bor, MutBor}
use Rattle.std.proofs.Common.{sym, ◌∙◌, length-take-le}
use Rattle.std.proofs.Math.Path.{ap, ap₂}
use Rattle.meaning.specs.Meaning.{Problem}
use Rattle.meaning.specs.File.{Reading}
use Rattle.meaning.specs.Calls
use Rattle.meaning.specs.Calls.{Outcome, Program, refusal, on_reading, checked, largest_job, one_job, list_job, check_call, largest_call, one_call, list_call}
use Rattle.meaning.specs.Circuits.{read_circuit, circuit_check_call, circuit_largest_call, circuit_one_call, circuit_list_call}
use Rattle.circuit_laws.specs.CircuitDemands.{circuit_check_is, circuit_largest_is, circuit_one_is, circuit_list_is}
use Rattle.problem.specs.declared.Report.{Report}
use Rattle.problem.specs.Answers.{report_of}
use Rattle.jobs.specs.Outcome.{outcome_of}
use Rattle.circuits.specs.declared.refusal.Refusal.{Refusal}
use Rattle.circuits.specs.Refused.{number_of, place_of}
use Rattle.circuits.specs.Reading.{Refuses, WrittenAs}

-- a job on an accepted problem
abbrev pub Job : Type 0
Job = Problem → List ℕ → Outcome

-- what a call on the problem's file, and on what is lent, comes to: what the job does
abbrev pub Does : List ℕ → List ℕ → List ℕ → Job → (Bor (List ℕ) → MutBor (List ℕ) → Report → MutBor (List ℕ) → Type 0) → Type 0
Does text lemmas lent job Gives =
    (out : List ℕ) (len : ℕ) → WrittenAs text lemmas out len
    → (file : Bor (List ℕ)) (before : MutBor (List ℕ)) (r : Report) (after : MutBor (List ℕ)) → file.now ≡ take len out → before.now ≡ lent
    → Gives file before r after → outcome_of r after.now ≡ on_reading (read_circuit text lemmas) job lent

-- a refusal, whatever the job
module _ (text lemmas : List ℕ) (why : Refusal) (refuses : Refuses text lemmas why) (r : Report)
    (told : report_of r ≡ (refusal (number_of why) (place_of why) 0 0 []).report) where
  pub refused_call : (job : Problem → List ℕ → Outcome) (lent : List ℕ) → outcome_of r lent ≡ on_reading (read_circuit text lemmas) job lent
  unfolding on_reading refusal
  refused_call job lent =
      ap (λ (x : Calls.Report). record { report = x; lent = lent }) told
      ∙ ap (λ (x : Reading). on_reading x job lent) (sym refuses)

module _ (text lemmas out : List ℕ) (len : ℕ) (written : WrittenAs text lemmas out len) where
  pub written_long : len ≡ length (take len out)
  written_long = sym (length-take-le len out written.inside)

  abbrev p : Problem
  p = written.problem

  pub check_asked : (r : Report) → report_of r ≡ (check_call (take len out) 0 []).report
      → report_of r ≡ (circuit_check_call text lemmas 0 []).report
  check_asked r told =
      told ∙ ap (λ (file : List ℕ). (check_call file 0 []).report) written.bytes
      ∙ ap (λ (o : Outcome). o.report) (sym (circuit_check_is text lemmas p 0 [] written.is))

  -- and what was lent to it stays
  pub check_does : (r : Report) (after lent : List ℕ) → report_of r ≡ (check_call (take len out) 0 []).report → after ≡ lent
      → outcome_of r after ≡ on_reading (read_circuit text lemmas) checked lent
  unfolding circuit_check_call on_reading checked
  check_does r after lent told stays =
      let is : report_of r ≡ (checked p lent).report =
      check_asked r told ∙ ap (λ (x : Reading). (on_reading x checked []).report) written.is in
      ap₂ (λ (x : Calls.Report) (l : List ℕ). record { report = x; lent = l }) is stays
      ∙ ap (λ (x : Reading). on_reading x checked lent) (sym written.is)

  pub largest_asked : (o : Outcome) (budget : ℕ) (lent : List ℕ) → o ≡ largest_call (take len out) budget lent
      → o ≡ circuit_largest_call text lemmas budget lent
  largest_asked o budget lent told =
      told ∙ ap (λ (file : List ℕ). largest_call file budget lent) written.bytes
      ∙ sym (circuit_largest_is text lemmas p budget lent written.is)

  pub one_asked : (o : Outcome) (budget : ℕ) (lent : List ℕ) → o ≡ one_call (take len out) budget lent
      → o ≡ circuit_one_call text lemmas budget lent
  one_asked o budget lent told =
      told ∙ ap (λ (file : List ℕ). one_call file budget lent) written.bytes
      ∙ sym (circuit_one_is text lemmas p budget lent written.is)

  pub list_asked : (o : Outcome) (budget : ℕ) (lent : List ℕ) → o ≡ list_call (take len out) budget lent
      → o ≡ circuit_list_call text lemmas budget lent
  list_asked o budget lent told =
      told ∙ ap (λ (file : List ℕ). list_call file budget lent) written.bytes
      ∙ sym (circuit_list_is text lemmas p budget lent written.is)

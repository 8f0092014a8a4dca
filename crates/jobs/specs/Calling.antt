-- From a job on a placed problem to the call on its file.
use Rattle.std.specs.Prelude.{ℕ, ◌≡◌, List, [], Result, Ok, Err}
use Rattle.std.proofs.Math.Path.{sym, ap}
use Rattle.std.proofs.Common.{◌∙◌}
use Rattle.std.proofs.Math.Option.{some}
use Rattle.meaning.specs.Meaning
use Rattle.meaning.specs.File.{read}
use Rattle.meaning.specs.Rules.{largest, one, listing}
use Rattle.meaning.specs.Calls
use Rattle.meaning.specs.Calls.{Outcome, refusal, on_reading, with_room, listed, largest_job, one_job, list_job}
use Rattle.format.specs.declared.Problem.{Problem}
use Rattle.format.specs.Section.{problem_at}
use Rattle.problem.specs.declared.refusal.Refusal.{Refusal}
use Rattle.problem.specs.declared.Report.{Report}
use Rattle.problem.specs.Answers.{reading_of_answer, report_of}
use Rattle.problem.specs.Refusals.{number_of}
use Rattle.problem.specs.Held.{length_section}
use Rattle.sets.specs.Asks.{asks}
use Rattle.jobs.specs.Outcome.{outcome_of}

-- k of the problem that stands at p
pub k_at : (file : List ℕ) (p : Problem) → Meaning.k (problem_at file p) ≡ p.k
unfolding Meaning.k problem_at
k_at file p = length_section file p.lemmas_at p.k

module _ (file : List ℕ) (p : Problem) (budget : ℕ) (lent : List ℕ) where
  pub largest_job_at : with_room p.k budget (some (largest (asks file p) p.k).marks) (largest (asks file p) p.k).count lent
      ≡ largest_job budget (problem_at file p) lent
  unfolding largest_job asks
  largest_job_at =
      sym
      (ap (λ (n : ℕ). with_room n budget (some (largest (asks file p) n).marks) (largest (asks file p) n).count lent) (k_at file p))

  pub one_job_at : with_room p.k budget (one (asks file p) p.k).found (one (asks file p) p.k).count lent
      ≡ one_job budget (problem_at file p) lent
  unfolding one_job asks
  one_job_at =
      sym (ap (λ (n : ℕ). with_room n budget (one (asks file p) n).found (one (asks file p) n).count lent) (k_at file p))

  pub list_job_at : listed p.k budget (listing (asks file p) p.k) lent ≡ list_job budget (problem_at file p) lent
  unfolding list_job asks
  list_job_at = sym (ap (λ (n : ℕ). listed n budget (listing (asks file p) n) lent) (k_at file p))

-- the call on a file that is read as an accepted problem, or refused
module _ (file : List ℕ) (job : Meaning.Problem → List ℕ → Outcome) (lent : List ℕ) (read_as : Result Problem Refusal)
    (is : reading_of_answer file read_as ≡ read file) where
  pub call_accepted : (p : Problem) → read_as ≡ Ok p → job (problem_at file p) lent ≡ on_reading (read file) job lent
  unfolding on_reading
  call_accepted p e = ap (λ r. on_reading r job lent) (sym (ap (reading_of_answer file) e) ∙ is)

  pub call_refused : (r : Refusal) (report : Report) → read_as ≡ Err r
      → report_of report ≡ (refusal (number_of r.rule) r.place 0 0 []).report → outcome_of report lent ≡ on_reading (read file) job lent
  unfolding on_reading refusal
  call_refused r report e told =
      ap (λ (x : Calls.Report). record { report = x; lent = lent }) told
      ∙ ap (λ x. on_reading x job lent) (sym (ap (reading_of_answer file) e) ∙ is)

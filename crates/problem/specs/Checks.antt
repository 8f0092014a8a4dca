-- The checking job's report: what it is for each reading, that neither budget nor lent bytes change it, and that the promise leaves one
-- answer only.
use Rattle.std.specs.Prelude.{ℕ, ◌≡◌, refl, List, []}
use Rattle.std.proofs.Common.{sym, ap, ◌∙◌}
use Rattle.meaning.specs.Meaning
use Rattle.meaning.specs.File.{Reading, accepted, rejected, read}
use Rattle.meaning.specs.Calls
use Rattle.meaning.specs.Calls.{check_call, checked, refusal, on_reading}
use Rattle.format.specs.declared.Problem.{Problem}
use Rattle.format.specs.Section.{problem_at}
use Rattle.problem.specs.declared.Report.{Report}
use Rattle.problem.specs.Held.{length_section}
use Rattle.problem.specs.Answers.{report_of}

-- an accepted file: n, m and k
pub accepted_report : (file : List ℕ) (p : Problem) → accepted (problem_at file p) ≡ read file
    → ◌≡◌ {A = Calls.Report}
    (record { number = 0; place = 0; decisions = 0; rows = 0; n = p.n; m = p.m; k = p.k })
    (check_call file 0 []).report
unfolding check_call on_reading checked problem_at Meaning.k
accepted_report file p e =
    ap
    (λ (k : ℕ). record { number = 0; place = 0; decisions = 0; rows = 0; n = p.n; m = p.m; k = k })
    (sym (length_section file p.lemmas_at p.k)) ∙
    ap (λ (r : Reading). (on_reading r checked []).report) e

-- a refused one: number and place
pub refused_report : (file : List ℕ) (number place : ℕ) → rejected (record { number = number; place = place }) ≡ read file
    → ◌≡◌ {A = Calls.Report}
    (record { number = number; place = place; decisions = 0; rows = 0; n = 0; m = 0; k = 0 })
    (check_call file 0 []).report
unfolding check_call on_reading refusal
refused_report file number place e = ap (λ (r : Reading). (on_reading r checked []).report) e

-- The checking job counts nothing and writes nothing: a report that is right is right for every budget and every lent bytes, which stay
-- as they are
pub check_outcome : (file : List ℕ) (r : Report) → report_of r ≡ (check_call file 0 []).report → (budget : ℕ) (lent : List ℕ)
    → check_call file budget lent ≡ record { report = report_of r; lent = lent }
unfolding check_call on_reading checked refusal
check_outcome file r e budget lent =
    steady (read file) ∙ ap (λ (report : Calls.Report). record { report = report; lent = lent }) (sym e)
  where
    steady : (answer : Reading)
        → on_reading answer checked lent ≡ record { report = (on_reading answer checked []).report; lent = lent }
    steady (accepted p) = refl
    steady (rejected r) = refl

-- two answers of the checking job that meet its promise are equal
pub check_unique : (file : List ℕ) (r s : Report) → report_of r ≡ (check_call file 0 []).report
    → report_of s ≡ (check_call file 0 []).report → r ≡ s
check_unique file r s e f = ap back (e ∙ sym f)
  where
    back : Calls.Report → Report
    back x =
        record {
          number = x.number;
          place = x.place;
          decisions = x.decisions;
          rows = x.rows;
          n = x.n;
          m = x.m;
          k = x.k;
        }

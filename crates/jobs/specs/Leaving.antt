-- What a marking job leaves, by how its call ended.
use Rattle.std.specs.Prelude.{ℕ, ◌≤◌, ◌<◌, ◌≡◌, Bool, true, false, length, Ok, Err}
use Rattle.std.proofs.Math.Path.{refl, sym, ap, ap₂}
use Rattle.std.proofs.Common.{◌∙◌}
use Rattle.std.proofs.Math.Bool.{cond}
use Rattle.std.proofs.Math.Option.{Option, none, some}
use mathlib.Core.List.{List}
use borrow.Author.Tests.{le-ltb, lt-ltb}
use Rattle.std.specs.declared.result.Result.{Result}
use Rattle.search.specs.declared.Spent.{Spent}
use Rattle.meaning.specs.Meaning
use Rattle.meaning.specs.Rules.{Question, Answer, Counted, largest, one}
use Rattle.meaning.specs.Calls
use Rattle.meaning.specs.Calls.{Outcome, refusal, marked, within, with_room, written}
use Rattle.format.specs.Section.{problem_at}
use Rattle.search.specs.declared.asked.Asked.{Asked}
use Rattle.sets.specs.declared.picks.Judged.{Judged}
use Rattle.jobs.specs.Outcome.{outcome_of, reported_as}
use Rattle.sets.specs.Asks.{marks_at}
use Rattle.sets.specs.Forms.{KeptIs}
use Rattle.sets.specs.Single.{found_of, SingleIs}

-- a job on an accepted problem
abbrev pub Job : Type 0
Job = Meaning.Problem → List ℕ → Outcome

-- spent, or the set that was found
unfoldable pub left_by : ℕ → ℕ → Result Judged Spent → List ℕ → Outcome
left_by k budget (Ok x) lent = marked (found_of k x) x.used lent
left_by k budget (Err s) lent = refusal 10 0 budget 0 lent

-- what is to be found for a job: what the job leaves, where the lent bytes have room, and else it is refused
abbrev pub Does : ℕ → List ℕ → Job → (Asked → Result Judged Spent → Type 0) → Type 0
Does budget lent job Finds =
    (of : Asked)
    → (length lent < of.problem.k → refusal 9 0 0 0 lent ≡ job (problem_at of.file.now of.problem) lent)
    × (of.problem.k ≤ length lent → (x : Result Judged Spent) → Finds of x
    → left_by of.problem.k budget x lent ≡ job (problem_at of.file.now of.problem) lent)

-- a kept set that counts as safe
abbrev pub WholeIs : ℕ → ℕ → Counted → Result Judged Spent → Type 0
WholeIs k left c (Ok r) = KeptIs k left c (Ok (record { set = r.set; used = r.used })) × (r.safe ≡ true)
WholeIs k left c (Err s) = left < c.count

-- a call with room, whose found set and count x holds where the budget suffices
module _ (k budget : ℕ) (found : Option Meaning.Marks) (count : ℕ) (lent : List ℕ) (room : k ≤ length lent) where
  pub left_spent : {s : Spent} → budget < count → left_by k budget (Err s) lent ≡ with_room k budget found count lent
  unfolding left_by with_room within
  left_spent over = rw (le-ltb (length lent) k room, lt-ltb budget count over)

  pub left_found : (x : Judged) → count ≤ budget → x.used ≡ count → found_of k x ≡ found
      → left_by k budget (Ok x) lent ≡ with_room k budget found count lent
  unfolding left_by with_room within
  left_found x enough used is =
      rw (le-ltb (length lent) k room, le-ltb budget count enough) (ap₂ (λ (f : Option Meaning.Marks) (n : ℕ). marked f n lent) is used)

module _ (ask : Meaning.Marks → Question → Answer) (k budget : ℕ) (lent : List ℕ) (room : k ≤ length lent) where
  pub one_left : (x : Result Judged Spent) → SingleIs ask k budget x
      → left_by k budget x lent ≡ with_room k budget (one ask k).found (one ask k).count lent
  one_left (Ok x) is = left_found k budget _ _ lent room x is.1 is.0.used is.0.found
  one_left (Err s) over = left_spent k budget _ _ lent room over

  pub largest_left : (x : Result Judged Spent) → WholeIs k budget (largest ask k) x
      → left_by k budget x lent ≡ with_room k budget (some (largest ask k).marks) (largest ask k).count lent
  unfolding found_of
  largest_left (Ok x) (is, safe) =
      left_found k budget _ _ lent room x is.1 is.0.used
      (ap (λ (b : Bool). cond b (some (marks_at k x.set)) none) safe ∙ ap some is.0.marks)
  largest_left (Err s) over = left_spent k budget _ _ lent room over

-- a call with no room
pub no_room : (k budget : ℕ) (found : Option Meaning.Marks) (count : ℕ) (lent : List ℕ) → length lent < k
    → refusal 9 0 0 0 lent ≡ with_room k budget found count lent
unfolding with_room
no_room k budget found count lent short = rw (lt-ltb (length lent) k short)

-- how a marking job returns
module _ (k budget : ℕ) (lent : List ℕ) where
  pub leave_spent : {s : Spent} → outcome_of (reported_as 10 0 budget 0) lent ≡ left_by k budget (Err s) lent
  unfolding left_by refusal
  leave_spent = refl

  module _ (x : Judged) where
    pub leave_none : x.safe ≡ false → outcome_of (reported_as 11 0 x.used 0) lent ≡ left_by k budget (Ok x) lent
    unfolding left_by refusal found_of marked
    leave_none unsafe = sym (ap (λ (b : Bool). marked (cond b (some (marks_at k x.set)) none) x.used lent) unsafe)

    pub leave_some : (lent' : List ℕ) → x.safe ≡ true → lent' ≡ written 0 (marks_at k x.set) lent
        → outcome_of (reported_as 0 0 x.used 0) lent' ≡ left_by k budget (Ok x) lent
    unfolding left_by Calls.answered found_of marked
    leave_some lent' safe wrote =
        ap (λ (l : List ℕ). outcome_of (reported_as 0 0 x.used 0) l) wrote
        ∙ sym (ap (λ (b : Bool). marked (cond b (some (marks_at k x.set)) none) x.used lent) safe)

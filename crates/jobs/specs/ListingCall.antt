-- The listing of a call: the largest set and its safety, the first node, and the report.
use Rattle.std.specs.Prelude.{ℕ, suc, ◌≤◌, ◌<◌, ◌≡◌, Bool, true, false, cond, List, replicate, ltb, Ok, Err}
use Rattle.std.proofs.Math.Path.{refl, ap}
use Rattle.std.proofs.Common.{sym, ap₂, ◌∙◌, arith, lt-ltb, le-ltb}
use Rattle.std.specs.declared.result.Result.{Result}
use Rattle.meaning.specs.Meaning
use Rattle.meaning.specs.Rules.{Question, Answer, Rows, safety, size, counted_on, largest, largest_safety, node, list_if, listing}
use Rattle.meaning.specs.Calls.{refusal, answered, listed}
use Rattle.laws.specs.Basics.{true_of_not, false_of_not}
use Rattle.laws.specs.Feed.{going, feed, finish, feed_over, listed_safe, listed_unsafe}
use Rattle.problem.specs.declared.Report.{Report}
use Rattle.sets.specs.Asks.{marks_at}
use Rattle.sets.specs.declared.picks.Judged.{Judged}
use Rattle.rows.specs.declared.found.Progress.{Progress}
use Rattle.rows.specs.declared.found.Stop.{Stop}
use Rattle.rows.specs.declared.found.Stop.TheVariants.{Spent, Full}
use Rattle.sets.specs.Judging.{JudgedIs, judged_count}
use Rattle.rows.specs.ListingProgress.{progress_of}
use Rattle.jobs.specs.Outcome.{outcome_of, reported_as}

-- the report where a listing stands at the end
abbrev pub report_at : ℕ → Result Progress Stop → Report
report_at budget (Ok at) = reported_as 0 0 at.used at.rows
report_at budget (Err (Spent r)) = reported_as 10 0 budget r
report_at budget (Err (Full at)) = reported_as 12 0 at.used at.rows

pub report_finish : (budget : ℕ) (lent : List ℕ) (s : Result Progress Stop)
    → outcome_of (report_at budget s) lent ≡ finish (progress_of budget lent s)
unfolding finish answered refusal
report_finish budget lent (Ok at) = refl
report_finish budget lent (Err (Spent r)) = refl
report_finish budget lent (Err (Full at)) = refl

-- the node (empty, largest set)
abbrev first_node : (Meaning.Marks → Question → Answer) → ℕ → Rows
first_node ask k = node ask (suc (size (largest ask k).marks)) (replicate k false) (largest ask k).marks

-- the call by how its largest set was judged
module _ (ask : Meaning.Marks → Question → Answer) (k budget : ℕ) (lent : List ℕ) where
  unsafe_is : (ask (largest ask k).marks safety).sat ≡ true
      → listed k budget (listing ask k) lent
      ≡ cond (ltb budget (judged_count ask (largest ask k))) (refusal 10 0 budget 0 lent)
      (refusal 11 0 (judged_count ask (largest ask k)) 0 lent)
  unfolding listing largest_safety counted_on judged_count list_if
  unsafe_is e =
      ap (λ (b : Bool). listed k budget (list_if ask b (largest_safety ask k).count (first_node ask k)) lent) e
      ∙ listed_unsafe k budget (judged_count ask (largest ask k)) lent

  safe_is : (ask (largest ask k).marks safety).sat ≡ false
      → listed k budget (listing ask k) lent ≡ finish (feed k budget (first_node ask k) (going 0 (judged_count ask (largest ask k)) lent))
  unfolding listing largest_safety counted_on judged_count list_if
  safe_is e =
      ap (λ (b : Bool). listed k budget (list_if ask b (largest_safety ask k).count (first_node ask k)) lent) e
      ∙ listed_safe k budget (judged_count ask (largest ask k)) (first_node ask k) lent

  pub call_spent : budget < judged_count ask (largest ask k) → refusal 10 0 budget 0 lent ≡ listed k budget (listing ask k) lent
  unfolding finish
  call_spent over = go (ask (largest ask k).marks safety).sat refl
    where
      go : (b : Bool) → (ask (largest ask k).marks safety).sat ≡ b → refusal 10 0 budget 0 lent ≡ listed k budget (listing ask k) lent
      go true s =
          sym
          (unsafe_is s
          ∙ ap
          (λ (b : Bool). cond b (refusal 10 0 budget 0 lent) (refusal 11 0 (judged_count ask (largest ask k)) 0 lent))
          (lt-ltb budget (judged_count ask (largest ask k)) over))
      go false s = sym (safe_is s ∙ ap finish (feed_over k budget (first_node ask k) 0 (judged_count ask (largest ask k)) lent over))

  module _ (j : Judged) (is : JudgedIs ask k budget (largest ask k) (Ok j)) where
    pub call_used : j.used ≤ budget
    call_used = omega (arith, is.0.used, is.1)

    -- 11: the largest set isn't safe
    pub call_unsafe : j.safe ≡ false → refusal 11 0 j.used 0 lent ≡ listed k budget (listing ask k) lent
    call_unsafe e =
        sym
        (unsafe_is (true_of_not (ask (largest ask k).marks safety).sat (sym is.0.safe ∙ e))
        ∙ ap
        (λ (b : Bool). cond b (refusal 10 0 budget 0 lent) (refusal 11 0 (judged_count ask (largest ask k)) 0 lent))
        (le-ltb budget (judged_count ask (largest ask k)) is.1)
        ∙ ap (λ (n : ℕ). refusal 11 0 n 0 lent) (sym is.0.used))

    -- then the node (empty, largest set)
    pub call_safe : j.safe ≡ true → (fuel : ℕ) (K : Meaning.Marks) → fuel ≡ suc (size (marks_at k j.set)) → K ≡ replicate k false
        → finish (feed k budget (node ask fuel K (marks_at k j.set)) (going 0 j.used lent)) ≡ listed k budget (listing ask k) lent
    call_safe e fuel K enough empty =
        ap₂ (λ (n : ℕ) (S : Meaning.Marks). finish (feed k budget (node ask n S (marks_at k j.set)) (going 0 j.used lent))) enough empty
        ∙ ap₂
        (λ (A : Meaning.Marks) (n : ℕ). finish (feed k budget (node ask (suc (size A)) (replicate k false) A) (going 0 n lent)))
        is.0.marks
        is.0.used
        ∙ sym (safe_is (false_of_not (ask (largest ask k).marks safety).sat (sym is.0.safe ∙ e)))

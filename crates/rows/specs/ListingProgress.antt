-- Where a listing stands, and what decisions or a row more make of it.
use Rattle.std.specs.Prelude.{ℕ, zero, suc, ◌+◌, ◌*◌, ◌≤◌, ◌<◌, ◌≡◌, refl, Bool, true, false, List, [], ◌∷◌, length, ltb, Ok, Err}
use Rattle.std.proofs.Common.{subst, ◌∙◌, arith, add-zero, add_assoc, mul-suc}
use Rattle.std.proofs.Math.Path.{ap}
use Rattle.std.proofs.Math.Bool.{cond}
use borrow.Author.Tests.{lt-ltb, le-ltb, ltb-true, ltb-false}
use Rattle.std.specs.declared.result.Result.{Result}
use Rattle.meaning.specs.Meaning
use Rattle.meaning.specs.Rules.{Rows, rows_after, no_rows}
use Rattle.meaning.specs.Calls.{refusal, written}
use Rattle.laws.specs.Feed
use Rattle.laws.specs.Feed.{going, stopped, advance, feed, feed_rows, stop_or, feed_after, feed_none}
use Rattle.rows.specs.declared.found.Progress.{Progress}
use Rattle.rows.specs.declared.found.Stop.{Stop}
use Rattle.rows.specs.declared.found.Stop.TheVariants.{Spent, Full}

-- after so many decisions more
abbrev pub on_after : Progress → ℕ → Progress
on_after at d = record { rows = at.rows; used = at.used + d }

-- what stands after the rows so far, or how the call ended
abbrev pub progress_of : ℕ → List ℕ → Result Progress Stop → Feed.Progress
progress_of budget lent (Ok at) = going at.rows at.used lent
progress_of budget lent (Err (Spent r)) = stopped (refusal 10 0 budget r lent)
progress_of budget lent (Err (Full at)) = stopped (refusal 12 0 at.used at.rows lent)

-- a listing that goes on: the decisions are in the budget, the rows fit; and with no lemma no row was found before
pub record Ready (k budget : ℕ) (lent : List ℕ) (at : Progress) : Type 0 where
  pub in_budget : at.used ≤ budget
  pub fits : at.rows * k ≤ length lent
  pub first : k ≡ 0 → at.rows ≡ 0

abbrev pub Sound : ℕ → ℕ → ℕ → Result Progress Stop → Type 0
Sound k budget room (Ok at) = (at.used ≤ budget) × (at.rows * k ≤ room)
Sound k budget room (Err s) = Unit {0}

-- a listing stands where it is to stand
pub record Fed (k budget room : ℕ) (to : Feed.Progress) (after : List ℕ) (s : Result Progress Stop) : Type 0 where
  pub is : progress_of budget after s ≡ to
  pub sound : Sound k budget room s

-- the rows R were fed to a listing that stood at a place
abbrev pub FedBy : ℕ → ℕ → Rows → Progress → List ℕ → List ℕ → Result Progress Stop → Type 0
FedBy k budget R at lent after s = Fed k budget (length lent) (feed k budget R (going at.rows at.used lent)) after s

-- a row with no decisions of its own
unfoldable pub one_row : Meaning.Marks → Rows
one_row K = record { rows = record { marks = K; found_at = 0 } ∷ []; count = 0 }

module _ (k budget r used : ℕ) (lent : List ℕ) where
  -- decisions that are left, and decisions that are not
  pub feed_in : (d : ℕ) (R : Rows) → used + d ≤ budget
      → feed k budget (rows_after d R) (going r used lent) ≡ feed k budget R (going r (used + d) lent)
  unfolding advance
  feed_in d R h =
      feed_after k budget d R (going r used lent)
      ∙ ap
      (λ (b : Bool). feed k budget R (cond b (stopped (refusal 10 0 budget r lent)) (going r (used + d) lent)))
      (le-ltb budget (used + d) h)

  pub feed_out : (d : ℕ) (R : Rows) → budget < used + d
      → feed k budget (rows_after d R) (going r used lent) ≡ stopped (refusal 10 0 budget r lent)
  unfolding advance feed
  feed_out d R h =
      feed_after k budget d R (going r used lent)
      ∙ ap
      (λ (b : Bool). feed k budget R (cond b (stopped (refusal 10 0 budget r lent)) (going r (used + d) lent)))
      (lt-ltb budget (used + d) h)

  module _ (enough : used ≤ budget) where
    -- no row and no decision
    pub feed_nothing : feed k budget no_rows (going r used lent) ≡ going r used lent
    unfolding advance
    feed_nothing =
        feed_none k budget (going r used lent)
        ∙ ap (λ (b : Bool). cond b (stopped (refusal 10 0 budget r lent)) (going r (used + 0) lent))
        (le-ltb budget (used + 0) (omega arith))
        ∙ ap (λ (n : ℕ). going r n lent) (add-zero used)

    -- a row: it doesn't fit, or is written
    pub row_full : (K : Meaning.Marks) → length lent < r * k + k
        → feed k budget (one_row K) (going r used lent) ≡ stopped (refusal 12 0 used r lent)
    unfolding one_row feed feed_rows stop_or
    row_full K h =
        rw (le-ltb budget (used + 0) (omega arith), lt-ltb (length lent) (r * k + k) h)
        (ap (λ (n : ℕ). stopped (refusal 12 0 n r lent)) (add-zero used))

    pub row_put : (K : Meaning.Marks) → r * k + k ≤ length lent
        → feed k budget (one_row K) (going r used lent) ≡ going (suc r) used (written (r * k) K lent)
    unfolding one_row feed feed_rows stop_or advance
    row_put K h =
        rw (le-ltb budget (used + 0) (omega arith), le-ltb (length lent) (r * k + k) h)
        (ap (λ (n : ℕ). going (suc r) n (written (r * k) K lent)) (add-zero used))

-- decisions, and then more of them
module _ (k budget r used : ℕ) (lent : List ℕ) (d e : ℕ) (R : Rows) where
  pub feed_in_twice : used + (d + e) ≤ budget
      → feed k budget (rows_after d (rows_after e R)) (going r used lent) ≡ feed k budget R (going r (used + (d + e)) lent)
  feed_in_twice h =
      feed_in k budget r used lent d (rows_after e R) (omega arith)
      ∙ feed_in k budget r (used + d) lent e R (omega arith)
      ∙ ap (λ (n : ℕ). feed k budget R (going r n lent)) (add_assoc used d e)

  pub feed_out_twice : budget < used + (d + e)
      → feed k budget (rows_after d (rows_after e R)) (going r used lent) ≡ stopped (refusal 10 0 budget r lent)
  feed_out_twice h = go (ltb budget (used + d)) refl
    where
      go : (b : Bool) → ltb budget (used + d) ≡ b
          → feed k budget (rows_after d (rows_after e R)) (going r used lent) ≡ stopped (refusal 10 0 budget r lent)
      go true t = feed_out k budget r used lent d (rows_after e R) (ltb-true budget (used + d) t)
      go false t =
          feed_in k budget r used lent d (rows_after e R) (ltb-false budget (used + d) t)
          ∙ feed_out k budget r (used + d) lent e R (omega arith)

-- each row but a row of no bytes takes one byte at least
pub rows_below : (k r room : ℕ) → (k ≡ 0 → r ≡ 0) → r * k ≤ room → r ≤ room
rows_below zero r room first h = omega (arith, first refl)
rows_below (suc k) r room first h = omega (arith, mul-suc r k)

-- the same room
pub sound_in : (k budget : ℕ) (s : Result Progress Stop) {room other : ℕ} → room ≡ other → Sound k budget room s → Sound k budget other s
sound_in k budget s e h = subst (λ (n : ℕ). Sound k budget n s) e h

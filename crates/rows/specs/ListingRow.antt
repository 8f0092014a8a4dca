-- A question's decisions in a listing with r rows and used decisions, and a set whose questions were all unsatisfiable: a row, or none.
use Rattle.std.specs.Prelude.{ℕ, ◌+◌, ◌-◌, ◌≤◌, ◌<◌, ◌≡◌, Bool, true, false, List}
use Rattle.std.proofs.Math.Path.{sym}
use Rattle.std.proofs.Common.{ap, ◌∙◌, arith}
use Rattle.meaning.specs.Meaning
use Rattle.meaning.specs.Rules.{Question, Answer, Rows, rows_after, no_rows, smaller, row_of, row_unless}
use Rattle.meaning.specs.Calls.{refusal}
use Rattle.laws.specs.Feed.{going, stopped, feed}
use Rattle.sets.specs.Told.{Told}
use Rattle.rows.specs.ListingProgress.{feed_in, feed_out, feed_nothing, one_row}

-- the decisions of a question
module _ (k budget r used : ℕ) (lent : List ℕ) (enough : used ≤ budget) (a : Answer) where
  pub told_used : {b : Bool} {u : ℕ} → Told (budget - used) a b u → used + u ≤ budget
  told_used told = omega (arith, told.fits)

  pub told_in : {b : Bool} {u : ℕ} (R : Rows) → Told (budget - used) a b u
      → feed k budget R (going r (used + u) lent) ≡ feed k budget (rows_after a.count R) (going r used lent)
  told_in R told =
      ap (λ (n : ℕ). feed k budget R (going r (used + n) lent)) (sym told.count)
      ∙ sym (feed_in k budget r used lent a.count R (omega (arith, told.count, told.fits)))

  pub told_out : (R : Rows) → budget - used < a.count
      → stopped (refusal 10 0 budget r lent) ≡ feed k budget (rows_after a.count R) (going r used lent)
  told_out R over = sym (feed_out k budget r used lent a.count R (omega (arith, over)))

module _ (ask : Meaning.Marks → Question → Answer) (k budget r used : ℕ) (lent : List ℕ) (enough : used ≤ budget) where
  -- a set whose questions were all unsatisfiable: a smaller one is safe, or it is the next row
  module _ (K : Meaning.Marks) where
    pub row_spent : budget - used < (smaller ask K).count
        → stopped (refusal 10 0 budget r lent) ≡ feed k budget (row_of ask K) (going r used lent)
    unfolding row_of
    row_spent over = told_out k budget r used lent enough (smaller ask K) _ over

    pub row_smaller : (u : ℕ) → Told (budget - used) (smaller ask K) true u
        → going r (used + u) lent ≡ feed k budget (row_of ask K) (going r used lent)
    unfolding row_of row_unless no_rows
    row_smaller u told =
        sym (feed_nothing k budget r (used + u) lent (told_used k budget r used lent enough (smaller ask K) told))
        ∙ told_in k budget r used lent enough (smaller ask K) no_rows told
        ∙ sym (ap (λ (b : Bool). feed k budget (rows_after (smaller ask K).count (record { rows = row_unless ask b K; count = 0 })) (going r used lent)) told.sat)

    pub row_found : (u : ℕ) → Told (budget - used) (smaller ask K) false u
        → feed k budget (one_row K) (going r (used + u) lent) ≡ feed k budget (row_of ask K) (going r used lent)
    unfolding row_of row_unless one_row
    row_found u told =
        told_in k budget r used lent enough (smaller ask K) (one_row K) told
        ∙ sym (ap (λ (b : Bool). feed k budget (rows_after (smaller ask K).count (record { rows = row_unless ask b K; count = 0 })) (going r used lent)) told.sat)

-- A node, question by question: what each answer makes of a listing with r rows and used decisions.
use Prim.Native.Nat.{ℕ, suc, ◌+◌, ◌-◌, ◌≤◌, ◌<◌}
use Rattle.std.specs.Prelude.{◌≡◌, Bool, List}
use Rattle.std.proofs.Math.Path.{sym, ap}
use Rattle.std.proofs.Common.{◌∙◌}
use Rattle.std.proofs.Math.Bool.{true, false}
use Rattle.std.proofs.Math.Option.{Option, none, some}
use native.Mathlib.Omega.{arith}
use Rattle.meaning.specs.Meaning
use Rattle.meaning.specs.Rules.{Question, Answer, Rows, rows_after, failing, row_of, lowest, with_position, exclude, branch, node_at, node}
use Rattle.meaning.specs.Calls.{refusal}
use Rattle.laws.specs.Feed
use Rattle.laws.specs.Feed.{going, stopped, feed, feed_then}
use Rattle.sets.specs.Told.{Told}
use Rattle.rows.specs.ListingProgress.{feed_nothing}
use Rattle.rows.specs.ListingRow.{told_in, told_out}

module _ (ask : Meaning.Marks → Question → Answer) (k budget r used : ℕ) (lent : List ℕ) (enough : used ≤ budget) where
  module _ (K A : Meaning.Marks) where
    -- no fuel
    pub node_none : (fuel : ℕ) → fuel ≡ 0 → going r used lent ≡ feed k budget (node ask fuel K A) (going r used lent)
    unfolding node
    node_none fuel e =
        sym (ap (λ (n : ℕ). feed k budget (node ask n K A) (going r used lent)) e ∙ feed_nothing k budget r used lent enough)

    -- the questions of K
    module _ (fuel : ℕ) (some_left : 0 < fuel) where
      asked : feed k budget (rows_after (failing ask K).count (node_at ask (failing ask K).sat (node ask (fuel - 1)) K A)) (going r used lent)
          ≡ feed k budget (node ask fuel K A) (going r used lent)
      unfolding node
      asked =
          let more : suc (fuel - 1) ≡ fuel = omega arith in
          ap (λ (n : ℕ). feed k budget (node ask n K A) (going r used lent)) more

      pub node_spent : budget - used < (failing ask K).count
          → stopped (refusal 10 0 budget r lent) ≡ feed k budget (node ask fuel K A) (going r used lent)
      node_spent over = told_out k budget r used lent enough (failing ask K) _ over ∙ asked

      answered : (b : Bool) (u : ℕ) → Told (budget - used) (failing ask K) b u
          → feed k budget (node_at ask b (node ask (fuel - 1)) K A) (going r (used + u) lent)
          ≡ feed k budget (node ask fuel K A) (going r used lent)
      answered b u told =
          told_in k budget r used lent enough (failing ask K) _ told
          ∙ sym (ap (λ (c : Bool). feed k budget (rows_after (failing ask K).count (node_at ask c (node ask (fuel - 1)) K A)) (going r used lent)) told.sat)
          ∙ asked

      -- all are unsatisfiable: perhaps a row
      pub node_row : (u : ℕ) → Told (budget - used) (failing ask K) false u
          → feed k budget (row_of ask K) (going r (used + u) lent) ≡ feed k budget (node ask fuel K A) (going r used lent)
      unfolding node_at
      node_row u told = answered false u told

      -- otherwise the two nodes below
      pub node_below : (u : ℕ) → Told (budget - used) (failing ask K) true u
          → feed k budget (branch ask (lowest 0 A K) (node ask (fuel - 1)) K A) (going r (used + u) lent)
          ≡ feed k budget (node ask fuel K A) (going r used lent)
      unfolding node_at
      node_below u told = answered true u told

    module _ (do_node : Meaning.Marks → Meaning.Marks → Rows) where
      -- no position is in A and not in K
      pub branch_none : none ≡ lowest 0 A K
          → going r used lent ≡ feed k budget (branch ask (lowest 0 A K) do_node K A) (going r used lent)
      unfolding branch
      branch_none e =
          sym (feed_nothing k budget r used lent enough)
          ∙ ap (λ (o : Option ℕ). feed k budget (branch ask o do_node K A) (going r used lent)) e

      -- q is the lowest: the node (K with q, A) and then, where that left the listing, the other
      module _ (q : ℕ) (at : some q ≡ lowest 0 A K) (S : Meaning.Marks) (with_q : S ≡ with_position q K) (to : Feed.Progress)
          (first : to ≡ feed k budget (do_node S A) (going r used lent)) where
        pub branch_then : feed k budget (exclude ask q do_node K A) to
            ≡ feed k budget (branch ask (lowest 0 A K) do_node K A) (going r used lent)
        unfolding branch
        branch_then =
            ap (feed k budget (exclude ask q do_node K A))
            (first ∙ ap (λ (T : Meaning.Marks). feed k budget (do_node T A) (going r used lent)) with_q)
            ∙ sym (feed_then k budget (do_node (with_position q K) A) (exclude ask q do_node K A) (going r used lent))
            ∙ ap (λ (o : Option ℕ). feed k budget (branch ask o do_node K A) (going r used lent)) at

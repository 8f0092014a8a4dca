-- The other side of a branch: Rounds of A without q, and its safety where it contains K.
use Rattle.std.specs.Prelude.{ℕ, ◌+◌, ◌-◌, ◌≤◌, ◌<◌, ◌≡◌, refl, Bool, true, false, List, Ok, Err}
use Rattle.std.proofs.Math.Path.{sym, subst⁻¹}
use Rattle.std.proofs.Common.{ap, ap₂, subst, ◌∙◌, true≢false, arith}
use Rattle.std.specs.declared.result.Result.{Result}
use Rattle.search.specs.declared.Spent.{Spent}
use Rattle.meaning.specs.Meaning
use Rattle.meaning.specs.Rules.{Question, Answer, Counted, Rows, safety, reduced, contains, exclude, node_if_safe, node_unless, rows_after, no_rows}
use Rattle.meaning.specs.Calls.{refusal}
use Rattle.laws.specs.Basics.{true_of_not, false_of_not}
use Rattle.laws.specs.Feed.{going, stopped, feed}
use Rattle.sets.specs.Asks.{marks_at}
use Rattle.sets.specs.declared.rounds.Kept.{Kept}
use Rattle.sets.specs.declared.picks.Judged.{Judged}
use Rattle.sets.specs.Forms.{KeptIs}
use Rattle.sets.specs.Judging.{JudgedIs, JudgedFrom, judged_count, kept_over, from_kept}
use Rattle.rows.specs.ListingProgress.{feed_in, feed_out, feed_nothing, feed_in_twice, feed_out_twice}

-- the set of a judged one, as it was kept
abbrev pub kept_of : Judged → Kept
kept_of r = record { set = r.set; used = r.used }

module _ (ask : Meaning.Marks → Question → Answer) where
  -- where X contains K it is judged, and else it is kept and not safe
  abbrev pub SideIf : Bool → ℕ → ℕ → Counted → Result Judged Spent → Type 0
  SideIf true k left X r = JudgedIs ask k left X r
  SideIf false k left X (Ok r) = KeptIs k left X (Ok (kept_of r)) × (r.safe ≡ false)
  SideIf false k left X (Err s) = left < X.count

  abbrev pub SideIs : ℕ → ℕ → ℕ → Meaning.Marks → Meaning.Marks → Result Judged Spent → Type 0
  SideIs k left q K A r = SideIf (contains (reduced ask q A).marks K) k left (reduced ask q A) r

  -- how the other side comes about
  module _ (k left q : ℕ) (K A : Meaning.Marks) where
    pub side_spent : {s : Spent} → left < (reduced ask q A).count → SideIs k left q K A (Err s)
    side_spent {s} over = go (contains (reduced ask q A).marks K)
      where
        go : (b : Bool) → SideIf b k left (reduced ask q A) (Err s)
        go true = kept_over ask left (reduced ask q A) over
        go false = over

    -- x is what Rounds of A without q kept
    module _ (x : Kept) (is : KeptIs k left (reduced ask q A) (Ok x)) where
      same_set : contains (marks_at k x.set) K ≡ contains (reduced ask q A).marks K
      same_set = ap (λ (S : Meaning.Marks). contains S K) is.0.marks

      pub side_shut : contains (marks_at k x.set) K ≡ false
          → SideIs k left q K A (Ok (record { set = x.set; used = x.used; safe = false }))
      side_shut none =
          subst⁻¹ (λ (b : Bool). SideIf b k left (reduced ask q A) (Ok (record { set = x.set; used = x.used; safe = false })))
          (sym same_set ∙ none)
          ((record { used = is.0.used; marks = is.0.marks }, is.1), refl)

      pub side_judged : (r : Result Judged Spent) → contains (marks_at k x.set) K ≡ true → JudgedFrom ask k left x r
          → SideIs k left q K A r
      side_judged r all_in from =
          subst⁻¹ (λ (b : Bool). SideIf b k left (reduced ask q A) r) (sym same_set ∙ all_in)
          (from_kept ask k left (reduced ask q A) x r is.0 from)

  -- what it makes of a listing with n rows and used decisions
  module _ (k budget q : ℕ) (K A : Meaning.Marks) (n used : ℕ) (lent : List ℕ) (enough : used ≤ budget) where
    module _ (do_node : Meaning.Marks → Meaning.Marks → Rows) where
      pub exclude_spent : {s : Spent} → SideIs k (budget - used) q K A (Err s)
          → stopped (refusal 10 0 budget n lent) ≡ feed k budget (exclude ask q do_node K A) (going n used lent)
      unfolding exclude node_if_safe judged_count
      exclude_spent {s} is = sym (go (contains (reduced ask q A).marks K) is)
        where
          go : (b : Bool) → SideIf b k (budget - used) (reduced ask q A) (Err s)
              → feed k budget (rows_after (reduced ask q A).count (node_if_safe ask b do_node K (reduced ask q A).marks)) (going n used lent)
              ≡ stopped (refusal 10 0 budget n lent)
          go true h =
              feed_out_twice k budget n used lent (reduced ask q A).count (ask (reduced ask q A).marks safety).count _ (omega (arith, h))
          go false h = feed_out k budget n used lent (reduced ask q A).count no_rows (omega (arith, h))

    module _ (r : Judged) (is : SideIs k (budget - used) q K A (Ok r)) where
      -- the decisions were left
      pub exclude_used : used + r.used ≤ budget
      exclude_used = go (contains (reduced ask q A).marks K) is
        where
          go : (b : Bool) → SideIf b k (budget - used) (reduced ask q A) (Ok r) → used + r.used ≤ budget
          go true h = omega (arith, h.0.used, h.1)
          go false h = omega (arith, h.0.0.used, h.0.1)

      module _ (do_node : Meaning.Marks → Meaning.Marks → Rows) where
        -- X does not contain K, or is not safe
        pub exclude_shut : r.safe ≡ false
            → going n (used + r.used) lent ≡ feed k budget (exclude ask q do_node K A) (going n used lent)
        unfolding exclude node_if_safe node_unless judged_count
        exclude_shut out = sym (go (contains (reduced ask q A).marks K) is)
          where
            X : Counted
            X = reduced ask q A

            ended : (d : ℕ) → r.used ≡ d → feed k budget no_rows (going n (used + d) lent) ≡ going n (used + r.used) lent
            ended d u =
                subst (λ (m : ℕ). feed k budget no_rows (going n (used + m) lent) ≡ going n (used + r.used) lent) u
                (feed_nothing k budget n (used + r.used) lent exclude_used)

            go : (b : Bool) → SideIf b k (budget - used) X (Ok r)
                → feed k budget (rows_after X.count (node_if_safe ask b do_node K X.marks)) (going n used lent)
                ≡ going n (used + r.used) lent
            go true h =
                feed_in_twice k budget n used lent X.count (ask X.marks safety).count _ (omega (arith, h.1))
                ∙ ap
                (λ (b : Bool). feed k budget (node_unless ask b do_node K X.marks) (going n (used + judged_count ask X) lent))
                (true_of_not (ask X.marks safety).sat (sym h.0.safe ∙ out))
                ∙ ended (judged_count ask X) h.0.used
            go false h =
                feed_in k budget n used lent X.count no_rows (omega (arith, h.0.1)) ∙ ended X.count h.0.0.used

        -- X contains K, and is safe: its node is next
        pub exclude_open : r.safe ≡ true
            → feed k budget (do_node K (marks_at k r.set)) (going n (used + r.used) lent)
            ≡ feed k budget (exclude ask q do_node K A) (going n used lent)
        unfolding exclude node_if_safe node_unless judged_count
        exclude_open safe = sym (go (contains (reduced ask q A).marks K) is)
          where
            X : Counted
            X = reduced ask q A

            go : (b : Bool) → SideIf b k (budget - used) X (Ok r)
                → feed k budget (rows_after X.count (node_if_safe ask b do_node K X.marks)) (going n used lent)
                ≡ feed k budget (do_node K (marks_at k r.set)) (going n (used + r.used) lent)
            go true h =
                feed_in_twice k budget n used lent X.count (ask X.marks safety).count _ (omega (arith, h.1))
                ∙ ap
                (λ (b : Bool). feed k budget (node_unless ask b do_node K X.marks) (going n (used + judged_count ask X) lent))
                (false_of_not (ask X.marks safety).sat (sym h.0.safe ∙ safe))
                ∙ ap₂ (λ (S : Meaning.Marks) (d : ℕ). feed k budget (do_node K S) (going n (used + d) lent))
                (sym h.0.marks)
                (sym h.0.used)
            go false h = absurd (true≢false (sym safe ∙ h.1))

-- A set with its safety asked, and the one set, one position at a time.
use Rattle.std.specs.Prelude.{ℕ, ◌+◌, ◌-◌, ◌≤◌, ◌<◌, ◌≡◌, Bool, replicate, Ok, Err}
use Rattle.std.proofs.Math.Path.{refl, sym, ap, ap₂, subst}
use Rattle.std.proofs.Common.{◌∙◌, arith}
use Rattle.std.proofs.Math.Bool.{true, not}
use Rattle.std.specs.declared.result.Result.{Result}
use Rattle.search.specs.declared.Spent.{Spent}
use Rattle.meaning.specs.Meaning
use Rattle.meaning.specs.Rules
use Rattle.meaning.specs.Rules.{Question, Answer, Counted, plus, safety, rounds, reduced, reduced_safety, counted_on, shrink, shrink_at, becomes, initiation, initial, initial_cost, largest}
use Rattle.search.specs.declared.Marks.{Marks}
use Rattle.sets.specs.Asks.{marks_at}
use Rattle.sets.specs.declared.rounds.Sifted.{Sifted}
use Rattle.sets.specs.declared.rounds.Kept.{Kept}
use Rattle.sets.specs.declared.picks.Judged.{Judged}
use Rattle.sets.specs.Forms.{KeptAll, KeptIs, SiftedIs, sifted, costs}
use Rattle.sets.specs.Told.{Told}

module _ (ask : Meaning.Marks → Question → Answer) where
  -- the decisions of a set and of its safety
  unfoldable pub judged_count : Counted → ℕ
  judged_count c = c.count + (ask c.marks safety).count

  pub record JudgedAll (k : ℕ) (c : Counted) (r : Judged) : Type 0 where
    pub used : r.used ≡ judged_count c
    pub safe : r.safe ≡ not (ask c.marks safety).sat
    pub marks : marks_at k r.set ≡ c.marks

  -- with so many decisions left: spent exactly if the set and its safety want more
  abbrev pub JudgedIs : ℕ → ℕ → Counted → Result Judged Spent → Type 0
  JudgedIs k left c (Ok r) = JudgedAll k c r × (judged_count c ≤ left)
  JudgedIs k left c (Err s) = left < judged_count c

  -- the safety of a set that was kept
  abbrev pub JudgedFrom : ℕ → ℕ → Kept → Result Judged Spent → Type 0
  JudgedFrom k left x r = JudgedIs k left (record { marks = marks_at k x.set; count = x.used }) r

  -- a budget that the set used up is used up
  pub kept_over : (left : ℕ) (c : Counted) → left < c.count → left < judged_count c
  unfolding judged_count
  kept_over left c h = omega (arith, h)

  -- what was judged is what was kept
  pub from_kept : (k left : ℕ) (c : Counted) (x : Kept) (r : Result Judged Spent) → KeptAll k c x → JudgedFrom k left x r → JudgedIs k left c r
  from_kept k left c x r kept from =
      let same : record { marks = marks_at k x.set; count = x.used } ≡ c =
      ap₂ (λ (S : Meaning.Marks) (n : ℕ). record { marks = S; count = n }) kept.marks kept.used in
      subst (λ (d : Counted). JudgedIs k left d r) same from

  -- X is Rounds of S without q, judged
  abbrev pub Reduced : ℕ → ℕ → ℕ → Meaning.Marks → Result Judged Spent → Type 0
  Reduced k left q S r = JudgedIs k left (reduced ask q S) r

  pub reduced_count : (q : ℕ) (S : Meaning.Marks) → (reduced_safety ask q S).count ≡ judged_count (reduced ask q S)
  unfolding reduced_safety counted_on judged_count
  reduced_count q S = refl

  pub reduced_sat : (q : ℕ) (S : Meaning.Marks) → (reduced_safety ask q S).sat ≡ (ask (reduced ask q S).marks safety).sat
  unfolding reduced_safety counted_on
  reduced_sat q S = refl

  -- how the safety question of a kept set ends
  module _ (k left : ℕ) (x : Kept) (fits : x.used ≤ left) where
    pub from_spent : {s : Spent} → left - x.used < (ask (marks_at k x.set) safety).count → JudgedFrom k left x (Err s)
    unfolding judged_count
    from_spent over = omega (arith, over, fits)

    pub from_told : (b : Bool) (u : ℕ) → Told (left - x.used) (ask (marks_at k x.set) safety) b u
        → JudgedFrom k left x (Ok (record { set = x.set; used = x.used + u; safe = not b }))
    unfolding judged_count
    from_told b u told = (
      record {
        used = ap (λ (n : ℕ). x.used + n) (sym told.count);
        safe = ap not (sym told.sat);
        marks = refl;
      },
      omega (arith, told.count, told.fits, fits),
    )

  -- the largest set, by its two parts
  pub initial_is : (S : Meaning.Marks) → sifted (λ d. ask S (initiation d)) S ≡ initial ask S
  unfolding sifted initial
  initial_is S = refl

  pub initial_cost_is : (S : Meaning.Marks) → Rules.sum (costs (λ d. ask S (initiation d)) S) ≡ initial_cost ask S
  unfolding costs initial_cost
  initial_cost_is S = refl

  module _ (k left : ℕ) (s : Marks) (full : marks_at k s ≡ replicate k true) where
    largest_costs : Rules.sum (costs (λ d. ask (marks_at k s) (initiation d)) (marks_at k s)) ≡ initial_cost ask (replicate k true)
    largest_costs = initial_cost_is (marks_at k s) ∙ ap (initial_cost ask) full

    pub largest_first_over : left < Rules.sum (costs (λ d. ask (marks_at k s) (initiation d)) (marks_at k s)) → left < (largest ask k).count
    unfolding largest plus
    largest_first_over over = omega (arith, largest_costs, over)

    module _ (a : Sifted) (first : SiftedIs (λ d. ask (marks_at k s) (initiation d)) k left (marks_at k s) (Ok a)) where
      pub largest_first_used : a.used ≤ left
      largest_first_used = omega (arith, first.0.used, first.1)

      largest_parts : largest ask k ≡ plus a.used (rounds ask (marks_at k a.set))
      unfolding largest
      largest_parts =
          ap₂ (λ (n : ℕ) (S : Meaning.Marks). plus n (rounds ask S))
          (sym (first.0.used ∙ largest_costs))
          (sym (first.0.marks ∙ initial_is (marks_at k s) ∙ ap (initial ask) full))

      largest_count : (largest ask k).count ≡ a.used + (rounds ask (marks_at k a.set)).count
      unfolding plus
      largest_count = ap (λ (c : Counted). c.count) largest_parts

      pub largest_then_over : left - a.used < (rounds ask (marks_at k a.set)).count → left < (largest ask k).count
      largest_then_over over = omega (arith, largest_count, over)

      module _ (r : Kept) (is : KeptIs k (left - a.used) (rounds ask (marks_at k a.set)) (Ok r)) where
        pub largest_then_used : a.used + r.used ≤ left
        largest_then_used = omega (arith, is.0.used, is.1, largest_first_used)

        pub largest_then : KeptIs k left (largest ask k) (Ok (record { set = r.set; used = a.used + r.used }))
        unfolding plus
        largest_then = (
          record {
            used = omega (arith, largest_count, is.0.used);
            marks = is.0.marks ∙ sym (ap (λ (c : Counted). c.marks) largest_parts);
          },
          omega (arith, largest_count, is.1, largest_first_used),
        )

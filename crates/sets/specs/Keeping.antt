-- The rounds of a set, one round at a time.
use Rattle.std.specs.Prelude.{ℕ, suc, ◌+◌, ◌-◌, ◌≤◌, ◌<◌, ◌≡◌, Bool, Ok}
use Rattle.std.proofs.Math.Path.{refl, sym, ap}
use Rattle.std.proofs.Common.{subst, subst₂, ◌∙◌, arith, add_assoc, zero-add}
use Rattle.std.proofs.Math.Bool.{true, false}
use Rattle.meaning.specs.Meaning
use Rattle.meaning.specs.Rules
use Rattle.meaning.specs.Rules.{Question, Answer, Counted, plus, step, survivors, round_cost, removes, rounds_within, until_none, rounds, size}
use Rattle.search.specs.declared.Marks.{Marks}
use Rattle.sets.specs.Asks.{marks_at}
use Rattle.sets.specs.declared.rounds.Sifted.{Sifted}
use Rattle.sets.specs.Forms.{KeptIs, SiftedIs, sifted, costs, falls}

pub plus_plus : (a b : ℕ) (c : Counted) → plus a (plus b c) ≡ plus (a + b) c
unfolding plus
plus_plus a b c = ap (λ (n : ℕ). record { marks = c.marks; count = n }) (sym (add_assoc a b c.count))

pub plus_none : (c : Counted) → plus 0 c ≡ c
unfolding plus
plus_none c = ap (λ (n : ℕ). record { marks = c.marks; count = n }) (zero-add c.count)

module _ (ask : Meaning.Marks → Question → Answer) where
  -- a round is the sifting by the step questions
  pub survivors_is : (S : Meaning.Marks) → sifted (λ d. ask S (step d)) S ≡ survivors ask S
  unfolding sifted survivors Rules.stays
  survivors_is S = refl

  pub round_cost_is : (S : Meaning.Marks) → Rules.sum (costs (λ d. ask S (step d)) S) ≡ round_cost ask S
  unfolding costs round_cost Rules.step_cost
  round_cost_is S = refl

  pub removes_is : (S : Meaning.Marks) → Rattle.meaning.specs.Clauses.any (λ b. b) (falls (λ d. ask S (step d)) S) ≡ removes ask S
  unfolding falls removes
  removes_is S = refl

  -- u decisions were used, and what is left to do is the rounds of S
  abbrev pub RoundsLeft : Meaning.Marks → ℕ → ℕ → Meaning.Marks → Type 0
  RoundsLeft S₀ u fuel S = rounds ask S₀ ≡ plus u (rounds_within ask fuel S)

  pub rounds_start : (S : Meaning.Marks) (fuel : ℕ) → fuel ≡ suc (size S) → RoundsLeft S 0 fuel S
  unfolding rounds
  rounds_start S fuel e = ap (λ (n : ℕ). rounds_within ask n S) (sym e) ∙ sym (plus_none (rounds_within ask fuel S))

  -- one round, by whether it removes some
  round_removed : (S : Meaning.Marks) (fuel : ℕ) → removes ask S ≡ true
      → rounds_within ask (suc fuel) S ≡ plus (round_cost ask S) (rounds_within ask fuel (survivors ask S))
  unfolding rounds_within until_none
  round_removed S fuel e = ap (λ (b : Bool). until_none ask b (rounds_within ask fuel) S) e

  round_kept : (S : Meaning.Marks) (fuel : ℕ) → removes ask S ≡ false
      → rounds_within ask (suc fuel) S ≡ record { marks = S; count = round_cost ask S }
  unfolding rounds_within until_none
  round_kept S fuel e = ap (λ (b : Bool). until_none ask b (rounds_within ask fuel) S) e

  pub rounds_more : (S₀ S : Meaning.Marks) (u fuel : ℕ) → removes ask S ≡ true → RoundsLeft S₀ u (suc fuel) S
      → RoundsLeft S₀ (u + round_cost ask S) fuel (survivors ask S)
  rounds_more S₀ S u fuel e h = h ∙ ap (plus u) (round_removed S fuel e) ∙ plus_plus u (round_cost ask S) _

  pub rounds_done : (S₀ S : Meaning.Marks) (u fuel : ℕ) → removes ask S ≡ false → RoundsLeft S₀ u (suc fuel) S
      → rounds ask S₀ ≡ record { marks = S; count = u + round_cost ask S }
  unfolding plus
  rounds_done S₀ S u fuel e h = h ∙ ap (plus u) (round_kept S fuel e)

  pub rounds_wants : (S₀ S : Meaning.Marks) (u fuel : ℕ) → RoundsLeft S₀ u (suc fuel) S → u + round_cost ask S ≤ (rounds ask S₀).count
  unfolding plus
  rounds_wants S₀ S u fuel h = go (removes ask S) refl
    where
      go : (b : Bool) → removes ask S ≡ b → u + round_cost ask S ≤ (rounds ask S₀).count
      go true e = omega (arith, ap (λ (c : Counted). c.count) (rounds_more S₀ S u fuel e h))
      go false e = omega (arith, ap (λ (c : Counted). c.count) (rounds_done S₀ S u fuel e h))

-- One round of a loop: u decisions were used, S is what is left of S₀, and r is what the sifting of S gave
module _ (ask : Meaning.Marks → Question → Answer) (k left : ℕ) (S₀ S : Meaning.Marks) (u fuel : ℕ) (fits : u ≤ left)
    (h : RoundsLeft ask S₀ u fuel S) where
  -- no fuel is left: this is never met, and what stands then is S
  pub rounds_out : (s : Marks) → fuel ≡ 0 → marks_at k s ≡ S
      → KeptIs k left (rounds ask S₀) (Ok (record { set = s; used = u }))
  unfolding rounds_within plus
  rounds_out s none_left e =
      let is : rounds ask S₀ ≡ record { marks = S; count = u + 0 } =
      h ∙ ap (λ (n : ℕ). plus u (rounds_within ask n S)) none_left in
      let counted : (rounds ask S₀).count ≡ u + 0 = ap (λ (c : Counted). c.count) is in
      (record { used = omega (arith, counted); marks = e ∙ sym (ap (λ (c : Counted). c.marks) is) }, omega (arith, counted))

  module _ (some_left : 0 < fuel) where
    more_fuel : RoundsLeft ask S₀ u (suc (fuel - 1)) S
    more_fuel = subst (λ (n : ℕ). RoundsLeft ask S₀ u n S) {y = suc (fuel - 1)} (omega arith) h

    pub round_spent : left - u < Rules.sum (costs (λ d. ask S (step d)) S) → left < (rounds ask S₀).count
    round_spent over = omega (arith, over, round_cost_is ask S, rounds_wants ask S₀ S u (fuel - 1) more_fuel)

    module _ (r : Sifted) (is : SiftedIs (λ d. ask S (step d)) k (left - u) S (Ok r)) where
      pub round_used : u + r.used ≤ left
      round_used = omega (arith, is.1, is.0.used)

      pub round_last : (s : Marks) → marks_at k s ≡ S → r.removed ≡ false
          → KeptIs k left (rounds ask S₀) (Ok (record { set = s; used = u + r.used }))
      round_last s e none_fell =
          let done =
          rounds_done ask S₀ S u (fuel - 1) (sym (removes_is ask S) ∙ sym is.0.removed ∙ none_fell) more_fuel in
          let counted : (rounds ask S₀).count ≡ u + round_cost ask S = ap (λ (c : Counted). c.count) done in (
            record {
              used = omega (arith, counted, is.0.used, round_cost_is ask S);
              marks = e ∙ sym (ap (λ (c : Counted). c.marks) done);
            },
            omega (arith, counted, is.1, round_cost_is ask S),
          )

      pub round_again : r.removed ≡ true → RoundsLeft ask S₀ (u + r.used) (fuel - 1) (marks_at k r.set)
      round_again some_fell =
          let more = rounds_more ask S₀ S u (fuel - 1) (sym (removes_is ask S) ∙ sym is.0.removed ∙ some_fell) more_fuel in
          subst₂ (λ (n : ℕ) (X : Meaning.Marks). RoundsLeft ask S₀ (u + n) (fuel - 1) X)
          (sym (is.0.used ∙ round_cost_is ask S))
          (sym (is.0.marks ∙ survivors_is ask S))
          more

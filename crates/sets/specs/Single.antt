-- The one set: the largest set, its safety, and, where it is safe, what shrinking leaves.
use Rattle.std.specs.Prelude.{ℕ, ◌+◌, ◌-◌, ◌≤◌, ◌<◌, ◌≡◌, Bool, true, false, Ok, Err}
use Rattle.std.proofs.Math.Path.{refl, sym, ap, ap₂}
use Rattle.std.proofs.Common.{◌∙◌, arith}
use Rattle.std.proofs.Math.Bool.{cond}
use Rattle.std.proofs.Math.Option.{Option, none, some}
use Rattle.std.specs.declared.result.Result.{Result}
use Rattle.search.specs.declared.Spent.{Spent}
use Rattle.meaning.specs.Meaning
use Rattle.meaning.specs.Rules
use Rattle.meaning.specs.Rules.{Question, Answer, Counted, safety, shrink, largest, largest_safety, counted_on, one, one_if}
use Rattle.sets.specs.Asks.{marks_at}
use Rattle.sets.specs.declared.rounds.Kept.{Kept}
use Rattle.sets.specs.declared.picks.Judged.{Judged}
use Rattle.sets.specs.Forms.{KeptIs}
use Rattle.sets.specs.Judging.{judged_count, JudgedIs}
use Rattle.laws.specs.Basics.{true_of_not, false_of_not}

-- the set that was found, if it is safe
unfoldable pub found_of : ℕ → Judged → Option Meaning.Marks
found_of k r = cond r.safe (some (marks_at k r.set)) none

module _ (ask : Meaning.Marks → Question → Answer) (k left : ℕ) where
  pub record SingleAll (r : Judged) : Type 0 where
    pub used : r.used ≡ (one ask k).count
    pub found : found_of k r ≡ (one ask k).found

  -- with so many decisions left: spent exactly if the call wants more
  abbrev pub SingleIs : Result Judged Spent → Type 0
  SingleIs (Ok r) = SingleAll r × ((one ask k).count ≤ left)
  SingleIs (Err s) = left < (one ask k).count

  -- the largest set and its safety
  safety_count : (largest_safety ask k).count ≡ judged_count ask (largest ask k)
  unfolding largest_safety counted_on judged_count
  safety_count = refl

  safety_sat : (largest_safety ask k).sat ≡ (ask (largest ask k).marks safety).sat
  unfolding largest_safety counted_on
  safety_sat = refl

  one_unsafe : (ask (largest ask k).marks safety).sat ≡ true → one ask k ≡ record { found = none; count = judged_count ask (largest ask k) }
  unfolding one one_if
  one_unsafe e =
      ap₂ (λ (b : Bool) (n : ℕ). one_if ask b n (shrink ask k 0 (largest ask k).marks)) (safety_sat ∙ e) safety_count

  one_safe : (ask (largest ask k).marks safety).sat ≡ false
      → one ask k
      ≡ record {
        found = some (shrink ask k 0 (largest ask k).marks).marks;
        count = judged_count ask (largest ask k) + (shrink ask k 0 (largest ask k).marks).count;
      }
  unfolding one one_if
  one_safe e =
      ap₂ (λ (b : Bool) (n : ℕ). one_if ask b n (shrink ask k 0 (largest ask k).marks)) (safety_sat ∙ e) safety_count

  -- the call counts the largest set and its safety at the least
  one_wants : judged_count ask (largest ask k) ≤ (one ask k).count
  one_wants = go (ask (largest ask k).marks safety).sat refl
    where
      go : (b : Bool) → (ask (largest ask k).marks safety).sat ≡ b → judged_count ask (largest ask k) ≤ (one ask k).count
      go true e = omega (arith, ap (λ (s : Rules.Single). s.count) (one_unsafe e))
      go false e = omega (arith, ap (λ (s : Rules.Single). s.count) (one_safe e))

  pub single_spent : left < judged_count ask (largest ask k) → left < (one ask k).count
  single_spent over = omega (arith, one_wants, over)

  module _ (b : Judged) (is : JudgedIs ask k left (largest ask k) (Ok b)) where
    pub single_fits : b.used ≤ left
    single_fits = omega (arith, is.0.used, is.1)

    pub single_none : b.safe ≡ false → SingleIs (Ok b)
    unfolding found_of
    single_none unsafe =
        let whole = one_unsafe (true_of_not _ (sym is.0.safe ∙ unsafe)) in
        let counted = ap (λ (s : Rules.Single). s.count) whole in (
          record {
            used = is.0.used ∙ sym counted;
            found =
                ap (λ (s : Bool). cond s (some (marks_at k b.set)) none) unsafe ∙ sym (ap (λ (s : Rules.Single). s.found) whole);
          },
          omega (arith, counted, is.1),
        )

    module _ (safe : b.safe ≡ true) where
      whole : one ask k
          ≡ record {
            found = some (shrink ask k 0 (marks_at k b.set)).marks;
            count = b.used + (shrink ask k 0 (marks_at k b.set)).count;
          }
      whole =
          one_safe (false_of_not _ (sym is.0.safe ∙ safe))
          ∙ ap₂
          (λ (S : Meaning.Marks) (n : ℕ). record { found = some (shrink ask k 0 S).marks; count = n + (shrink ask k 0 S).count })
          (sym is.0.marks)
          (sym is.0.used)

      counted : (one ask k).count ≡ b.used + (shrink ask k 0 (marks_at k b.set)).count
      counted = ap (λ (s : Rules.Single). s.count) whole

      pub single_then_spent : left - b.used < (shrink ask k 0 (marks_at k b.set)).count → left < (one ask k).count
      single_then_spent over = omega (arith, counted, over, single_fits)

      module _ (r : Kept) (shrunk : KeptIs k (left - b.used) (shrink ask k 0 (marks_at k b.set)) (Ok r)) where
        pub single_then_used : b.used + r.used ≤ left
        single_then_used = omega (arith, shrunk.0.used, shrunk.1, single_fits)

        pub single_some : SingleIs (Ok (record { set = r.set; used = b.used + r.used; safe = true }))
        unfolding found_of
        single_some = (
          record {
            used = omega (arith, counted, shrunk.0.used);
            found = ap some shrunk.0.marks ∙ sym (ap (λ (s : Rules.Single). s.found) whole);
          },
          omega (arith, counted, shrunk.1, single_fits),
        )

-- One position more of a sifting, over any answers.
use Rattle.std.specs.Prelude.{ℕ, suc, ◌+◌, ◌≤◌, ◌<◌, ◌≡◌, refl, Bool, ◌&&◌, ◌||◌, length, take, Ok}
use Rattle.std.proofs.Math.Path.{sym, ap, ap₂, subst⁻¹}
use Rattle.std.proofs.Common.{◌∙◌, arith, add-zero, add-one}
use Rattle.std.proofs.Math.Bool.{true, false, not, cond, or-true, or-false}
use Rattle.std.proofs.Math.ListN.{get_or, set}
use Rattle.std.proofs.Math.Seq.{set-get_or}
use Rattle.meaning.specs.Meaning
use Rattle.meaning.specs.Meaning.{has}
use Rattle.meaning.specs.Clauses.{any}
use Rattle.meaning.specs.Rules.{Answer, sum, without}
use Rattle.laws.specs.Sets.{each_at, length_each}
use Rattle.search.specs.declared.Marks.{Marks}
use Rattle.sets.specs.Asks.{marks_at}
use Rattle.sets.specs.declared.rounds.Sifted.{Sifted}
use Rattle.sets.specs.Upto.{upto, upto_start, upto_end, upto_next, upto_here, sum_next, sum_upto, any_next, any_all_taken, sum_all_taken}
use Rattle.sets.specs.Forms.{sifted, costs, falls, SiftedUpto, SiftedIs}

module _ (ask_at : ℕ → Answer) (k left : ℕ) (S : Meaning.Marks) where
  sifted_long : length (sifted ask_at S) ≡ length S
  unfolding sifted
  sifted_long = length_each (λ d b. b && not (ask_at d).sat) 0 S

  costs_long : length (costs ask_at S) ≡ length S
  unfolding costs
  costs_long = length_each (λ d b. cond b (ask_at d).count 0) 0 S

  falls_long : length (falls ask_at S) ≡ length S
  unfolding falls
  falls_long = length_each (λ d b. b && (ask_at d).sat) 0 S

  -- before the first position
  pub sift_start : (s : Marks) → marks_at k s ≡ S
      → SiftedUpto ask_at k left S 0 (record { set = s; used = 0; removed = false })
  unfolding sum any
  sift_start s e =
      record {
        used = refl;
        fits = omega arith;
        marks = e ∙ sym (upto_start (sifted ask_at S) S sifted_long);
        removed = refl;
      }

  module _ (d : ℕ) (here : d < length S) (r : Sifted) (done : SiftedUpto ask_at k left S d r) where
    -- what the next position adds
    cost_next : sum (take (suc d) (costs ask_at S)) ≡ r.used + cond (has S d) (ask_at d).count 0
    unfolding costs
    cost_next =
        sum_next (costs ask_at S) d (subst⁻¹ (λ (n : ℕ). d < n) costs_long here)
        ∙ ap₂ (λ (a b : ℕ). a + b) (sym done.used) (each_at (λ e b. cond b (ask_at e).count 0) S d)

    fall_next : any (λ b. b) (take (suc d) (falls ask_at S)) ≡ (r.removed || (has S d && (ask_at d).sat))
    unfolding falls
    fall_next =
        any_next (falls ask_at S) d (subst⁻¹ (λ (n : ℕ). d < n) falls_long here)
        ∙ ap₂ (λ (a b : Bool). a || b) (sym done.removed) (each_at (λ e b. b && (ask_at e).sat) S d)

    mark_next : set (marks_at k r.set) d (has S d && not (ask_at d).sat) ≡ upto (suc d) (sifted ask_at S) S
    unfolding sifted
    mark_next =
        ap₂ (λ (l : Meaning.Marks) (b : Bool). set l d b) done.marks (sym (each_at (λ e b. b && not (ask_at e).sat) S d))
        ∙ upto_next (sifted ask_at S) S sifted_long d false here

    -- a mark that stays as it is
    unchanged : set (marks_at k r.set) d (has S d) ≡ marks_at k r.set
    unfolding has
    unchanged =
        ap (λ (b : Bool). set (marks_at k r.set) d b)
        (sym
        (ap (λ (l : Meaning.Marks). get_or l d false) done.marks
        ∙ upto_here d (sifted ask_at S) S false (subst⁻¹ (λ (n : ℕ). d ≤ n) sifted_long (omega arith))))
        ∙ set-get_or (marks_at k r.set) d false

    pub sift_skip : has S d ≡ false → SiftedUpto ask_at k left S (suc d) r
    sift_skip out =
        record {
          used = sym (cost_next ∙ ap (λ (b : Bool). r.used + cond b (ask_at d).count 0) out ∙ add-zero r.used);
          fits = done.fits;
          marks =
              sym unchanged ∙ ap (λ (b : Bool). set (marks_at k r.set) d b) (out ∙ sym (ap (λ (b : Bool). b && not (ask_at d).sat) out))
              ∙ mark_next;
          removed = sym (fall_next ∙ ap (λ (b : Bool). r.removed || (b && (ask_at d).sat)) out ∙ or-false r.removed);
        }

    -- the decisions and marks of a position that was asked
    cost_asked : has S d ≡ true → sum (take (suc d) (costs ask_at S)) ≡ r.used + (ask_at d).count
    cost_asked in_set = cost_next ∙ ap (λ (b : Bool). r.used + cond b (ask_at d).count 0) in_set

    fall_asked : has S d ≡ true → any (λ b. b) (take (suc d) (falls ask_at S)) ≡ (r.removed || (ask_at d).sat)
    fall_asked in_set = fall_next ∙ ap (λ (b : Bool). r.removed || (b && (ask_at d).sat)) in_set

    mark_asked : (b : Bool) → has S d ≡ true → (ask_at d).sat ≡ b → set (marks_at k r.set) d (not b) ≡ upto (suc d) (sifted ask_at S) S
    mark_asked b in_set sat =
        ap₂ (λ (a c : Bool). set (marks_at k r.set) d (a && not c)) (sym in_set) (sym sat) ∙ mark_next

    used_next : (u : ℕ) → has S d ≡ true → (ask_at d).count ≡ u → r.used + u ≡ sum (take (suc d) (costs ask_at S))
    used_next u in_set e = ap (λ (n : ℕ). r.used + n) (sym e) ∙ sym (cost_asked in_set)

    pub sift_fall : (s : Marks) (u : ℕ) → marks_at k s ≡ without d (marks_at k r.set) → has S d ≡ true → (ask_at d).sat ≡ true
        → (ask_at d).count ≡ u → r.used + u ≤ left
        → SiftedUpto ask_at k left S (suc d) (record { set = s; used = r.used + u; removed = true })
    unfolding without
    sift_fall s u e in_set sat count fits =
        record {
          used = used_next u in_set count;
          fits = fits;
          marks = e ∙ mark_asked true in_set sat;
          removed = sym (fall_asked in_set ∙ ap (λ (b : Bool). r.removed || b) sat ∙ or-true r.removed);
        }

    pub sift_stay : (u : ℕ) → has S d ≡ true → (ask_at d).sat ≡ false → (ask_at d).count ≡ u → r.used + u ≤ left
        → SiftedUpto ask_at k left S (suc d) (record { set = r.set; used = r.used + u; removed = r.removed })
    sift_stay u in_set sat count fits =
        record {
          used = used_next u in_set count;
          fits = fits;
          marks = sym unchanged ∙ ap (λ (b : Bool). set (marks_at k r.set) d b) in_set ∙ mark_asked false in_set sat;
          removed = sym (fall_asked in_set ∙ ap (λ (b : Bool). r.removed || b) sat ∙ or-false r.removed);
        }

    pub sift_spent : has S d ≡ true → left < r.used + (ask_at d).count → left < sum (costs ask_at S)
    sift_spent in_set over = omega (arith, cost_asked in_set, sum_upto (costs ask_at S) (suc d))

  -- one position more, counted
  pub next_upto : (d : ℕ) (r : Sifted) → SiftedUpto ask_at k left S (suc d) r → SiftedUpto ask_at k left S (d + 1) r
  next_upto d r next = subst⁻¹ (λ (n : ℕ). SiftedUpto ask_at k left S n r) (add-one d) next

  -- after the last position
  pub sift_end : (r : Sifted) → SiftedUpto ask_at k left S (length S) r → SiftedIs ask_at k left S (Ok r)
  sift_end r done =
      let whole = sum_all_taken (costs ask_at S) (length S) costs_long in (
        record {
          used = done.used ∙ whole;
          marks = done.marks ∙ upto_end (sifted ask_at S) S sifted_long;
          removed = done.removed ∙ any_all_taken (falls ask_at S) (length S) falls_long;
        },
        omega (arith, done.used, done.fits, whole),
      )

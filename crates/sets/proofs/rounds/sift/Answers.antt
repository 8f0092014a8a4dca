use Prim.Native.Nat.{ℕ, ◌≤◌, ◌<◌}
use mathlib.Core.Path.{◌≡◌, refl, subst, subst⁻¹}
use native.Mathlib.Omega.{arith}
use lib.ListN.{length}
use Rattle.sets.specs.Asks.{marks_at}
use Rattle.search.specs.declared.Marks.{Marks}
use Rattle.sets.specs.Sifting.{sift_start, sift_end, sift_skip, next_upto}
use Rattle.sets.specs.Forms.{DoneUpto, way_asks}
use Rattle.sets.specs.SetLaws.{marks_long, has_on}
use borrow.Author.Rules.{rules}
use Rattle.sets.proofs.rounds.sift.Goals as goal
use Rattle.sets.proofs.rounds.sift.Goals.{then-s-d+in_ok-r, else-s-d}

here : (k : ℕ) (s : Marks) (d : ℕ) → length s.on ≡ 128 → k ≤ 128 → d < k → d < length (marks_at k s)
here k s d e h below = subst⁻¹ (λ (n : ℕ). d < n) (marks_long k s e h) below

pub loop-d-init : goal.loop-d-init
loop-d-init c = sift_start _ _ _ _ _ refl

pub loop-d-preserved : goal.loop-d-preserved
loop-d-preserved c =
    let a = c.args in
    let below : c.loop-d.d < a.of.now.problem.k = omega (arith, c.loop-d-test.true) in
    elim c.if-s-d.branch [
      | then-s-d+in_ok-r w ↦ search rules
      | else-s-d w ↦
          rw w.r-is
          (next_upto (way_asks _ a.of.now.problem a.s a.way) _ _ _ c.loop-d.d _
          (sift_skip (way_asks _ a.of.now.problem a.s a.way) _ _ _ _ (here a.of.now.problem.k a.s c.loop-d.d (search rules) a.of.now.placed.k_in below) _ c.loop-d.invariant
          (has_on a.of.now.problem.k a.s c.loop-d.d _ below w.if-s-d.false)))
    ]

pub returns : goal.returns
returns c =
    let a = c.args in
    let long = marks_long a.of.now.problem.k a.s (search rules) c.args.of.now.placed.k_in in
    let at : c.loop-d.d ≡ length (marks_at a.of.now.problem.k a.s) = omega (arith, long) in
    sift_end _ _ _ _ _ (subst (λ (n : ℕ). DoneUpto a.of.now.file.now a.of.now.problem a.s a.way a.left n c.loop-d.r) at c.loop-d.invariant)

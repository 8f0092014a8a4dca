-- `sets::rounds::sift_at` meets its contract: each return is one law of a sifting. Assumes nothing.
use Prim.Native.Nat.{ℕ, ◌≤◌, ◌<◌}
use native.Mathlib.Omega.{arith}
use mathlib.Core.Path.{◌≡◌, refl, ap, subst⁻¹}
use Rattle.std.specs.Prelude.{Ok}
use Rattle.std.proofs.lemmas.Result.{err_from_is_err_and}
use lib.ListN.{length}
use Rattle.sets.specs.Asks.{marks_at, asks}
use Rattle.search.specs.declared.Marks.{Marks}
use Rattle.sets.specs.Forms.{way_asks}
use Rattle.sets.specs.SetLaws.{marks_long, has_on, less_at}
use Rattle.sets.specs.Told.{told_by, told_as}
use Rattle.sets.specs.Sifting.{sift_skip, sift_fall, sift_stay, sift_spent}
use borrow.Author.Rules.{rules}
use Rattle.sets.proofs.rounds.sift_at.Goals as goal

long : (k : ℕ) (s : Marks) (d : ℕ) → length s.on ≡ 128 → k ≤ 128 → d < k → d < length (marks_at k s)
long k s d e h below = subst⁻¹ (λ (n : ℕ). d < n) (marks_long k s e h) below

pub returns-then-not-s-d : goal.returns-then-not-s-d
returns-then-not-s-d c =
    let a = c.args in
    let pre = c.requires in
    sift_skip (way_asks _ a.of.now.problem a.s a.way) _ _ _ _ (long a.of.now.problem.k a.s a.d (search rules) a.of.now.placed.k_in pre.d_lt_k) _ pre.done_upto
    (has_on a.of.now.problem.k a.s a.d _ pre.d_lt_k c.if-not-s-d.true)

pub overflow_add-result : goal.overflow_add-result
unfolding asks marks_at
overflow_add-result c =
    let pre = c.requires in
    let told = told_by _ _ c.in_ok-a.ensures (ap Ok c.in-Yes.is) in
    omega (arith, told.fits, c.ranges.left, pre.done_upto.fits)

pub overflow_add-result-in-No : goal.overflow_add-result-in-No
unfolding asks marks_at
overflow_add-result-in-No c =
    let pre = c.requires in
    let told = told_by _ _ c.in_ok-a.ensures (ap Ok c.in-No.is) in
    omega (arith, told.fits, c.ranges.left, pre.done_upto.fits)

pub returns-in_err-a : goal.returns-in_err-a
unfolding asks marks_at
returns-in_err-a c =
    let a = c.args in
    let pre = c.requires in
    let over = told_as _ a.of.now.problem a.s a.way a.d _ c.question.ensures c.in_err-a.ensures refl in
    let p = err_from_is_err_and c.from_residual.result c.from_residual.ensures.1 in
    rw p.1
    (sift_spent (way_asks _ a.of.now.problem a.s a.way) a.of.now.problem.k a.left _ a.d
    (long a.of.now.problem.k a.s a.d (search rules) a.of.now.placed.k_in pre.d_lt_k) a.done pre.done_upto
    (has_on a.of.now.problem.k a.s a.d _ pre.d_lt_k c.if-not-s-d.false)
    (omega (arith, over, pre.done_upto.fits)))

pub returns-in-Yes : goal.returns-in-Yes
unfolding asks marks_at
returns-in-Yes c =
    let a = c.args in
    let pre = c.requires in
    let told =
    told_as _ a.of.now.problem a.s a.way a.d _ c.question.ensures
    c.in_ok-a.ensures
    (ap Ok c.in-Yes.is) in
    sift_fall (way_asks _ a.of.now.problem a.s a.way) a.of.now.problem.k a.left _ a.d
    (long a.of.now.problem.k a.s a.d (search (rules, c.well_formed.1.1.0)) a.of.now.placed.k_in pre.d_lt_k) a.done pre.done_upto
    c.without.result
    _
    (less_at _ _ _ _ pre.d_lt_k c.without.ensures)
    (has_on a.of.now.problem.k a.s a.d _ pre.d_lt_k c.if-not-s-d.false)
    told.sat
    told.count
    (omega (arith, told.fits, pre.done_upto.fits))

pub returns-in-No : goal.returns-in-No
unfolding asks marks_at
returns-in-No c =
    let a = c.args in
    let pre = c.requires in
    let told =
    told_as _ a.of.now.problem a.s a.way a.d _ c.question.ensures
    c.in_ok-a.ensures
    (ap Ok c.in-No.is) in
    sift_stay (way_asks _ a.of.now.problem a.s a.way) a.of.now.problem.k a.left _ a.d
    (long a.of.now.problem.k a.s a.d (search rules) a.of.now.placed.k_in pre.d_lt_k) a.done pre.done_upto
    _
    (has_on a.of.now.problem.k a.s a.d _ pre.d_lt_k c.if-not-s-d.false)
    told.sat
    told.count
    (omega (arith, told.fits, pre.done_upto.fits))

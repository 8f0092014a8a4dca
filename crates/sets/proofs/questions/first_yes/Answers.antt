use Prim.Native.Nat.{ℕ, ◌<◌}
use native.Mathlib.Omega.{arith}
use mathlib.Core.Path.{refl, ap, subst⁻¹, ◌∙◌}
use lib.ListN.{length}
use borrow.Author.Rules.{rules}
use Rattle.std.specs.Prelude.{Ok, Err}
use Rattle.std.proofs.lemmas.Result.{err_from_is_err_and}
use Rattle.sets.specs.Asks.{marks_at}
use Rattle.sets.specs.SetLaws.{marks_long}
use Rattle.sets.specs.Told.{told_by}
use Rattle.sets.specs.ListingFound.{ends_not_no, after_fits}
use Rattle.sets.specs.ListingFirst.{first_start, first_on, first_ends, first_none}
use Rattle.sets.proofs.questions.first_yes.Goals.{Start}
use Rattle.sets.proofs.questions.first_yes.Goals as goal

here : (s : Start) (d : ℕ) → d < s.args.of.now.problem.k → d < length (marks_at s.args.of.now.problem.k s.args.s)
here s d h = subst⁻¹ (λ (n : ℕ). d < n) (marks_long s.args.of.now.problem.k s.args.s (search rules) s.args.of.now.placed.k_in) h

pub loop-d-init : goal.loop-d-init
loop-d-init c = (first_start _ _, omega arith)

pub returns-in_err-a : goal.returns-in_err-a
returns-in_err-a c =
    let p = err_from_is_err_and c.from_residual.result c.from_residual.ensures.1 in
    rw p.1
    (first_ends _ _ c.args.left c.loop-d.used c.loop-d.d (here (goal.at.returns-in_err-a c).Start c.loop-d.d (omega arith)) c.loop-d.invariant.1 c.loop-d.invariant.0
    (Err c.in_err-a.field-0.0) tt (told_by _ _ c.in_err-a.ensures refl))

pub after-requires : goal.after-requires
after-requires c = after_fits c.args.left c.loop-d.used _ c.loop-d.invariant.1 (omega (arith, c.ranges.left)) c.in_ok-a.ensures

pub returns-in_default : goal.returns-in_default
returns-in_default c =
    ap Ok c.after.ensures ∙
    first_ends _ _ c.args.left c.loop-d.used c.loop-d.d (here (goal.at.returns-in_default c).Start c.loop-d.d (omega arith)) c.loop-d.invariant.1 c.loop-d.invariant.0
    (Ok c.in_ok-a.a) (ends_not_no _ c.in_default.not-No) (told_by _ _ c.in_ok-a.ensures refl)

pub overflow_add-used : goal.overflow_add-used
overflow_add-used c =
    let told = told_by _ _ c.in_ok-a.ensures (ap Ok c.in-No.is) in
    omega (arith, told.fits, c.loop-d.invariant.1, c.ranges.left)

pub loop-d-preserved : goal.loop-d-preserved
loop-d-preserved c =
    let told = told_by _ _ c.in_ok-a.ensures (ap Ok c.in-No.is) in (
      first_on _ _ c.args.left c.loop-d.used c.loop-d.d (here (goal.at.loop-d-preserved c).Start c.loop-d.d (omega arith)) c.loop-d.invariant.1 c.loop-d.invariant.0 _ told,
      omega (arith, told.fits),
    )

pub returns : goal.returns
returns c =
    let a = c.args in
    let long = marks_long a.of.now.problem.k a.s (search rules) c.args.of.now.placed.k_in in
    first_none _ _ a.left _ c.loop-d.d (omega (arith, long)) c.loop-d.invariant.1 c.loop-d.invariant.0

-- The cycle of calls {branch, exclude, node}: each return is one law of a listing.
use Prim.Native.Nat.{ℕ, ◌+◌, ◌*◌, ◌-◌, ◌<◌}
use native.Mathlib.Omega.{arith}
use native.Mathlib.Nat.{pos_of_ne-zero}
use mathlib.Core.Path.{◌≡◌, refl, ap, ◌∙◌}
use Rattle.std.proofs.lemmas.Result.{err_from_is_err_and}
use Rattle.laws.specs.Basics.{true_of_not, false_of_not}
use Rattle.std.specs.Prelude.{Ok, Err}
use mathlib.Core.Bool.{Bool}
use mathlib.Core.List.{List}
use Rattle.meaning.specs.Rules
use Rattle.laws.specs.Feed
use Rattle.sets.specs.Asks.{asks_of}
use Rattle.sets.specs.SetLaws.{more_at}
use Rattle.sets.specs.Told.{Told, told_by}
use Rattle.rows.specs.declared.found.Progress.{Progress}
use Rattle.rows.specs.declared.found.Stop.{Stop}
use Rattle.rows.specs.declared.found.Stop.TheVariants.{Spent, Full}
use Rattle.rows.specs.ListingProgress.{Ready, progress_of, on_after, sound_in}
use Rattle.branches.specs.ListingSide.{exclude_used, exclude_spent, exclude_shut, exclude_open}
use Rattle.branches.specs.ListingNode.{node_none, node_spent, node_row, node_below, branch_none, branch_then}
use Rattle.branches.proofs.nodes.+branch_exclude_node.Goals as goal

-- a listing that has ended stays as it is
halted : (k budget : ℕ) (R : Rules.Rows) (lent : List ℕ) (s : Stop)
    → progress_of budget lent (Err s) ≡ Feed.feed k budget R (progress_of budget lent (Err s))
unfolding Feed.feed
halted k budget R lent (Spent r) = refl
halted k budget R lent (Full at) = refl

-- what a node goes on with after its questions
on : (k budget : ℕ) (lent : List ℕ) (at : Progress) → Ready k budget lent at → {a : Rules.Answer} {b : Bool} {u : ℕ}
    → Told (budget - at.used) a b u → Ready k budget lent (on_after at u)
on k budget lent at ready told = record {
  in_budget = omega (arith, told.fits, ready.in_budget);
  fits = ready.fits;
  first = ready.first;
}

pub branch-returns-in_default : goal.branch-returns-in_default
branch-returns-in_default t c = record {
  is = branch_none _ _ _ _ _ _ c.requires.in_budget _ _ _ c.in_default.ensures.0;
  sound = (c.requires.in_budget, c.requires.fits);
}

pub branch-returns-in_err-on : goal.branch-returns-in_err-on
branch-returns-in_err-on t c =
    let p = err_from_is_err_and c.from_residual.result c.from_residual.ensures.1 in
    rw (p.1, p.2)
    (record {
      is =
          halted _ _ _ _ _
          ∙ branch_then (asks_of c.args.of.now) _ _ _ _ _ c.requires.in_budget _ _ _ c.in-Some.q c.in-Some.ensures.0 _ (more_at _ _ _ _ c.in-Some.ensures.1 c.with.ensures) _
          c.in_err-on.ensures.is;
      sound = tt;
    })

pub branch-returns : goal.branch-returns
branch-returns t c = record {
  is =
      c.exclude.ensures.is
      ∙ branch_then (asks_of c.args.of.now) _ _ _ _ _ c.requires.in_budget _ _ _ c.in-Some.q c.in-Some.ensures.0 _ (more_at _ _ _ _ c.in-Some.ensures.1 c.with.ensures) _
      c.in_ok-on.ensures.is;
  sound = sound_in _ _ c.exclude.result c.node.auto.rows c.exclude.ensures.sound;
}

pub exclude-returns-in_default : goal.exclude-returns-in_default
exclude-returns-in_default t c = record {
  is = exclude_spent (asks_of c.args.of.now) _ _ _ _ _ _ _ _ c.requires.ready.in_budget _ c.in_default.ensures;
  sound = tt;
}

pub exclude-returns-then-not-x : goal.exclude-returns-then-not-x
exclude-returns-then-not-x t c =
    rw c.after-on.ensures
    (record {
      is =
          exclude_shut (asks_of c.args.of.now) _ _ _ _ _ _ _ _ c.requires.ready.in_budget _ c.in-Ok.ensures _
          (false_of_not _ c.if-not-x.true);
      sound = (
        exclude_used (asks_of c.args.of.now) _ _ _ _ _ c.args.at.rows _ c.args.rows.now c.requires.ready.in_budget _ c.in-Ok.ensures,
        c.requires.ready.fits,
      );
    })

pub exclude-returns : goal.exclude-returns
exclude-returns t c =
    let fed = rw c.after-on.ensures at c.node.ensures in
    record {
      is =
          fed.is
          ∙ exclude_open (asks_of c.args.of.now) _ _ _ _ _ _ _ _ c.requires.ready.in_budget _ c.in-Ok.ensures _
          (true_of_not _ c.if-not-x.false);
      sound = fed.sound;
    }

pub node-returns-then-fuel-eq0 : goal.node-returns-then-fuel-eq0
node-returns-then-fuel-eq0 t c = record {
  is = node_none _ _ _ _ _ _ c.requires.in_budget _ _ _ c.if-fuel-eq0.true;
  sound = (c.requires.in_budget, c.requires.fits);
}

pub node-after-requires : goal.node-after-requires
node-after-requires t c =
    let told = told_by _ _ c.in-Ok-No.ensures (ap Ok c.in-Ok-No.field-0-is) in
    omega (arith, told.fits, c.ranges.budget, c.requires.in_budget)

pub node-row_of-requires : goal.node-row_of-requires
node-row_of-requires t c =
    rw c.after.ensures (on _ _ _ _ c.requires (told_by _ _ c.in-Ok-No.ensures (ap Ok c.in-Ok-No.field-0-is)))

pub node-after-requires-in-Ok-Yes : goal.node-after-requires-in-Ok-Yes
node-after-requires-in-Ok-Yes t c =
    let told = told_by _ _ c.in-Ok-Yes.ensures (ap Ok c.in-Ok-Yes.field-0-is) in
    omega (arith, told.fits, c.ranges.budget, c.requires.in_budget)

pub node-branch-of-requires : goal.node-branch-of-requires
node-branch-of-requires t c =
    let some_left = pos_of_ne-zero c.if-fuel-eq0.false in
    let less : 3 * (c.args.fuel - 1) + 2 < t = omega (arith, c.decreases) in
    let told = told_by _ _ c.in-Ok-Yes.ensures (ap Ok c.in-Ok-Yes.field-0-is) in
    (less, rw c.after-in-Ok-Yes.ensures (on _ _ _ _ c.requires told))

pub node-returns-in-Err : goal.node-returns-in-Err
node-returns-in-Err t c = record {
  is =
      node_spent _ _ _ _ _ _ c.requires.in_budget _ _ _ (pos_of_ne-zero c.if-fuel-eq0.false)
      (told_by _ _ c.in-Err.ensures refl);
  sound = tt;
}

pub node-returns-in-Ok-No : goal.node-returns-in-Ok-No
node-returns-in-Ok-No t c =
    let fed = rw c.after.ensures at c.row_of.ensures in
    record {
      is =
          fed.is
          ∙ node_row _ _ _ _ _ _ c.requires.in_budget _ _ _ (pos_of_ne-zero c.if-fuel-eq0.false) _
          (told_by _ _ c.in-Ok-No.ensures (ap Ok c.in-Ok-No.field-0-is));
      sound = fed.sound;
    }

pub node-returns-in-Ok-Yes : goal.node-returns-in-Ok-Yes
node-returns-in-Ok-Yes t c =
    let fed = rw c.after-in-Ok-Yes.ensures at c.branch-of.ensures in
    record {
      is =
          fed.is
          ∙ node_below _ _ _ _ _ _ c.requires.in_budget _ _ _ (pos_of_ne-zero c.if-fuel-eq0.false) _
          (told_by _ _ c.in-Ok-Yes.ensures (ap Ok c.in-Ok-Yes.field-0-is));
      sound = fed.sound;
    }

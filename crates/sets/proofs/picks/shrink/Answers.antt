use Prim.Native.Nat.{◌<◌}
use native.Mathlib.Omega.{arith}
use borrow.Author.Rules.{rules}
use Rattle.sets.specs.Asks.{asks_of}
use Rattle.sets.specs.SetLaws.{has_on}
use Rattle.sets.specs.Shrinking.{shrink_start, shrunk_end, shrink_skip, shrunk_upto}
use Rattle.sets.proofs.picks.shrink.Goals as goal
use Rattle.sets.proofs.picks.shrink.Goals.{then-r-q+in_ok-r, else-r-q}

pub loop-q-init : goal.loop-q-init
loop-q-init c = shrink_start _ _ _ _

pub loop-q-preserved : goal.loop-q-preserved
loop-q-preserved c =
    let below : c.loop-q.q < c.args.of.now.problem.k = omega (arith, c.loop-q-test.true) in
    elim c.if-r-q.branch [
      | then-r-q+in_ok-r w ↦ search rules
      | else-r-q w ↦
          rw w.r-is
          (shrunk_upto (asks_of c.args.of.now) _ _ _ _ c.loop-q.q
          (shrink_skip (asks_of c.args.of.now) _ _ _ _ below c.loop-q.r c.loop-q.invariant (has_on _ _ _ _ below w.if-r-q.false)))
    ]

pub returns : goal.returns
returns c = shrunk_end _ _ _ _ _ c.loop-q.q (omega arith) c.loop-q.invariant

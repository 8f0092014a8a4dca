use Prim.Native.Nat.{ℕ, suc, ◌+◌, ◌-◌}
use native.Mathlib.Omega.{arith}
use mathlib.Core.Path.{◌≡◌, refl, ap, subst, ◌∙◌}
use Rattle.std.proofs.lemmas.Result.{err_from_is_err_and}
use Rattle.laws.specs.Basics.{true_of_not, false_of_not}
use Rattle.sets.specs.Asks.{marks_at, asks_of}
use Rattle.sets.specs.Keeping.{RoundsLeft, rounds_start, rounds_out, round_spent, round_used, round_last, round_again}
use Rattle.sets.proofs.rounds.rounds.Goals as goal

pub loop-init : goal.loop-init
unfolding marks_at
loop-init c =
    let all : c.count-fuel.result + 1 - 0 ≡ suc c.count-fuel.result = omega arith in
    (rounds_start _ _ _ (all ∙ ap suc c.count-fuel.ensures.0), omega arith)

pub returns-in_err-r : goal.returns-in_err-r
returns-in_err-r c =
    let p = err_from_is_err_and c.from_residual.result c.from_residual.ensures.1 in
    rw p.1 (round_spent (asks_of c.args.of.now) c.args.of.now.problem.k _ _ _ _ _ c.loop.invariant.1 c.loop.invariant.0 (omega arith) c.in_err-r.ensures)

pub returns-then-not-r : goal.returns-then-not-r
returns-then-not-r c =
    round_last _ _ _ _ _ _ _ c.loop.invariant.1 c.loop.invariant.0 (omega arith) _ c.in_ok-r.ensures _ refl (false_of_not _ c.if-not-r.true)

pub loop-preserved : goal.loop-preserved
loop-preserved c =
    let less : c.count-fuel.result + 1 - c.loop.counter - 1 ≡ c.count-fuel.result + 1 - (c.loop.counter + 1) = omega arith in (
      subst
          (λ (n : ℕ). RoundsLeft (asks_of c.args.of.now) (marks_at c.args.of.now.problem.k c.args.s) (c.loop.used + c.in_ok-r.r.used) n (marks_at c.args.of.now.problem.k c.in_ok-r.r.set))
          less
          (round_again _ _ _ _ _ _ _ c.loop.invariant.1 c.loop.invariant.0 (omega arith) _ c.in_ok-r.ensures (true_of_not _ c.if-not-r.false)),
      round_used _ _ _ _ _ _ _ c.loop.invariant.1 c.loop.invariant.0 (omega arith) _ c.in_ok-r.ensures,
    )

pub returns : goal.returns
returns c = rounds_out _ _ _ _ _ _ _ c.loop.invariant.1 c.loop.invariant.0 _ (omega arith) refl

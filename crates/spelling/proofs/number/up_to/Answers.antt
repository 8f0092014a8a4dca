use Prim.Native.Nat.{◌+◌, ◌*◌}
use mathlib.Core.Path.{refl, sym, ◌∙◌}
use native.Mathlib.Omega.{arith}
use lib.ListN.{drop}
use borrow.Author.Tests.{lt-ltb, le-ltb}
use Rattle.spelling.specs.Numbers.{value, value_after}
use Rattle.spelling.specs.WordLaws.{value_step, value_end, value_grows}
use Rattle.spelling.proofs.number.up_to.Goals as goal

pub loop-b-init : goal.loop-b-init
unfolding value
loop-b-init c = (omega arith, refl)

pub returns-then-from-v : goal.returns-then-from-v
returns-then-from-v c =
    let l = c.loop-b in
    let a = c.args in
    let d = c.from.result in
    let rest = drop (l.b-index + 1) a.word.now in
    let e = l.invariant.1 ∙ value_step a.word.now l.b-index (omega arith) l.v d (c.from.ensures ∙ c.saturating_sub.ensures) in
    sym (rw (e, lt-ltb a.most (value_after (10 * l.v + d) rest) (omega (arith, value_grows (10 * l.v + d) rest))))

pub loop-b-preserved : goal.loop-b-preserved
loop-b-preserved c =
    let l = c.loop-b in (
      omega arith,
      l.invariant.1 ∙ value_step c.args.word.now l.b-index (omega arith) l.v c.from.result (c.from.ensures ∙ c.saturating_sub.ensures),
    )

pub returns : goal.returns
returns c =
    let l = c.loop-b in
    sym (rw (l.invariant.1 ∙ value_end c.args.word.now l.b-index (omega arith) l.v, le-ltb _ _ l.invariant.0))

use Prim.Native.Nat.{ℕ}
use mathlib.Core.Path.{ap, ◌∙◌}
use native.Mathlib.Omega.{arith}
use lib.Dec.{eqb}
use mathlib.Core.List.{List}
use Rattle.meaning.specs.Circuit.{var}
use Rattle.meaning.specs.Lines.{decimal}
use Rattle.lines.specs.Numbers.{worth}
use Rattle.text_faults.specs.Places.{first_number}
use Rattle.text_faults.specs.Definers.{walk_start, walk_done, walk_found, walk_on}
use Rattle.text_faults.proofs.definers.definer.Goals as goal

pub loop-p-init : goal.loop-p-init
loop-p-init c =
    walk_start _ _ _ _

pub returns-then-same_variable : goal.returns-then-same_variable
unfolding first_number worth
returns-then-same_variable c =
    let t = c.args.text.now in
    walk_found t _ c.args.from c.args.to c.loop-p.p c.loop-p.invariant c.loop-p-test.true c.requires c.same_variable.result
    (c.same_variable.ensures ∙ ap (λ (l : List ℕ). eqb (var (worth c.args.x.now)) (var (decimal l))) c.number_at-y.ensures.digits) c.if-same_variable.true

pub loop-p-preserved : goal.loop-p-preserved
unfolding first_number worth
loop-p-preserved c =
    let t = c.args.text.now in
    walk_on t _ c.args.from c.args.to c.loop-p.p c.loop-p.invariant c.loop-p-test.true c.requires c.same_variable.result
    (c.same_variable.ensures ∙ ap (λ (l : List ℕ). eqb (var (worth c.args.x.now)) (var (decimal l))) c.number_at-y.ensures.digits) c.if-same_variable.false
    _ c.after_line-p.ensures.0 c.after_line-p.ensures.2

pub returns : goal.returns
returns c =
    walk_done c.loop-p.invariant (λ h. omega (arith, h))

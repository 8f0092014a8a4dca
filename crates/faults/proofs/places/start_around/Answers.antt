use native.Mathlib.Omega.{arith}
use native.Mathlib.Numerals.{unary_clauses}
use Prim.Native.Nat.{ℕ, ◌+◌, ◌-◌}
use lib.ListN.{length}
use mathlib.Core.Path.{◌≡◌, sym, refl, ap, ◌∙◌}
use Rattle.format.specs.Section.{next_record}
use Rattle.faults.specs.Places.{start_around, walk}
use Rattle.faults.specs.PlaceLaws.{spot_after, walk_ended, walk_reached, walk_more, walk_out}
use Rattle.faults.proofs.places.start_around.Goals.{After-word_at}
use Rattle.faults.proofs.places.start_around.Goals as goal

-- where the next record starts
next_is : (c : After-word_at)
    → c.loop-passed.s.at + 4 + c.word_at.result
    ≡ next_record c.args.file.now c.loop-passed.s.at
unfolding next_record
next_is c = ap (λ (n : ℕ). c.loop-passed.s.at + 4 + n) c.word_at.ensures.0

pub loop-passed-init : goal.loop-passed-init
unfolding start_around
loop-passed-init c = (omega arith, simp unary_clauses refl)

pub returns-then-file-s : goal.returns-then-file-s
returns-then-file-s c =
    let l = c.loop-passed in
    sym (l.invariant.1 ∙ walk_ended _ _ _ _ (omega arith) c.if-file-s.true)

pub returns-then-place-next : goal.returns-then-place-next
returns-then-place-next c =
    let l = c.loop-passed in
    sym (l.invariant.1 ∙ walk_reached _ _ _ _ (omega arith) c.if-file-s.false (omega (arith, next_is (goal.at.returns-then-place-next c).After-word_at)))

pub loop-passed-preserved : goal.loop-passed-preserved
loop-passed-preserved c =
    let l = c.loop-passed in
    let a = c.args in
    let left = length a.file.now - l._passed in
    let less : length a.file.now - (l._passed + 1) ≡ left - 1 = omega arith in
    let e = next_is (goal.at.loop-passed-preserved c).After-word_at in (
      omega (arith, c.position_after.ensures.1),
      rw less
          (l.invariant.1
          ∙ walk_more _ _ _ left (omega arith) c.if-file-s.false (omega (arith, e))
          ∙ ap (walk (left - 1) a.file.now a.place) (spot_after a.file.now _ _ _ e c.position_after.ensures.0)),
    )

pub returns : goal.returns
returns c =
    let l = c.loop-passed in
    sym (l.invariant.1 ∙ walk_out _ _ _ _ (omega arith))

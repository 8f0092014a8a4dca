use Prim.Native.Nat.{ℕ, ◌+◌, ◌-◌, ◌≤◌, ◌<◌}
use native.Mathlib.Omega.{arith}
use mathlib.Core.Path.{◌≡◌, sym, ap, ap₂, ◌∙◌, subst₂}
use lib.ListN.{length}
use Rattle.meaning.specs.File.{two_at}
use Rattle.format.specs.Section.{next_record, Inside}
use Rattle.search.specs.Places.{place}
use Rattle.passes.proofs.PlaceLaws.{inside_more}
use Rattle.search.proofs.QuestionLaws.{place_more, place_done}
use Rattle.search.proofs.places.record_at.Goals.{In-loop}
use Rattle.search.proofs.places.record_at.Goals as goal

-- the record that is passed
fits : (c : In-loop)
    → c.loop.at + 4 + two_at c.args.file.now c.loop.at
    ≤ length c.args.file.now
unfolding next_record
fits c = (inside_more c.args.file.now c.loop.at (c.args.count - c.loop.counter) (omega arith) c.loop.invariant.0).0

pub overflow_add-at : goal.overflow_add-at
overflow_add-at c = omega (arith, fits c)

pub two_at-requires : goal.two_at-requires
two_at-requires c = omega (arith, fits c)

pub overflow_add-at-in-loop : goal.overflow_add-at-in-loop
overflow_add-at-in-loop c = omega (arith, fits (goal.at.overflow_add-at-in-loop c).In-loop, c.two_at.ensures.0)

pub loop-preserved : goal.loop-preserved
unfolding next_record
loop-preserved c =
    let file = c.args.file.now in
    let left = c.args.count - c.loop.counter in
    let some : 0 < left = omega arith in
    let here : next_record file c.loop.at ≡ c.loop.at + 4 + c.two_at.result = ap (λ (k : ℕ). c.loop.at + 4 + k) (sym c.two_at.ensures.0) in
    let less : left - 1 ≡ c.args.count - (c.loop.counter + 1) = omega arith in (
      subst₂ (λ (k n : ℕ). Inside file k n) here less (inside_more file c.loop.at left some c.loop.invariant.0).1,
      c.loop.invariant.1 ∙ place_more file c.loop.at left some ∙ ap₂ (place file) here less,
    )

pub returns : goal.returns
returns c = sym (c.loop.invariant.1 ∙ place_done c.args.file.now c.loop.at (c.args.count - c.loop.counter) (omega arith))

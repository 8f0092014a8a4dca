use Rattle.std.proofs.Common.{arith, ap, ◌∙◌, ◌≡◌, ℕ, ◌<◌, min, length, take, length-take}
use Rattle.std.specs.Prelude.{Option}
use Rattle.std.specs.Option.{unwrap_or}
use Rattle.text.specs.Numbers.{decimal}
use Rattle.text.specs.PageLaws.{appends_is}
use Rattle.text.specs.Pages.{left_all}
use Rattle.text.specs.Filled.{number_more, other_more, filled_done}
use Rattle.text.proofs.Taken.{taken, first_three}
use Rattle.text.proofs.page.Page.put_filled.Goals as goal
use Rattle.text.proofs.page.Page.put_filled.Goals.{then-byte-eq35, else-byte-eq35}

pub loop-byte-init : goal.loop-byte-init
loop-byte-init c =
    let ns = c.args.numbers.now in
    let three : c.iter-left.result.rest.now ≡ take (min (length ns) 3) ns = c.iter-left.ensures.rest ∙ ap (λ (n : ℕ). take n ns) c.min.ensures in
    rw (three, first_three ns 0 (omega arith), first_three ns 1 (omega arith), first_three ns 2 (omega arith))
    (omega (arith, length-take {A = ℕ}), left_all _ _)

pub loop-byte-preserved : goal.loop-byte-preserved
loop-byte-preserved c =
    let l = c.loop-byte in
    let left = l.invariant.1 in
    let more : l.byte-index < length c.args.form.now = omega arith in
    elim c.if-byte-eq35.branch [
      | then-byte-eq35 w ↦
          let t = taken _ _ _ w.next.ensures.steps l.invariant.0 in
          let number = w.unwrap_or.ensures ∙ ap (λ (o : Option ℕ). unwrap_or o 0) w.copied.ensures ∙ t.first in
          rw (w.self-is, w.left-is, t.second, t.third, t.fourth) (
            t.few,
            record {
              bytes = number_more _ _ _ _ _ _ l.byte-index _ _ _ _ _ more w.if-byte-eq35.true left.bytes (appends_is (ap decimal number) w.put_number.ensures.bytes);
              lent = w.put_number.ensures.lent ∙ left.lent;
            },
          )
      | else-byte-eq35 w ↦ rw (w.self-is, w.left-is) (
        l.invariant.0,
        record {
          bytes = other_more _ _ _ _ _ _ l.byte-index _ _ _ _ _ more w.if-byte-eq35.false left.bytes w.put.ensures.bytes;
          lent = w.put.ensures.lent ∙ left.lent;
        },
      )
    ]

pub returns : goal.returns
returns c =
    let left = c.loop-byte.invariant.1 in
    record { bytes = filled_done _ c.loop-byte.byte-index _ _ _ (omega arith) left.bytes; lent = left.lent }

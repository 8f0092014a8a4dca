use Rattle.lines.specs.PastLaws.{number_missing, number_last, number_before, number_past}
use Rattle.lines.proofs.line.past_number.Goals as goal
use Rattle.lines.proofs.line.past_number.Goals.{then-end-at-via-then-end-at, then-end-at-via-else-end-at+then-text-end, then-end-at-via-else-end-at+else-text-end+then-text-end-2}

pub returns-then-end-at : goal.returns-then-end-at
returns-then-end-at c =
    let x = c.number_at-x.ensures in
    elim c.then-end-at.branch [
      | then-end-at-via-then-end-at w ↦ number_missing _ _ _ c.number_at-x.result x.digits w.if-end-at.true c.requires
      | then-end-at-via-else-end-at+then-text-end w ↦ number_last _ _ _ c.number_at-x.result x.digits w.if-text-end.true
      | then-end-at-via-else-end-at+else-text-end+then-text-end-2 w ↦ number_before _ _ _ c.number_at-x.result x.digits w.if-text-end.false w.if-text-end-2.true
    ]

pub returns : goal.returns
returns c =
    let x = c.number_at-x.ensures in
    number_past _ _ _ c.number_at-x.result x.digits c.if-text-end.false c.if-end-at.false c.if-text-end-2.false

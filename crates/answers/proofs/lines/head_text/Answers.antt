-- `answers::lines::head_text` makes the definition's tests, one after another. Assumes nothing.
use mathlib.Core.Path.{sym, ap, ◌∙◌}
use mathlib.Core.Bool.{Bool}
use native.Mathlib.Omega.{arith}
use Rattle.text.specs.PageLaws.{holds_none}
use Rattle.answers.specs.Lines.{has_head, head_text}
use Rattle.answers.specs.LineLaws.{kept_is}
use Rattle.answers.proofs.lines.head_text.Goals as goal
use Rattle.answers.proofs.lines.head_text.Goals.{then-marks-via-then-marks, then-marks-via-else-marks+then-not-has_head}

pub returns-then-marks : goal.returns-then-marks
unfolding head_text
returns-then-marks c =
    elim c.then-marks.branch [
      | then-marks-via-then-marks w ↦ rw w.if-marks.true (holds_none _)
      | then-marks-via-else-marks+then-not-has_head w ↦
          let a = c.args in
          let h = w.has_head.ensures ∙ ap (λ (b : Bool). has_head b a.r.number) w.is_list.ensures in
          rw (w.if-marks.false, sym h ∙ w.if-not-has_head.true) (holds_none _)
    ]

pub returns : goal.returns
unfolding head_text
returns c =
    let a = c.args in
    let h = c.has_head.ensures ∙ ap (λ (b : Bool). has_head b a.r.number) c.is_list.ensures in
    let kept =
    kept_is c.k_of-k.result c.row_end-end.result c.count_marks.result a.lent.now c.count_marks.ensures (omega (arith, c.row_end-end.ensures)) in
    rw (c.if-marks.false, sym h ∙ c.if-not-has_head.false, sym c.k_of-k.ensures, sym kept) c.answer_line.ensures

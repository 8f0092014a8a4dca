use Rattle.sections.specs.Rows.{form_of}
use Rattle.sections.specs.LineOf.{width_plain, width_none, width_start, width_neither}
use Rattle.sections.proofs.line.width_of.Goals as goal
use Rattle.sections.proofs.line.width_of.Goals.{else-form-via-then-form+else-is_some-2, else-form-via-else-form}

pub returns-then-is_some : goal.returns-then-is_some
unfolding form_of
returns-then-is_some c = width_plain _ _ _ _ c.line_past.ensures.0 _ c.is_some.ensures c.if-is_some.true

pub returns-then-is_some-2 : goal.returns-then-is_some-2
unfolding form_of
returns-then-is_some-2 c =
    width_start _ _ _ _ c.line_past.ensures.0 _ c.is_some.ensures c.if-form.true _ c.line_past-then-form.ensures.0 _ c.is_some-then-form.ensures c.if-is_some-2.true

pub returns : goal.returns
unfolding form_of
returns c =
    elim c.else-form.branch [
      | else-form-via-then-form+else-is_some-2 w ↦
          width_neither _ _ _ _ c.line_past.ensures.0 _ c.is_some.ensures w.if-form.true _ w.line_past-then-form.ensures.0 _ w.is_some-then-form.ensures c.if-is_some.false w.if-is_some-2.false
      | else-form-via-else-form w ↦ width_none _ _ _ _ c.line_past.ensures.0 _ c.is_some.ensures c.if-is_some.false w.if-form.false
    ]

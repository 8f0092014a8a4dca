use mathlib.Core.Path.{sym, ◌∙◌}
use Rattle.circuit_text.specs.Header.{four_in, not_starts, not_numbers, header_over, header_made}
use Rattle.circuit_text.proofs.header.read_header.Goals as goal

pub returns-then-not-starts-clause-header : goal.returns-then-not-starts-clause-header
returns-then-not-starts-clause-header c = sym (not_starts _ (sym c.starts.ensures ∙ c.if-not-starts.true))

pub width_of-requires : goal.width_of-requires
width_of-requires c = four_in _ (sym c.starts.ensures ∙ c.if-not-starts.false)

pub returns-in_err-width-clause-header : goal.returns-in_err-width-clause-header
returns-in_err-width-clause-header c =
    rw c.from_residual.ensures (not_numbers _ (sym c.starts.ensures ∙ c.if-not-starts.false) c.in_err-width.ensures)

pub number_of-m-requires-clause-in_bounds : goal.number_of-m-requires-clause-in_bounds
number_of-m-requires-clause-in_bounds c = four_in _ (sym c.starts.ensures ∙ c.if-not-starts.false)

pub number_of-i-requires-clause-in_bounds : goal.number_of-i-requires-clause-in_bounds
number_of-i-requires-clause-in_bounds c = four_in _ (sym c.starts.ensures ∙ c.if-not-starts.false)

pub number_of-l-requires-clause-in_bounds : goal.number_of-l-requires-clause-in_bounds
number_of-l-requires-clause-in_bounds c = four_in _ (sym c.starts.ensures ∙ c.if-not-starts.false)

pub number_of-o-requires-clause-in_bounds : goal.number_of-o-requires-clause-in_bounds
number_of-o-requires-clause-in_bounds c = four_in _ (sym c.starts.ensures ∙ c.if-not-starts.false)

pub number_of-a-requires-clause-in_bounds : goal.number_of-a-requires-clause-in_bounds
number_of-a-requires-clause-in_bounds c = four_in _ (sym c.starts.ensures ∙ c.if-not-starts.false)

pub number_of-b-requires-clause-in_bounds : goal.number_of-b-requires-clause-in_bounds
number_of-b-requires-clause-in_bounds c = four_in _ (sym c.starts.ensures ∙ c.if-not-starts.false)

pub number_of-c-requires-clause-in_bounds : goal.number_of-c-requires-clause-in_bounds
number_of-c-requires-clause-in_bounds c = four_in _ (sym c.starts.ensures ∙ c.if-not-starts.false)

pub number_of-j-requires-clause-in_bounds : goal.number_of-j-requires-clause-in_bounds
number_of-j-requires-clause-in_bounds c = four_in _ (sym c.starts.ensures ∙ c.if-not-starts.false)

pub number_of-f-requires-clause-in_bounds : goal.number_of-f-requires-clause-in_bounds
number_of-f-requires-clause-in_bounds c = four_in _ (sym c.starts.ensures ∙ c.if-not-starts.false)

pub returns-then-is_gt-clause-header : goal.returns-then-is_gt-clause-header
returns-then-is_gt-clause-header c =
    header_over _ (sym c.starts.ensures ∙ c.if-not-starts.false) _ c.in_ok-width.ensures _ _ _ _ _ _ _ _ _
    c.number_of-m.ensures.number c.number_of-i.ensures.number c.number_of-l.ensures.number c.number_of-o.ensures.number
    c.number_of-a.ensures.number c.number_of-b.ensures.number c.number_of-c.ensures.number c.number_of-j.ensures.number
    c.number_of-f.ensures.number
    0 _ c.compare.ensures (sym c.is_gt.ensures ∙ c.if-is_gt.true)

pub next_line-requires-clause-at_in_bounds : goal.next_line-requires-clause-at_in_bounds
next_line-requires-clause-at_in_bounds c = four_in _ (sym c.starts.ensures ∙ c.if-not-starts.false)

pub returns-clause-header : goal.returns-clause-header
returns-clause-header c =
    header_made _ (sym c.starts.ensures ∙ c.if-not-starts.false) _ c.in_ok-width.ensures _ _ _ _ _ _ _ _ _
    c.number_of-m.ensures.number c.number_of-i.ensures.number c.number_of-l.ensures.number c.number_of-o.ensures.number
    c.number_of-a.ensures.number c.number_of-b.ensures.number c.number_of-c.ensures.number c.number_of-j.ensures.number
    c.number_of-f.ensures.number _
    c.next_line.ensures.0 c.next_line.ensures.1 _ c.compare.ensures (sym c.is_gt.ensures ∙ c.if-is_gt.false)

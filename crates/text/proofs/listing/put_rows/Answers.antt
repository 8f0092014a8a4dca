use Rattle.std.proofs.Common.{arith, ◌≤◌, ◌∙◌, length}
use native.Mathlib.Numerals.{unary_clauses}
use Rattle.text.specs.Pages.{left_all}
use Rattle.text.specs.LineLaws.{rows_done}
use Rattle.text.proofs.Rows.{row_more}
use Rattle.text.proofs.listing.put_rows.Goals as goal

pub loop-done-init : goal.loop-done-init
loop-done-init c = (omega arith, simp unary_clauses (left_all _ _))

pub loop-done-preserved : goal.loop-done-preserved
loop-done-preserved c =
    let l = c.loop-done in
    let left = l.invariant.1 in
    let start : l.start ≤ length c.args.marks.now = l.invariant.0 in (
      omega arith,
      record {
        bytes = row_more _ _ _ _ _ _ l.start _ _ l._done _ _ _ (omega arith) start c.row_end-end.ensures left.bytes c.put_row.ensures.bytes;
        lent = c.put_row.ensures.lent ∙ left.lent;
      },
    )

pub returns : goal.returns
returns c =
    let left = c.loop-done.invariant.1 in
    record { bytes = rows_done _ _ _ (omega arith) left.bytes; lent = left.lent }

-- `told::refusals::refusal_line` meets its contract: its head, the clause around its place, and then what is wrong. Assumes nothing.
use Rattle.std.proofs.Common.{rules}
use borrow.Author.Tests.{lt-ltb, le-ltb}
use Rattle.problem.specs.Answers.{report_of}
use Rattle.text.specs.Pages.{Puts, puts_both, puts_out}
use Rattle.told.specs.Refusals.{refusal_line}
use Rattle.told.proofs.refusals.refusal_line.Goals as goal
use Rattle.told.proofs.refusals.refusal_line.Goals.{then-r-lt9, else-r-lt9}

pub returns : goal.returns
unfolding refusal_line
returns c =
    let a = c.args in
    let wrote : Puts (refusal_line a.job a.file.now (report_of a.r) a.budget a.space) c.new-page.result c.if-r-lt9.page =
    elim c.if-r-lt9.branch [
      | then-r-lt9 w ↦
          rw (w.page-is, lt-ltb a.r.number 9 w.if-r-lt9.true, ← w.fault_of.ensures)
          (puts_both c.put_head.ensures (puts_both c.put_where.ensures w.put_fault.ensures))
      | else-r-lt9 w ↦
          rw (w.page-is, le-ltb a.r.number 9 w.if-r-lt9.false)
          (puts_both c.put_head.ensures (puts_both c.put_where.ensures w.put_reason.ensures))
    ] in
    puts_out c.new-page.ensures wrote (search (rules, wrote.lent, c.new-page.ensures.lent))

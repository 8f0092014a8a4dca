-- `told::answers::answer_line` meets its contract: by the job. Assumes nothing.
use Rattle.std.proofs.Common.{rules}
use Rattle.problem.specs.Answers.{report_of}
use Rattle.text.specs.Pages.{Puts, puts_out}
use Rattle.told.specs.Answers.{answer_line}
use Rattle.told.proofs.answers.answer_line.Goals as goal
use Rattle.told.proofs.answers.answer_line.Goals.{in-Check, in-Largest, in-One, in-List}

pub returns : goal.returns
unfolding answer_line
returns c =
    let wrote : Puts (answer_line c.args.job (report_of c.args.r) c.args.k c.args.kept) c.new-page.result c.match-job.page =
    elim c.match-job.branch [
      | in-Check w ↦ rw (w.page-is, w.in-Check.is) w.put_filled.ensures
      | in-Largest w ↦ rw (w.page-is, w.in-Largest.is) w.put_filled-in-Largest.ensures
      | in-One w ↦ rw (w.page-is, w.in-One.is) w.put_filled-in-One.ensures
      | in-List w ↦ rw (w.page-is, w.in-List.is) w.put_list_line.ensures
    ] in
    puts_out c.new-page.ensures wrote (search (rules, wrote.lent, c.new-page.ensures.lent))

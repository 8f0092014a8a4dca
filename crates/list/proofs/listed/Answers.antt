-- `list::listed` meets its contract: the text of what the listing answers. Assumes nothing.
use Rattle.meaning.specs.Calls.{list_call}
use Rattle.problem.specs.Answers.{report_of}
use Rattle.text.specs.Listing.{program_text}
use Rattle.text.specs.PageLaws.{holds_is}
use Rattle.text.specs.ListingLaws.{text_of_answer}
use Rattle.list.proofs.listed.Goals as goal

pub returns : goal.returns
unfolding program_text
returns c =
    let l = c in
    let k = l in
    let a = k.args in
    holds_is
    (text_of_answer list_call a.file.now a.rows.now l.list_all-report.new.rows 1000000 (report_of l.list_all-report.result) (report_of k.check-k.result)
    l.list_all-report.ensures
    k.check-k.ensures)
    c.listing_text.ensures

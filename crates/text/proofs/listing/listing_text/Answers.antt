-- `text::listing::listing_text` meets its contract: by the number. Assumes nothing.
use Rattle.std.proofs.Common.{rules, arith}
use Rattle.problem.specs.Answers.{report_of}
use Rattle.text.specs.Listing.{refused, listing_text}
use Rattle.text.specs.ListingLaws.{if_complete, if_spent, if_none, if_room, if_refused}
use Rattle.text.specs.Pages.{Puts, puts_is, puts_out}
use Rattle.text.proofs.listing.listing_text.Goals as goal
use Rattle.text.proofs.listing.listing_text.Goals.{in-0, in-10, in-11, in-12, in_default}

pub returns : goal.returns
unfolding refused
returns c =
    let r = report_of c.args.r in
    let k = c.args.k in
    let marks = c.args.marks.now in
    let wrote : Puts (listing_text r k marks) c.new-page.result c.match-r.page =
    elim c.match-r.branch [
      | in-0 w ↦ rw w.page-is (puts_is (if_complete r k marks w.in-0.is) w.put_listed.ensures)
      | in-10 w ↦ rw w.page-is (puts_is (if_spent r k marks (λ e. omega arith) w.in-10.is) w.put_listed-in-10.ensures)
      | in-11 w ↦ rw w.page-is (puts_is (if_none r k marks (λ e. omega arith) (λ e. omega arith) w.in-11.is) w.put_listed-in-11.ensures)
      | in-12 w ↦
          rw w.page-is (puts_is (if_room r k marks (λ e. omega arith) (λ e. omega arith) (λ e. omega arith) w.in-12.is) w.put_listed-in-12.ensures)
      | in_default w ↦
          rw w.page-is (puts_is (if_refused r k marks (λ e. omega arith) (λ e. omega arith) (λ e. omega arith) (λ e. omega arith)) w.put_line.ensures)
    ] in
    puts_out c.new-page.ensures wrote (search (rules, wrote.lent, c.new-page.ensures.lent))

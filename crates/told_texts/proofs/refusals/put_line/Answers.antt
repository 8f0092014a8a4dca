-- `told_texts::refusals::put_line` meets its contract: the line is the part of the text up to its end. Assumes nothing.
use native.Mathlib.Omega.{arith}
use mathlib.Core.Path.{ap}
use lib.ListN.{length}
use borrow.Author.Tests.{le-leb, lt-leb}
use Rattle.text.specs.Pages.{puts_none, puts_is, puts_both}
use Rattle.usage.specs.Texts.{shown}
use Rattle.text_faults.specs.LimitLaws.{line_part}
use Rattle.told_texts.specs.Refusals.{line_shown}
use Rattle.told_texts.proofs.refusals.put_line.Goals as goal

pub returns-then-text-place : goal.returns-then-text-place
unfolding line_shown
returns-then-text-place c =
    rw (le-leb (length c.args.text.now) c.args.place c.if-text-place.true) (puts_none _)

pub returns : goal.returns
unfolding line_shown
returns c =
    let t = c.args.text.now in
    let line = line_part t c.args.place c.line_end-end.result c.line_end-end.ensures in
    rw (lt-leb (length t) c.args.place (omega (arith, c.if-text-place.false)))
    (puts_both c.put_all.ensures (puts_both (puts_is (ap shown line) c.put_word.ensures) c.put_all-2.ensures))

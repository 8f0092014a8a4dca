use native.Mathlib.Omega.{arith}
use Rattle.std.proofs.Common.{◌≡◌, rules}
use Rattle.std.proofs.lemmas.Slice.Eq.{text_from_reads}
use Rattle.text.specs.Ascii.{ascii}
use Rattle.words.specs.Orders.{take_option}
use Rattle.words.proofs.taking.take_option.Goals as goal

pub returns-in-45 : goal.returns-in-45
unfolding take_option
returns-in-45 c =
    let e : c.args.word.now ≡ ascii "--marks" = text_from_reads c.args.word.now (ascii "--marks") (omega arith) (search rules) in
    rw e c.take_marks.ensures

pub returns-in-45-2 : goal.returns-in-45-2
unfolding take_option
returns-in-45-2 c =
    let e : c.args.word.now ≡ ascii "--lemmas" = text_from_reads c.args.word.now (ascii "--lemmas") (omega arith) (search rules) in
    rw e c.take_asked.ensures

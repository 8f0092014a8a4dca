-- `usage::texts::put_word` meets its contract: a word of at most 200 bytes, or the first 200 of it. Assumes nothing.
use mathlib.Core.Path.{sym, ap}
use mathlib.Core.List.{map}
use native.Mathlib.Omega.{arith}
use lib.Seq.{take_all, length-take-le}
use Rattle.text.specs.Pages.{puts_is}
use Rattle.usage.specs.Texts.{shown_byte, shown}
use Rattle.usage.proofs.texts.put_word.Goals as goal

pub returns-then-word-le200 : goal.returns-then-word-le200
unfolding shown
returns-then-word-le200 c =
    let t = c in
    let w = t.args.word.now in
    puts_is (ap (map shown_byte) (sym (take_all 200 w t.if-word-le200.true))) c.put_shown.ensures

pub slice_bounds-put_shown-end : goal.slice_bounds-put_shown-end
slice_bounds-put_shown-end c =
    let e = c in
    sym (length-take-le 200 e.args.word.now (omega arith))

pub returns : goal.returns
unfolding shown
returns c = c.put_shown-2.ensures

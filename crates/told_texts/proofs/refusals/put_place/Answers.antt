-- `told_texts::refusals::put_place` meets its contract: part after part. Assumes nothing.
use Prim.Native.Nat.{ℕ}
use mathlib.Core.Path.{ap}
use Rattle.text.specs.Ascii.{ascii}
use Rattle.text.specs.Filled.{filled}
use Rattle.text.specs.Pages.{puts_is, puts_both}
use Rattle.told_texts.specs.Refusals.{place_text}
use Rattle.told_texts.proofs.refusals.put_place.Goals as goal

pub returns : goal.returns
unfolding place_text
returns c =
    let head =
    puts_is (ap (λ (n : ℕ). filled (ascii "refusal 13 at byte #, line # of the ") c.args.place n 0) c.line_number.ensures)
    c.put_filled.ensures in
    puts_both head (puts_both c.put_all.ensures c.put_word.ensures)

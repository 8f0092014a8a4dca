use Rattle.std.proofs.Common.{arith, ap, ℕ, [], ◌∷◌}
use Rattle.text.specs.LineLaws.{mapped_more}
use Rattle.text.specs.Pages.{puts_is, puts_both}
use Rattle.usage.specs.Texts.{shown_byte}
use Rattle.usage.proofs.texts.put_shown.Goals as goal

pub loop-byte-preserved : goal.loop-byte-preserved
loop-byte-preserved c =
    let shown = ap (λ (n : ℕ). n ∷ []) c.shown_byte.ensures in
    puts_is (mapped_more shown_byte _ c.loop-byte.byte-index (omega arith)) (puts_both c.loop-byte.invariant (puts_is shown c.put.ensures))

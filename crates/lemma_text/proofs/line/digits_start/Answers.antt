-- `lemma_text::line::digits_start` meets its contract: by the byte at the place. Assumes nothing.
use native.Mathlib.Omega.{arith}
use Rattle.lemma_text.specs.Words.{start_minus, start_plain, start_past}
use Rattle.lemma_text.proofs.line.digits_start.Goals as goal
use Rattle.lemma_text.proofs.line.digits_start.Goals.{else-at-text-via-then-at-text+else-text-at-eq45, else-at-text-via-else-at-text}

pub returns-then-text-at-eq45 : goal.returns-then-text-at-eq45
returns-then-text-at-eq45 c = (start_minus _ _ c.if-text-at-eq45.true, omega arith)

pub returns : goal.returns
returns c =
    elim c.else-at-text.branch [
      | else-at-text-via-then-at-text+else-text-at-eq45 w ↦ (start_plain _ _ w.if-text-at-eq45.false, c.requires)
      | else-at-text-via-else-at-text w ↦ (start_past _ _ w.if-at-text.false, c.requires)
    ]

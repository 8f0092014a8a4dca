use mathlib.Core.Path.{sym, ◌∙◌}
use mathlib.Core.Bool.{true≢false}
use Rattle.sections.specs.Rows.{seen_first, seen_second, seen_third}
use Rattle.sections.proofs.line.seen.Goals as goal
use Rattle.sections.proofs.line.seen.Goals.{then-defines, else-defines}

pub returns-then-defines-2 : goal.returns-then-defines-2
returns-then-defines-2 c =
    elim c.if-defines.branch [
      | then-defines w ↦ c.if-defines-2.true ∙ seen_first _ _ _ (sym c.defines.ensures ∙ w.if-defines.true)
      | else-defines w ↦
          c.if-defines-2.true
          ∙ seen_second _ _ _ (sym c.defines.ensures ∙ w.if-defines.false)
          (sym w.defines-else-defines.ensures ∙ sym w.value-is ∙ c.if-defines-2.true)
    ]

pub returns-else-defines-2 : goal.returns-else-defines-2
returns-else-defines-2 c =
    elim c.if-defines.branch [
      | then-defines w ↦ absurd (true≢false (sym w.if-defines.true ∙ sym w.value-is ∙ c.if-defines-2.false))
      | else-defines w ↦
          seen_third _ _ _ (sym c.defines.ensures ∙ w.if-defines.false)
          (sym w.defines-else-defines.ensures ∙ sym w.value-is ∙ c.if-defines-2.false) _ c.defines-else-defines-2.ensures
    ]

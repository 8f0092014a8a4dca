use mathlib.Core.Path.{sym, ◌∙◌}
use native.Mathlib.Omega.{arith}
use Rattle.sections.specs.Lists.{found_some}
use Rattle.sections.specs.Whole.{rows_placed}
use Rattle.uses.specs.Sources.{source_constant, source_input, source_latch, source_gate, source_some, source_nowhere}
use Rattle.uses.proofs.source.source.Goals as goal
use Rattle.uses.proofs.source.source.Goals.{then-x-lt2-via-then-x-lt2, then-x-lt2-via-else-x-lt2+then-defines, then-x-lt2-via-else-x-lt2+else-defines+then-defines-2}

pub defines-requires : goal.defines-requires
defines-requires c = rows_placed c.requires.inputs

pub defines-requires-else-defines : goal.defines-requires-else-defines
defines-requires-else-defines c = rows_placed c.requires.latches

pub returns-then-x-lt2 : goal.returns-then-x-lt2
returns-then-x-lt2 c =
    elim c.then-x-lt2.branch [
      | then-x-lt2-via-then-x-lt2 w ↦
          (source_some _ c.args.c _ _ (source_constant _ c.args.c _ w.if-x-lt2.true) (omega arith), omega arith)
      | then-x-lt2-via-else-x-lt2+then-defines w ↦ (
        source_some _ c.args.c _ _ (source_input _ c.args.c _ w.if-x-lt2.false (sym w.defines.ensures ∙ w.if-defines.true))
            (omega arith),
        omega arith,
      )
      | then-x-lt2-via-else-x-lt2+else-defines+then-defines-2 w ↦ (
        source_some _ c.args.c _ _
            (source_latch _ c.args.c _ w.if-x-lt2.false (sym w.defines.ensures ∙ w.if-defines.false)
            (sym w.defines-else-defines.ensures ∙ w.if-defines-2.true))
            (omega arith),
        omega arith,
      )
    ]

pub find-requires : goal.find-requires
find-requires c = rows_placed c.requires.gates

pub returns-in_err-k : goal.returns-in_err-k
returns-in_err-k c =
    rw c.from_residual.ensures (
      source_nowhere _ c.args.c _ c.if-x-lt2.false (sym c.defines.ensures ∙ c.if-defines.false)
          (sym c.defines-else-defines.ensures ∙ c.if-defines-2.false) c.in_err-k.ensures.0,
      tt,
    )

pub returns : goal.returns
returns c =
    let found = found_some _ _ _ c.in_ok-k.ensures.0 in
    let below = c.in_ok-k.ensures.1 in (
      source_some _ c.args.c _ _
          (source_gate _ c.args.c _ c.if-x-lt2.false (sym c.defines.ensures ∙ c.if-defines.false)
          (sym c.defines-else-defines.ensures ∙ c.if-defines-2.false) _ found.1)
          (omega (arith, below)),
      omega (arith, below),
    )

use mathlib.Core.Path.{refl, ◌∙◌}
use native.Mathlib.Omega.{arith}
use Rattle.uses.specs.Passing.{passing_start, passing_next}
use Rattle.uses.specs.Sources.{source_or}
use Rattle.uses.specs.Fill.{sources_most, filled_none, filled_more}
use Rattle.uses.proofs.stuck.fill.Goals as goal

pub loop-i-init : goal.loop-i-init
loop-i-init c =
    (filled_none _ _ _ _ c.requires.out_len, passing_start _ _ _ _ _ c.requires.whole.gates.inside c.requires.whole.gates.rows)

pub loop-i-preserved : goal.loop-i-preserved
loop-i-preserved c =
    let h = c.loop-i.invariant in (
      filled_more _ _ _ _ _ _ _ _ h.0 (omega (arith, c.requires.count_bound)) h.1.place c.nth-x.ensures.0 (c.narrow.ensures ∙ c.unwrap_or.ensures ∙ source_or _ _ _ _ c.source.ensures.0 (sources_most _ _ _)),
      passing_next _ _ _ _ _ h.1 (omega arith) refl _ c.next_line-p.ensures.0,
    )

-- `built::latches::put_start` meets its contract. Assumes nothing.
use Rattle.records.specs.Puts.{puts_none, puts_is, room_is}
use Rattle.built.specs.Sections.{start_none, start_some}
use mathlib.Core.Path.{refl, sym, ◌∙◌}
use native.Mathlib.Numerals.{add-one}
use Rattle.built.proofs.latches.put_start.Goals as goal

pub returns-in_default : goal.returns-in_default
returns-in_default c = puts_is (sym (start_none _ _ (sym c.in_default.is ∙ c.start_at.ensures))) (puts_none _)

pub put_clause-requires-clause-edges_in_bounds : goal.put_clause-requires-clause-edges_in_bounds
put_clause-requires-clause-edges_in_bounds c =
    room_is (sym (start_some _ _ _ _ _ (sym c.in-Some.is ∙ c.start_at.ensures) refl (add-one _))) c.requires.line_in_bounds

pub returns : goal.returns
returns c = puts_is (start_some _ _ _ _ _ (sym c.in-Some.is ∙ c.start_at.ensures) refl (add-one _)) c.put_clause.ensures

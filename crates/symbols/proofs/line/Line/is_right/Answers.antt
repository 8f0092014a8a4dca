-- `symbols::symbol::Line::is_right` meets its contract. Assumes nothing.
use mathlib.Core.Path.{sym, ap, ◌∙◌}
use mathlib.Core.Bool.{not}
use native.Mathlib.Omega.{arith}
use Rattle.symbols.specs.Walk.{is_closed}
use Rattle.symbols.specs.Before.{is_named, wrong_form, not_judged, is_judged}
use Rattle.symbols.proofs.line.Line.is_right.Goals as goal

pub returns-then-not-named_right : goal.returns-then-not-named_right
returns-then-not-named_right c = λ before h. wrong_form _ _ before _ (sym c.named_right.ensures ∙ c.if-not-named_right.true)

pub returns-then-not-judged : goal.returns-then-not-judged
returns-then-not-judged c = λ before h.
    ap not c.if-not-judged.true
    ∙ not_judged _ _ before _ (sym c.named_right.ensures ∙ c.if-not-named_right.false) c.if-not-judged.true

pub named_before-requires-clause-named : goal.named_before-requires-clause-named
named_before-requires-clause-named c =
    is_named _ _ _ (omega arith) c.requires.small (is_closed _ _ _ c.args.self.now.line_to c.args.self.now.closed) (sym c.named_right.ensures ∙ c.if-not-named_right.false)

pub returns-else-not-judged : goal.returns-else-not-judged
returns-else-not-judged c = λ before h.
    is_judged _ _ before _ (sym c.named_right.ensures ∙ c.if-not-named_right.false)
    c.if-not-judged.false _ (c.named_before.ensures before h)

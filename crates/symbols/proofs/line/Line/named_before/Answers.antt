use mathlib.Core.Path.{◌≡◌, sym, subst, ◌∙◌}
use native.Mathlib.Omega.{arith}
use mathlib.Core.Bool.{true, false}
use Rattle.meaning.specs.Clauses.{any}
use Rattle.meaning.specs.CircuitText.{Symbol, same_symbol}
use Rattle.symbols.specs.Before.{walked_none, named_here, found_here, walked_on, not_found}
use Rattle.symbols.proofs.line.Line.named_before.Goals as goal

pub loop-p-init : goal.loop-p-init
loop-p-init c = walked_none _ _ _ _

pub is_named-requires-clause-named : goal.is_named-requires-clause-named
is_named-requires-clause-named c =
    named_here _ _ _ _ _ c.loop-p.invariant (omega arith) c.requires.listed

pub returns-then-is_named : goal.returns-then-is_named
returns-then-is_named c = λ before h.
    subst (λ (s : Symbol). true ≡ any (same_symbol s) before) c.position_at-named.ensures
    (found_here _ _ _ _ _ c.loop-p.invariant (omega arith) (sym c.if-is_named.true ∙ c.is_named.ensures) before h)

pub next_line-p-requires-clause-at_value : goal.next_line-p-requires-clause-at_value
next_line-p-requires-clause-at_value c =
    (named_here _ _ _ _ _ c.loop-p.invariant (omega arith) c.requires.listed).closed

pub loop-p-preserved : goal.loop-p-preserved
loop-p-preserved c =
    walked_on _ _ _ _ _ c.loop-p.invariant (omega arith) (sym c.if-is_named.false ∙ c.is_named.ensures) _
    c.next_line-p.ensures.0

pub returns : goal.returns
returns c = λ before h.
    subst (λ (s : Symbol). false ≡ any (same_symbol s) before) c.position_at-named.ensures (not_found _ _ _ _ _ c.loop-p.invariant (omega arith) before h)

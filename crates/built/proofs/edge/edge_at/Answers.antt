-- `built::edge::edge_at` meets its contract: the sign is the parity of the number. Assumes nothing.
use mathlib.Core.Bool.{not}
use mathlib.Core.Path.{ap}
use native.Mathlib.Omega.{arith}
use Rattle.built.specs.Edges.{is_constant, no_constant, edge_constant, edge_named}
use Rattle.built.proofs.edge.edge_at.Goals as goal

pub returns-then-x-lt2 : goal.returns-then-x-lt2
returns-then-x-lt2 c =
    let none = is_constant c.args.text.now c.args.c c.nth-x.result c.if-x-lt2.true in
    (edge_constant _ _ _ c.nth-x.ensures.0 _ (ap not c.is_even-negative.ensures) none, omega arith)

pub returns : goal.returns
returns c =
    let some = no_constant c.args.text.now c.args.c c.nth-x.result c.if-x-lt2.false in (
      edge_named _ _ _ c.nth-x.ensures.0 _ (ap not c.is_even-negative.ensures) some _ c.variable_at-variable.ensures.0,
      c.variable_at-variable.ensures.2,
    )

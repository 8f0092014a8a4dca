-- `built::edge::variable_at` meets its contract: latches, then inputs, then gates. Assumes nothing.
use Rattle.built.specs.Edges.{variable_latch, variable_input, variable_gate}
use Rattle.sections.specs.Lists.{found_some, found_or, found_most, nowhere}
use Rattle.sections.specs.Whole.{rows_placed}
use mathlib.Core.Path.{refl, ◌∙◌}
use native.Mathlib.Omega.{arith}
use Rattle.built.proofs.edge.variable_at.Goals as goal

pub find-requires : goal.find-requires
find-requires c = rows_placed c.requires.whole.latches

pub returns-in-Some : goal.returns-in-Some
returns-in-Some c =
    let found = found_some _ _ _ c.in-Some.ensures.0 in
    let below = c.in-Some.ensures.1 in
    (variable_latch _ c.args.c _ _ found.1 below, omega arith, omega (arith, below, c.requires.latches))

pub find-requires-2 : goal.find-requires-2
find-requires-2 c = rows_placed c.requires.whole.inputs

pub returns-in-Some-find : goal.returns-in-Some-find
returns-in-Some-find c =
    let none = nowhere _ c.args.c.latches _ c.in_default.ensures.0 in
    let found = found_some _ _ _ c.in-Some-find.ensures.0 in
    let below = c.in-Some-find.ensures.1 in (
      variable_input _ c.args.c _ _ refl (omega (arith, none)) _ found.1 below,
      omega arith,
      omega (arith, below, c.requires.latches, c.requires.helpers),
    )

pub find-requires-3 : goal.find-requires-3
find-requires-3 c = rows_placed c.requires.whole.gates

pub returns : goal.returns
returns c =
    let no_latch = nowhere _ c.args.c.latches _ c.in_default.ensures.0 in
    let no_input = nowhere _ c.args.c.inputs _ c.in_default-find.ensures.0 in
    let most = found_most c.find-3.result c.args.c.gates.count c.find-3.ensures.1 in (
      variable_gate _ c.args.c _ _ refl (omega (arith, no_latch)) _ refl (omega (arith, no_input)) _
          (c.unwrap_or-gate.ensures ∙ found_or _ c.args.c.gates _ c.find-3.result c.find-3.ensures.0),
      omega arith,
      omega (arith, c.requires.latches, c.requires.helpers, c.unwrap_or-gate.ensures, most),
    )

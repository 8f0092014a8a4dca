-- `branches::nodes::contains` meets its contract. Assumes nothing.
use mathlib.Core.Path.{◌≡◌, ◌∙◌}
use borrow.Author.Rules.{rules}
use Rattle.std.specs.Prelude.{is_none}
use Rattle.branches.specs.ListingSets.{contains_none}
use Rattle.branches.proofs.nodes.contains.Goals as goal

pub returns : goal.returns
returns c =
    let none : c.is_none.result ≡ is_none c.lowest.result = search rules in
    none ∙ contains_none _ _ c.lowest.result c.lowest.ensures.0

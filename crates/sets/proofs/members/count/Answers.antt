-- `sets::members::count` meets its contract: it counts the marks that are set. Assumes nothing.
use native.Mathlib.Omega.{arith}
use mathlib.Core.Path.{◌≡◌, sym, ◌∙◌}
use borrow.Author.Rules.{rules}
use Rattle.std.specs.List.{count_by}
use Rattle.std.proofs.lemmas.List.Sums.{count_by-le-length}
use Rattle.sets.specs.Upto.{size_count}
use Rattle.sets.proofs.members.count.Goals as goal

pub returns : goal.returns
returns c =
    let marks = c.args.marks.now in
    let n : c.count.result ≡ count_by (λ b. b) marks = search rules in
    (n ∙ sym (size_count marks), omega (arith, n, count_by-le-length (λ b. b) marks))

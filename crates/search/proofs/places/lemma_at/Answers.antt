-- `lemma_at` meets its contract: the record of the lemma lies in the file, and its literals are the lemma's.
use Prim.Native.Nat.{ℕ, ◌+◌, ◌/◌, ◌≤◌}
use native.Mathlib.Omega.{arith}
use mathlib.Core.Path.{ap}
use lib.ListN.{length}
use Rattle.meaning.specs.File.{two_at}
use Rattle.search.proofs.QuestionLaws.{inside_before, lemma_inside, lemma_there}
use Rattle.search.proofs.places.lemma_at.Goals.{After-record_at-at}
use Rattle.search.proofs.places.lemma_at.Goals as goal

inside : (c : After-record_at-at)
    → c.record_at-at.result + 4 + two_at c.args.of.now.file.now c.record_at-at.result
    ≤ length c.args.of.now.file.now
inside c =
    lemma_inside c.args.of.now.file.now c.args.of.now.problem c.args.of.now.placed c.args.d c.requires c.record_at-at.result c.record_at-at.ensures

pub record_at-at-requires : goal.record_at-at-requires
record_at-at-requires c =
    inside_before c.args.of.now.file.now c.args.of.now.problem.lemmas_at c.args.of.now.problem.k c.args.d c.requires c.args.of.now.placed.lemmas_in

pub overflow_add-result : goal.overflow_add-result
overflow_add-result c = omega (arith, inside c)

pub two_at-requires : goal.two_at-requires
two_at-requires c = omega (arith, inside (goal.at.two_at-requires c).After-record_at-at)

pub returns : goal.returns
returns c =
    lemma_there c.args.of.now.file.now c.args.of.now.problem c.args.of.now.placed c.args.d c.requires c.record_at-at.result c.record_at-at.ensures
    (c.two_at.result / 2) (ap (λ (k : ℕ). k / 2) c.two_at.ensures.0)

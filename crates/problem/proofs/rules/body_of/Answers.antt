-- `body_of` makes the tests of a body, one after another: 7, 5 and 6.
use Prim.Native.Nat.{◌≤◌, ◌+◌, ◌*◌}
use mathlib.Core.Path.{◌≡◌, refl, sym, ap, ◌∙◌}
use native.Mathlib.Omega.{arith}
use Rattle.std.specs.Prelude.{false}
use Rattle.std.proofs.Math.ListN.{length}
use Rattle.meaning.specs.File.{too_many, row_at, same_kind}
use Rattle.problem.specs.Records.{reader_of}
use Rattle.problem.specs.Steps.{refused_by, headed_small, counts_inside, literals_inside, many_here, counts_here, some_offends, none_offends, place_here, many_stops, counts_stops, literal_stops, body_passes}
use Rattle.problem.specs.Offences.{length_literals}
use Rattle.problem.proofs.rules.body_of.Goals.{Else-too_many, Else-counts_wrong, After-literal_count-count}
use Rattle.problem.proofs.rules.body_of.Goals as goal

-- what the tests that were passed say
not_many : (c : Else-too_many)
    → too_many (row_at c.args.file.now (reader_of c.args.w)) (same_kind c.args.file.now (reader_of c.args.w)) c.args.w.clauses ≡ false
not_many c = many_here c.requires.headed c.of-row.ensures c.same_kind.ensures c.too_many.ensures c.if-too_many.false

inside : (c : After-literal_count-count) → c.args.w.at + 4 + 2 * c.literal_count-count.result ≤ length c.args.file.now
inside c = literals_inside c.requires.headed c.of-row.ensures c.literal_count-count.ensures

pub of-row-requires : goal.of-row-requires
of-row-requires c = headed_small c.requires.headed

pub returns-then-too_many : goal.returns-then-too_many
returns-then-too_many c =
    rw c.at.ensures
    (many_stops _ (reader_of c.args.w)
    (many_here c.requires.headed c.of-row.ensures c.same_kind.ensures c.too_many.ensures c.if-too_many.true))

pub counts_wrong-requires : goal.counts_wrong-requires
counts_wrong-requires c = λ one. counts_inside c.requires.headed one

pub returns-then-counts_wrong : goal.returns-then-counts_wrong
returns-then-counts_wrong c =
    rw c.at-then-counts_wrong.ensures
    (counts_stops _ _ (not_many (goal.at.returns-then-counts_wrong c).Else-too_many)
    (counts_here c.requires.headed c.counts_wrong.ensures c.if-counts_wrong.true))

pub first_offence-requires-clause-count_in_bounds : goal.first_offence-requires-clause-count_in_bounds
first_offence-requires-clause-count_in_bounds c =
    inside (goal.at.first_offence-requires-clause-count_in_bounds c).After-literal_count-count

pub overflow_mul-i : goal.overflow_mul-i
overflow_mul-i c =
    omega (
      arith,
      inside (goal.at.overflow_mul-i c).After-literal_count-count,
      length_literals c.args.file.now (c.args.w.at + 4) c.literal_count-count.result,
      c.in-Some.ensures.1,
    )

pub overflow_add-body-in-Some : goal.overflow_add-body-in-Some
overflow_add-body-in-Some c =
    omega (
      arith,
      inside (goal.at.overflow_add-body-in-Some c).After-literal_count-count,
      length_literals c.args.file.now (c.args.w.at + 4) c.literal_count-count.result,
      c.in-Some.ensures.1,
    )

pub returns-in-Some : goal.returns-in-Some
returns-in-Some c =
    let headed = c.requires.headed in
    let row = c.of-row.ensures in
    let count = c.literal_count-count.ensures in
    let offence = c.in-Some.ensures.0 in
    rw c.at-in-Some.ensures
    (literal_stops _ _ (not_many (goal.at.returns-in-Some c).Else-too_many)
    (counts_here headed c.counts_wrong.ensures c.if-counts_wrong.false)
    (some_offends headed row count offence
    (omega (arith, c.in-Some.ensures.1, length_literals c.args.file.now (c.args.w.at + 4) c.literal_count-count.result))) ∙
    ap (refused_by 6) (sym (place_here headed row count offence)))

pub returns-in-None : goal.returns-in-None
returns-in-None c = (
  body_passes _ _ (not_many (goal.at.returns-in-None c).Else-too_many)
      (counts_here c.requires.headed c.counts_wrong.ensures c.if-counts_wrong.false)
      (none_offends c.requires.headed c.of-row.ensures c.literal_count-count.ensures refl
      (omega (arith, c.in-None.ensures, length_literals c.args.file.now (c.args.w.at + 4) c.literal_count-count.result))),
  c.past.ensures,
)

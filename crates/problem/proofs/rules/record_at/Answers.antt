-- `record_at` makes the tests of a head, one after another: 2, 3, 4 and 2 again; the rest is the body's.
use mathlib.Core.Path.{◌≡◌, sym, ◌∙◌}
use lib.ListN.{drop}
use Rattle.std.specs.Prelude.{false}
use Rattle.meaning.specs.File.{record_rules, head_short, kind_wrong, length_wrong, kind_at, row_at, body_length}
use Rattle.problem.specs.Records.{reader_of}
use Rattle.problem.specs.Steps.{kind_small, head_fits, head_lacks, kind_found, length_found, body_fits, body_lacks, headed, head_stops, kind_stops, length_stops, body_stops, head_passes, stepped_on}
use Rattle.problem.proofs.rules.record_at.Goals.{After-two_at-kind, Else-kind_wrong, Else-length_wrong}
use Rattle.problem.proofs.rules.record_at.Goals as goal

-- what the tests that were passed say
head : (c : After-two_at-kind) → head_short c.args.file.now (reader_of c.args.w) ≡ false
head c = head_fits c.args.file.now (reader_of c.args.w) c.if-file-w.false

right : (c : Else-kind_wrong)
    → kind_wrong c.args.w.before (kind_at c.args.file.now (reader_of c.args.w)) ≡ false
right c =
    kind_found c.args.file.now (reader_of c.args.w) c.two_at-len.ensures.0 c.two_at-kind.ensures.0 c.kind_wrong.ensures
    c.if-kind_wrong.false

fit : (c : Else-length_wrong)
    → length_wrong (row_at c.args.file.now (reader_of c.args.w)) (body_length c.args.file.now (reader_of c.args.w)) ≡ false
fit c =
    length_found c.args.file.now (reader_of c.args.w) c.two_at-len.ensures.0 c.two_at-kind.ensures.0 c.of.ensures
    c.length_wrong.ensures c.if-length_wrong.false

pub returns-then-file-w : goal.returns-then-file-w
returns-then-file-w c =
    rw c.at.ensures (head_stops c.args.file.now (reader_of c.args.w) (head_lacks _ _ c.if-file-w.true))

pub returns-then-kind_wrong : goal.returns-then-kind_wrong
returns-then-kind_wrong c =
    let file = c.args.file.now in
    let w = reader_of c.args.w in
    rw c.at-then-kind_wrong.ensures
    (kind_stops file w (head (goal.at.returns-then-kind_wrong c).After-two_at-kind)
    (kind_found file w c.two_at-len.ensures.0 c.two_at-kind.ensures.0 c.kind_wrong.ensures c.if-kind_wrong.true))

pub of-requires : goal.of-requires
of-requires c = kind_small _ _ (sym c.kind_wrong.ensures ∙ c.if-kind_wrong.false)

pub returns-then-length_wrong : goal.returns-then-length_wrong
returns-then-length_wrong c =
    let file = c.args.file.now in
    let w = reader_of c.args.w in
    let at = goal.at.returns-then-length_wrong c in
    rw c.at-then-length_wrong.ensures
    (length_stops file w (head at.After-two_at-kind) (right at.Else-kind_wrong)
    (length_found file w c.two_at-len.ensures.0 c.two_at-kind.ensures.0 c.of.ensures c.length_wrong.ensures c.if-length_wrong.true))

pub returns-then-file-w-2 : goal.returns-then-file-w-2
returns-then-file-w-2 c =
    let file = c.args.file.now in
    let w = reader_of c.args.w in
    let at = goal.at.returns-then-file-w-2 c in
    rw c.at-then-file-w-2.ensures
    (body_stops file w (head at.After-two_at-kind) (right at.Else-kind_wrong) (fit at.Else-length_wrong)
    (body_lacks file w c.two_at-len.ensures.0 c.two_at-kind.ensures.0 c.if-file-w-2.true))

pub body_of-requires-clause-headed : goal.body_of-requires-clause-headed
body_of-requires-clause-headed c =
    let at = goal.at.body_of-requires-clause-headed c in
    headed c.args.file.now (reader_of c.args.w) c.two_at-len.ensures.0 c.two_at-kind.ensures.0 (right at.Else-kind_wrong)
    (fit at.Else-length_wrong)
    c.if-file-w-2.false

pub returns : goal.returns
returns c =
    let file = c.args.file.now in
    let w = reader_of c.args.w in
    let at = goal.at.returns c in
    stepped_on file w (drop 4 (record_rules file w)) (record_rules file w) c.body_of.result
    (head_passes file w (head at.After-two_at-kind) (right at.Else-kind_wrong) (fit at.Else-length_wrong)
    (body_fits file w c.two_at-len.ensures.0 c.two_at-kind.ensures.0 c.if-file-w-2.false))
    c.body_of.ensures

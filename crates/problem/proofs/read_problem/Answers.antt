use native.Mathlib.Omega.{arith}
use mathlib.Core.Path.{◌≡◌, sym, ap, subst⁻¹}
use Rattle.std.proofs.lemmas.Result.{err_from_is_err_and}
use Rattle.meaning.specs.File
use Rattle.meaning.specs.File.{Reader, accepted, read}
use Rattle.laws.specs.Accepted.{kept}
use Rattle.format.specs.declared.Problem.{Problem}
use Rattle.format.specs.Section.{problem_at, Placed}
use Rattle.problem.specs.Records.{reader_of}
use Rattle.problem.specs.Held.{past_further}
use Rattle.problem.specs.Reading.{Reached, reached_start, too_long, stops, longer, goes_on, ends}
use Rattle.problem.proofs.read_problem.Goals.{After-past-s}
use Rattle.problem.proofs.read_problem.Goals as goal

-- what is known after a record
passed : (c : After-past-s) → Reached c.args.file.now (reader_of c.in_ok-w.w) c.past-s.result
passed c = goes_on c.loop-w.invariant c.loop-w-test.true c.in_ok-w.ensures.0 c.in_ok-w.ensures.1 c.past-s.ensures

pub returns-then-file-gt-FILE_MOST : goal.returns-then-file-gt-FILE_MOST
returns-then-file-gt-FILE_MOST c = rw c.at.ensures (sym (too_long _ c.if-file-gt-FILE_MOST.true), tt)

pub loop-w-init : goal.loop-w-init
unfolding File.at_start
loop-w-init c =
    subst⁻¹ (λ (r : Reader). Reached c.args.file.now r c.at_start-s.result) c.at_start-w.ensures
    (subst⁻¹ (Reached c.args.file.now File.at_start) c.at_start-s.ensures (reached_start c.args.file.now c.if-file-gt-FILE_MOST.false))

pub returns-in_err-w : goal.returns-in_err-w
returns-in_err-w c =
    let p = err_from_is_err_and c.from_residual.result c.from_residual.ensures.1 in
    rw (p.1, p.2) (sym (stops c.loop-w.invariant c.loop-w-test.true c.in_err-w.ensures), tt)

pub loop-w-smaller : goal.loop-w-smaller
loop-w-smaller c =
    let past_at = ap (λ (r : Reader). r.at) c.in_ok-w.ensures.1 in
    let further = past_further _ _ (kept _ _ c.in_ok-w.ensures.0) in
    omega (arith, past_at, further, (passed (goal.at.loop-w-smaller c).After-past-s).places.sane.at)

pub loop-w-preserved : goal.loop-w-preserved
loop-w-preserved c = passed (goal.at.loop-w-preserved c).After-past-s

pub returns-then-w-file : goal.returns-then-w-file
returns-then-w-file c =
    rw c.at-then-w-file.ensures (sym (longer c.loop-w.invariant c.loop-w-test.false c.if-w-file.true), tt)

pub returns : goal.returns
returns c =
    let end = ends c.loop-w.invariant c.loop-w-test.false c.if-w-file.false in
    let file = c.args.file.now in
    subst⁻¹ (λ (p : Problem). (accepted (problem_at file p) ≡ read file) × Placed file p) c.problem.ensures (sym end.0, end.1)

use Prim.Native.Nat.{◌+◌, ◌*◌}
use native.Mathlib.Omega.{arith}
use mathlib.Core.Path.{◌≡◌, sym, ap, ◌∙◌}
use Rattle.meaning.specs.File.{literal_at, names, offends}
use Rattle.format.specs.Forms.{class_of}
use Rattle.problem.specs.Offences.{length_literals, offence_first, offence_here, offence_later, offence_none}
use Rattle.problem.proofs.rules.first_offence.Goals.{After-offends}
use Rattle.problem.proofs.rules.first_offence.Goals as goal

-- the test is the definition's
tested : (c : After-offends)
    → let args = c.args in
    c.offends.result
    ≡ offends (names (class_of args.class) args.n args.m)
    (literal_at args.file.now (args.at + 2 * c.loop-i.i))
tested c =
    let args = c.args in
    c.offends.ensures ∙ ap (offends (names (class_of args.class) args.n args.m)) c.literal_at.ensures

pub loop-i-init : goal.loop-i-init
loop-i-init c = offence_first (names (class_of c.args.class) c.args.n c.args.m) c.args.file.now c.args.at c.args.count

pub returns-then-offends : goal.returns-then-offends
returns-then-offends c =
    let args = c.args in (
      omega (
        arith,
        c.loop-i.invariant,
        offence_here (names (class_of args.class) args.n args.m) args.file.now args.at args.count c.loop-i.i
            c.loop-i-test.true
            (sym (tested (goal.at.returns-then-offends c).After-offends) ∙ c.if-offends.true),
      ),
      omega (arith, length_literals args.file.now args.at args.count),
    )

pub loop-i-preserved : goal.loop-i-preserved
loop-i-preserved c =
    let args = c.args in
    omega (
      arith,
      c.loop-i.invariant,
      offence_later (names (class_of args.class) args.n args.m) args.file.now args.at args.count c.loop-i.i
          c.loop-i-test.true
          (sym (tested (goal.at.loop-i-preserved c).After-offends) ∙ c.if-offends.false),
    )

pub returns : goal.returns
returns c =
    let args = c.args in
    omega (
      arith,
      c.loop-i.invariant,
      length_literals args.file.now args.at args.count,
      offence_none (names (class_of args.class) args.n args.m) args.file.now (args.at + 2 * c.loop-i.i) args.count c.loop-i.i
          c.loop-i-test.false,
    )

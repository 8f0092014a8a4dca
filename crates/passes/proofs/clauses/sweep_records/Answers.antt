use Prim.Native.Nat.{◌+◌, ◌-◌, ◌/◌, ◌≤◌}
use native.Mathlib.Omega.{arith}
use mathlib.Core.Path.{sym, ap, ◌∙◌}
use mathlib.Core.List.{List}
use lib.ListN.{length}
use Rattle.meaning.specs.Clauses.{Clause}
use Rattle.meaning.specs.File.{literals}
use Rattle.format.specs.Section.{section}
use Rattle.passes.specs.Sweep.{sweep}
use Rattle.passes.specs.Forms.{entries, tally_at}
use Rattle.passes.specs.Places.{Literals}
use Rattle.passes.proofs.PlaceLaws.{section_done, record_inside}
use Rattle.passes.proofs.TurnLaws.{record_fits, record_clause, records_after, record_turn, one_below, over}
use Rattle.passes.proofs.clauses.sweep_records.Goals.{After-two_at-len}
use Rattle.passes.proofs.clauses.sweep_records.Goals as goal

-- the record that is read
fits : (c : After-two_at-len) → c.loop-i.at + (4 + c.two_at-len.result) ≤ length c.args.file.now
fits c =
    record_fits c.args.file.now c.loop-i.at c.args.count c.loop-i.i c.loop-i-test.true c.loop-i.invariant.left
    c.two_at-len.result c.two_at-len.ensures.0

clause : (c : After-two_at-len) → Literals c.args.file.now (c.loop-i.at + 4) (c.two_at-len.result / 2)
clause c =
    record_clause c.args.file.now c.loop-i.at c.args.count c.loop-i.i c.loop-i-test.true c.loop-i.invariant.left
    c.two_at-len.result c.two_at-len.ensures.0

pub returns-in-Closed : goal.returns-in-Closed
returns-in-Closed c =
    over c.loop-i.tally (entries c.loop-i.values) (section c.args.file.now c.loop-i.at (c.args.count - c.loop-i.i)) _
    c.in-Closed.is c.loop-i.invariant.so_far

pub two_at-len-requires : goal.two_at-len-requires
two_at-len-requires c =
    omega (
      arith,
      record_inside c.args.file.now c.loop-i.at (c.args.count - c.loop-i.i) (omega arith) c.loop-i.invariant.left,
    )

pub overflow_add-at : goal.overflow_add-at
overflow_add-at c = omega (arith, fits c)

pub scan-requires : goal.scan-requires
scan-requires c = clause (goal.at.scan-requires c).After-two_at-len

pub met-tally-requires : goal.met-tally-requires
met-tally-requires c =
    one_below (entries c.loop-i.values) (literals c.args.file.now (c.loop-i.at + 4) (c.two_at-len.result / 2))
    (clause (goal.at.met-tally-requires c).After-two_at-len).within c.scan.result c.scan.ensures

pub overflow_add-at-in-loop-i-2 : goal.overflow_add-at-in-loop-i-2
overflow_add-at-in-loop-i-2 c = omega (arith, fits (goal.at.overflow_add-at-in-loop-i-2 c).After-two_at-len)

pub loop-i-preserved : goal.loop-i-preserved
loop-i-preserved c = record {
  left =
      records_after c.args.file.now c.loop-i.at c.args.count c.loop-i.i c.loop-i-test.true c.loop-i.invariant.left
      c.two_at-len.result c.two_at-len.ensures.0;
  so_far =
      c.loop-i.invariant.so_far ∙
      record_turn c.args.file.now c.loop-i.at c.args.count c.loop-i.i c.loop-i-test.true c.loop-i.invariant.left
      c.two_at-len.result c.two_at-len.ensures.0 c.loop-i.tally c.met-tally.result c.scan.result (entries c.loop-i.values)
      (entries c.met-tally.new.values) c.scan.ensures c.met-tally.ensures;
}

pub returns : goal.returns
unfolding sweep
returns c =
    sym (c.loop-i.invariant.so_far ∙
    ap (λ (cs : List Clause). sweep cs (tally_at c.loop-i.tally (entries c.loop-i.values)))
    (section_done c.args.file.now c.loop-i.at (c.args.count - c.loop-i.i) (omega arith)))

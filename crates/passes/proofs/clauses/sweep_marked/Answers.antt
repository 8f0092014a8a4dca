use Prim.Native.Nat.{ℕ, ◌+◌, ◌-◌, ◌/◌, ◌≤◌}
use native.Mathlib.Omega.{arith}
use mathlib.Core.Path.{◌≡◌, sym, ap, ◌∙◌, subst}
use mathlib.Core.List.{List}
use lib.ListN.{length}
use Rattle.meaning.specs.Clauses.{Clause}
use Rattle.meaning.specs.Meaning.{at_marks}
use Rattle.meaning.specs.File.{literals}
use Rattle.format.specs.Section.{section}
use Rattle.passes.specs.Sweep.{sweep}
use Rattle.passes.specs.Forms.{entries, tally_at}
use Rattle.passes.specs.Places.{Records, Literals}
use Rattle.passes.proofs.PlaceLaws.{record_inside}
use Rattle.passes.proofs.TurnLaws.{lemmas_from, lemmas_done, record_fits, record_clause, records_after, lemma_out, lemma_in, one_below, over}
use Rattle.passes.proofs.clauses.sweep_marked.Goals.{After-two_at-len, then-marked, else-marked}
use Rattle.passes.proofs.clauses.sweep_marked.Goals as goal

-- the record that is read
fits : (c : After-two_at-len) → c.loop-i.at + (4 + c.two_at-len.result) ≤ length c.args.file.now
fits c =
    record_fits c.args.file.now c.loop-i.at c.args.count c.loop-i.i c.loop-i-test.true c.loop-i.invariant.left
    c.two_at-len.result c.two_at-len.ensures.0

clause : (c : After-two_at-len) → Literals c.args.file.now (c.loop-i.at + 4) (c.two_at-len.result / 2)
clause c =
    record_clause c.args.file.now c.loop-i.at c.args.count c.loop-i.i c.loop-i-test.true c.loop-i.invariant.left
    c.two_at-len.result c.two_at-len.ensures.0

pub loop-i-init : goal.loop-i-init
unfolding lemmas_from
loop-i-init c =
    let e : c.args.count ≡ c.args.count - 0 = omega arith in record {
      left = subst (Records c.args.file.now c.args.start) e c.requires.0;
      so_far =
          ap (λ (k : ℕ). sweep (at_marks c.args.on.now (section c.args.file.now c.args.start k))
          (tally_at c.args.t (entries c.args.values.now))) e;
    }

pub returns-in-Closed : goal.returns-in-Closed
returns-in-Closed c =
    over c.loop-i.tally (entries c.loop-i.values) (lemmas_from c.args.file.now c.args.on.now c.loop-i.at c.args.count c.loop-i.i) _
    c.in-Closed.is c.loop-i.invariant.so_far

pub two_at-len-requires : goal.two_at-len-requires
two_at-len-requires c =
    omega (
      arith,
      record_inside c.args.file.now c.loop-i.at (c.args.count - c.loop-i.i) (omega arith) c.loop-i.invariant.left,
    )

pub overflow_add-at : goal.overflow_add-at
overflow_add-at c = omega (arith, fits (goal.at.overflow_add-at c).After-two_at-len)

pub scan-requires : goal.scan-requires
scan-requires c = clause (goal.at.scan-requires c).After-two_at-len

pub met-tally-requires : goal.met-tally-requires
met-tally-requires c =
    one_below (entries c.loop-i.values) (literals c.args.file.now (c.loop-i.at + 4) (c.two_at-len.result / 2))
    (clause (goal.at.met-tally-requires c).After-two_at-len).within c.scan.result c.scan.ensures

pub overflow_add-at-in-loop-i-2 : goal.overflow_add-at-in-loop-i-2
overflow_add-at-in-loop-i-2 c = omega (arith, fits (goal.at.overflow_add-at-in-loop-i-2 c).After-two_at-len)

pub loop-i-preserved : goal.loop-i-preserved
loop-i-preserved c =
    let file = c.args.file.now in
    let after =
    records_after file c.loop-i.at c.args.count c.loop-i.i c.loop-i-test.true c.loop-i.invariant.left c.two_at-len.result
    c.two_at-len.ensures.0 in
    elim c.if-marked.branch [
      | then-marked w ↦
          rw (w.tally-is, w.values-is)
          (record {
            left = after;
            so_far =
                c.loop-i.invariant.so_far
                ∙ lemma_in file c.loop-i.at c.args.count c.loop-i.i c.loop-i-test.true c.loop-i.invariant.left c.two_at-len.result
                c.two_at-len.ensures.0 c.loop-i.tally w.met-tally.result w.scan.result (entries c.loop-i.values)
                (entries w.met-tally.new.values) w.scan.ensures w.met-tally.ensures c.args.on.now w.if-marked.true;
          })
      | else-marked w ↦
          rw (w.tally-is, w.values-is)
          (record {
            left = after;
            so_far =
                c.loop-i.invariant.so_far
                ∙ lemma_out file c.loop-i.at c.args.count c.loop-i.i c.loop-i-test.true c.loop-i.invariant.left c.two_at-len.result
                c.two_at-len.ensures.0 c.args.on.now (tally_at c.loop-i.tally (entries c.loop-i.values)) w.if-marked.false;
          })
    ]

pub returns : goal.returns
unfolding sweep
returns c =
    sym (c.loop-i.invariant.so_far ∙
    ap (λ (cs : List Clause). sweep cs (tally_at c.loop-i.tally (entries c.loop-i.values)))
    (lemmas_done c.args.file.now c.args.on.now c.loop-i.at c.args.count c.loop-i.i (omega arith)))

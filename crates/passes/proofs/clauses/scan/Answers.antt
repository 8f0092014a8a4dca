use Prim.Native.Nat.{ℕ, ◌+◌, ◌-◌, ◌*◌}
use native.Mathlib.Omega.{arith}
use mathlib.Core.Path.{◌≡◌, sym, ap, ap₂, subst₂, ◌∙◌}
use Rattle.meaning.specs.File.{literals}
use Rattle.format.specs.Forms.{literal_of}
use Rattle.passes.specs.Sweep.{Status, failed, seen, status, status_from}
use Rattle.passes.specs.Seen.{seen_places, seen_more, inside_more}
use Rattle.passes.specs.Forms.{entries}
use Rattle.passes.specs.Places.{Literals}
use Rattle.passes.proofs.PlaceLaws.{some_left, rest_after, literals_after, literals_done, literal_inside, literal_range, read_true, read_unset, read_false}
use Rattle.passes.proofs.clauses.scan.Goals.{then-v-eq0, else-v-eq0}
use Rattle.passes.proofs.clauses.scan.Goals as goal

pub loop-i-init : goal.loop-i-init
unfolding status
loop-i-init c =
    let e : c.args.count ≡ c.args.count - 0 = omega arith in
    let f : c.args.start ≡ c.args.start + 2 * 0 = omega arith in record {
      left = subst₂ (Literals c.args.file.now) f e c.requires;
      so_far = ap₂ (λ (at left : ℕ). status_from (entries c.args.values.now) failed (literals c.args.file.now at left)) f e;
      first = tt;
    }

pub worth-v-requires : goal.worth-v-requires
worth-v-requires c =
    rw c.literal_at.ensures
    (literal_range c.args.file.now (c.args.start + 2 * c.loop-i.i) (c.args.count - c.loop-i.i) (omega arith) c.loop-i.invariant.left)

pub returns-then-v-eq1 : goal.returns-then-v-eq1
returns-then-v-eq1 c =
    sym (c.loop-i.invariant.so_far ∙
    read_true (entries c.args.values.now) (seen_places c.args.file.now c.loop-i.places c.loop-i.first) c.args.file.now
    (c.args.start + 2 * c.loop-i.i) (c.args.count - c.loop-i.i) (omega arith) (literal_of c.literal_at.result) c.literal_at.ensures
    c.worth-v.result c.worth-v.ensures c.if-v-eq1.true)

pub loop-i-preserved : goal.loop-i-preserved
loop-i-preserved c =
    let file = c.args.file.now in
    let v = entries c.args.values.now in
    let here = c.args.start + 2 * c.loop-i.i in
    let at = c.args.start + 2 * (c.loop-i.i + 1) in
    let left = c.args.count - (c.loop-i.i + 1) in
    let s = seen_places file c.loop-i.places c.loop-i.first in
    let l = literal_of c.literal_at.result in
    let some = some_left file c.args.start c.args.count c.loop-i.i c.loop-i-test.true in
    let after = literals_after file c.args.start c.args.count c.loop-i.i c.loop-i-test.true c.loop-i.invariant.left in
    let rest = rest_after file c.args.start c.args.count c.loop-i.i c.loop-i-test.true in
    elim c.if-v-eq0.branch [
      | then-v-eq0 w ↦
          rw (w.places-is, w.first-is, w.one_more-places.ensures, w.first_of-first.ensures)
          (record {
            left = after;
            so_far =
                c.loop-i.invariant.so_far
                ∙ read_unset v s file here (c.args.count - c.loop-i.i) some l c.literal_at.ensures c.worth-v.result c.worth-v.ensures
                w.if-v-eq0.true
                ∙ ap (status_from v (seen s l)) rest
                ∙ ap (λ (t : Status). status_from v t (literals file at left))
                (ap (seen s) c.literal_at.ensures ∙ seen_more file c.loop-i.places c.loop-i.first here);
            first =
                inside_more file c.loop-i.places c.loop-i.first here
                (literal_inside file here (c.args.count - c.loop-i.i) some c.loop-i.invariant.left) c.loop-i.invariant.first;
          })
      | else-v-eq0 w ↦
          rw (w.places-is, w.first-is)
          (record {
            left = after;
            so_far =
                c.loop-i.invariant.so_far
                ∙ read_false v s file here (c.args.count - c.loop-i.i) some l c.literal_at.ensures c.worth-v.result c.worth-v.ensures
                w.if-v-eq0.false c.if-v-eq1.false
                ∙ ap (status_from v s) rest;
            first = c.loop-i.invariant.first;
          })
    ]

pub returns : goal.returns
returns c =
    c.told.ensures ∙
    sym (c.loop-i.invariant.so_far ∙
    literals_done (entries c.args.values.now) (seen_places c.args.file.now c.loop-i.places c.loop-i.first) c.args.file.now
    (c.args.start + 2 * c.loop-i.i) (c.args.count - c.loop-i.i) (omega arith))

use Prim.Native.Nat.{ℕ}
use native.Mathlib.Omega.{arith}
use mathlib.Core.Path.{◌≡◌, refl, ap, ap₂, ◌∙◌}
use mathlib.Core.List.{List}
use lib.ListN.{length, take, set, length-set}
use borrow.Author.Rules.{rules}
use Rattle.meaning.specs.Calls.{written}
use Rattle.sets.specs.Asks.{marks_at}
use Rattle.rows.specs.RowLaws.{mark_byte, row_start, row_next}
use Rattle.rows.proofs.row.write_row.Goals as goal

pub loop-d-init : goal.loop-d-init
loop-d-init c = (row_start c.args.s.on _, refl)

pub loop-d-preserved : goal.loop-d-preserved
loop-d-preserved c =
    let a = c.args in
    let d = c.loop-d.d in
    let inv = c.loop-d.invariant in
    let long : length a.s.on ≡ 128 = search rules in (
      ap₂ (λ (l : List ℕ) (v : ℕ). set l d v) inv.0 (c.from.ensures ∙ mark_byte _) ∙ row_next a.s.on a.row.now d (omega arith) (omega arith),
      simp length-set inv.1,
    )

pub returns : goal.returns
unfolding marks_at
returns c =
    let a = c.args in
    let at : c.loop-d.d ≡ a.k = omega arith in
    c.loop-d.invariant.0 ∙ ap (λ (n : ℕ). written 0 (take n a.s.on) a.row.now) at

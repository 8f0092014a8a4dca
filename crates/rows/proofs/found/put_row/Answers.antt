-- `rows::found::put_row` meets its contract: the row doesn't fit, or is written as a part of the whole. Assumes nothing.
use Prim.Native.Nat.{ℕ, ◌*◌}
use native.Mathlib.Omega.{arith}
use native.Mathlib.Nat.{suc-mul}
use native.Mathlib.Numerals.{add-one}
use mathlib.Core.Path.{sym, ap, ap₂, ◌∙◌}
use mathlib.Core.List.{List}
use Rattle.sets.specs.Asks.{marks_at}
use Rattle.laws.specs.Feed.{going}
use Rattle.rows.specs.RowLaws.{row_back}
use Rattle.rows.specs.ListingProgress.{row_full, row_put}
use Rattle.rows.proofs.found.put_row.Goals as goal

pub returns-then-rows-start : goal.returns-then-rows-start
returns-then-rows-start c = λ budget h. record { is = sym (row_full _ budget _ _ _ h _ c.if-rows-start.true); sound = tt }

pub returns : goal.returns
returns c =
    let s = c in
    λ budget h.
    record {
      is =
          ap₂ (λ (n : ℕ) (l : List ℕ). going n s.args.at.used l) (add-one s.args.at.rows)
          (row_back (s.args.at.rows * s.args.k) (marks_at s.args.k s.args.s) s.args.rows.now _ s.requires.k_in_bounds c.write_row.ensures)
          ∙ sym (row_put _ budget _ _ _ h _ c.if-rows-start.false);
      sound = (h, omega (arith, ap (λ (n : ℕ). n * s.args.k) (add-one s.args.at.rows), suc-mul s.args.at.rows s.args.k, c.if-rows-start.false));
    }

-- `told::refusals::put_kept` meets its contract: by the job. Assumes nothing.
use Rattle.std.proofs.Common.{inl, inr}
use Rattle.told.specs.Refusals.{kept_text}
use Rattle.told.proofs.refusals.put_kept.Goals as goal

pub returns-in-List : goal.returns-in-List
unfolding kept_text
returns-in-List c = rw c.in-List.is c.put_filled.ensures

pub returns-in-Check : goal.returns-in-Check
unfolding kept_text
returns-in-Check c =
    elim c.in-Check.is [
      | inl e ↦ rw e c.put_all.ensures
      | inr (inl e) ↦ rw e c.put_all.ensures
      | inr (inr e) ↦ rw e c.put_all.ensures
    ]

-- What the listing's values stand for: the questions that are asked of each position.
use Rattle.std.specs.Prelude.{ℕ, ◌≡◌, ◌<◌, Bool, Ok, Err}
use Rattle.std.proofs.Math.Path.{sym, ap}
use Rattle.std.proofs.Common.{◌∙◌, arith}
use Rattle.std.proofs.Math.Bool.{not}
use Rattle.meaning.specs.Meaning
use Rattle.meaning.specs.Rules
use Rattle.meaning.specs.Rules.{Question, Answer, reduced, smaller_at}
use Rattle.search.specs.declared.Spent.{Spent}
use Rattle.search.specs.Forms.{bounded}
use Rattle.sets.specs.declared.picks.Judged.{Judged}
use Rattle.sets.specs.declared.questions.Each.{Each}
use Rattle.sets.specs.declared.questions.Each.TheVariants.{Step, Smaller}
use Rattle.sets.specs.Told.{Told}
use Rattle.sets.specs.Judging.{judged_count, JudgedIs, reduced_count, reduced_sat}
use Rattle.sets.specs.ListingFound.{tells_bounded}

-- what is asked of a position of K: its step, or whether something smaller is safe without it
abbrev pub each_asks : (Meaning.Marks → Question → Answer) → Meaning.Marks → Each → ℕ → Answer
each_asks ask K Step d = ask K (Rules.step d)
each_asks ask K Smaller d = Rules.smaller_at ask K d

-- Rounds of S without q, judged, answers the question of a smaller set
module _ (ask : Meaning.Marks → Question → Answer) (k left q : ℕ) (S : Meaning.Marks) where
  pub smaller_spent : {s : Spent} → left < judged_count ask (reduced ask q S) → Err s ≡ bounded left (smaller_at ask S q)
  unfolding smaller_at
  smaller_spent {s} over = tells_bounded left (smaller_at ask S q) (Err s) (omega (arith, reduced_count ask q S, over))

  pub smaller_told : (r : Judged) → JudgedIs ask k left (reduced ask q S) (Ok r) → (b : Bool) → r.safe ≡ b
      → Told left (smaller_at ask S q) b r.used
  unfolding smaller_at
  smaller_told r is b safe =
      record {
        sat = ap not (reduced_sat ask q S) ∙ sym is.0.safe ∙ safe;
        count = reduced_count ask q S ∙ sym is.0.used;
        fits = omega (arith, is.0.used, is.1);
      }

-- What the answer to a question tells, with so many decisions left.
use Rattle.std.specs.Prelude.{ℕ, ◌≤◌, ◌<◌, ◌≡◌, refl, Bool, true, false, ltb, List, Ok, Err}
use Rattle.std.proofs.Common.{sym, ap, subst, ◌∙◌, ltb-true, ltb-false}
use Rattle.meaning.specs.Rules.{Answer}
use Rattle.search.specs.declared.Answer.TheVariants.{Yes, No}
use Rattle.format.specs.declared.Problem.{Problem}
use Rattle.search.specs.declared.Marks.{Marks}
use Rattle.search.specs.declared.Question.{Question}
use Rattle.search.specs.Forms.{Found, bounded, spent_if, yes_or_no, question_of}
use Rattle.sets.specs.Asks.{asks, marks_at}
use Rattle.sets.specs.declared.rounds.Way.{Way}
use Rattle.sets.specs.Forms.{way_of, way_asks}

-- satisfiable, or unsatisfiable, with u decisions, which were left
pub record Told (left : ℕ) (a : Answer) (b : Bool) (u : ℕ) : Type 0 where
  pub sat : a.sat ≡ b
  pub count : a.count ≡ u
  pub fits : u ≤ left

abbrev pub Tells : ℕ → Answer → Found → Type 0
Tells left a (Ok (Yes u)) = Told left a true u
Tells left a (Ok (No u)) = Told left a false u
Tells left a (Err s) = left < a.count

pub bounded_tells : (left : ℕ) (a : Answer) → Tells left a (bounded left a)
unfolding bounded spent_if yes_or_no
bounded_tells left a = go (ltb left a.count) refl
  where
    by_sat : a.count ≤ left → (sat : Bool) → a.sat ≡ sat → Tells left a (Ok (yes_or_no sat a.count))
    by_sat fits true e = record { sat = e; count = refl; fits = fits }
    by_sat fits false e = record { sat = e; count = refl; fits = fits }

    go : (over : Bool) → ltb left a.count ≡ over → Tells left a (spent_if over a)
    go true o = ltb-true left a.count o
    go false o = by_sat (ltb-false left a.count o) a.sat refl

-- the same, of the answer that was given
pub told_by : (left : ℕ) (a : Answer) {r f : Found} → r ≡ bounded left a → r ≡ f → Tells left a f
told_by left a e g = subst (Tells left a) (sym e ∙ g) (bounded_tells left a)

-- and of the question that a way of sifting asks
pub told_as : (file : List ℕ) (p : Problem) (s : Marks) (way : Way) (d left : ℕ) {q : Question} {r f : Found} → q ≡ way_of way d
    → r ≡ bounded left (asks file p (marks_at p.k s) (question_of q)) → r ≡ f → Tells left (way_asks file p s way d) f
told_as file p s way d left {q} e given is =
    told_by left (way_asks file p s way d)
    (given ∙ ap (λ (x : Question). bounded left (asks file p (marks_at p.k s) (question_of x))) e)
    is

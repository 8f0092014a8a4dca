-- A question of each position, up to the first that is satisfiable: one position at a time.
use Rattle.std.specs.Prelude.{ℕ, suc, ◌+◌, ◌-◌, ◌≤◌, ◌<◌, ◌≡◌, Bool, length, get_or, Ok}
use Rattle.std.proofs.Math.Path.{refl, sym, ap}
use Rattle.std.proofs.Common.{ap₂, subst, ◌∙◌, arith, add-one, drop-cons}
use Rattle.std.proofs.Math.Bool.{true, false}
use mathlib.Core.List.{[], ◌∷◌}
use Rattle.std.proofs.Math.ListN.{drop}
use Rattle.std.proofs.Math.Seq.{drop-length}
use Rattle.meaning.specs.Meaning
use Rattle.meaning.specs.Meaning.{has}
use Rattle.meaning.specs.Rules.{Answer, first_yes, or_then, counted_on, unless}
use Rattle.search.specs.declared.Answer.TheVariants.{No}
use Rattle.search.specs.Forms.{Found, bounded, later}
use Rattle.sets.specs.Told.{Told, Tells}
use Rattle.sets.specs.ListingFound.{Ends, if_in, no_answer, tells_bounded, ends_tells, after_tells, counted_twice, counted_none, goes_on}

module _ (ask_at : ℕ → Answer) (S : Meaning.Marks) where
  -- used decisions were taken by the positions before d, and none of them was satisfiable
  abbrev pub FirstLeft : ℕ → ℕ → Type 0
  FirstLeft used d = first_yes ask_at 0 S ≡ counted_on used (first_yes ask_at d (drop d S))

  pub first_start : FirstLeft 0 0
  first_start = sym (counted_none (first_yes ask_at 0 S))

  -- the next position
  first_next : (d : ℕ) → d < length S
      → first_yes ask_at d (drop d S) ≡ or_then (if_in (has S d) (ask_at d)) (first_yes ask_at (suc d) (drop (suc d) S))
  unfolding first_yes has or_then unless no_answer
  first_next d here = ap (first_yes ask_at d) (drop-cons S d false here) ∙ go (get_or S d false) (drop (suc d) S)
    where
      go : (b : Bool) (rest : Meaning.Marks)
          → first_yes ask_at d (b ∷ rest) ≡ or_then (if_in b (ask_at d)) (first_yes ask_at (suc d) rest)
      go true rest = refl
      go false rest = sym (counted_none (first_yes ask_at (suc d) rest))

  module _ (left used d : ℕ) (here : d < length S) (fits : used ≤ left) (h : FirstLeft used d) where
    next_is : first_yes ask_at 0 S ≡ counted_on used (or_then (if_in (has S d) (ask_at d)) (first_yes ask_at (suc d) (drop (suc d) S)))
    next_is = h ∙ ap (counted_on used) (first_next d here)

    -- its question is unsatisfiable: on to the one after it
    pub first_on : (u : ℕ) → Told (left - used) (if_in (has S d) (ask_at d)) false u → FirstLeft (used + u) (d + 1)
    first_on u told =
        next_is ∙ ap (counted_on used) (goes_on (if_in (has S d) (ask_at d)) _ told.sat)
        ∙ counted_twice used (if_in (has S d) (ask_at d)).count _
        ∙ ap₂ (λ (n e : ℕ). counted_on (used + n) (first_yes ask_at e (drop e S))) told.count (sym (add-one d))

    -- it ends the questions
    pub first_ends : (f : Found) → Ends f → Tells (left - used) (if_in (has S d) (ask_at d)) f
        → later used f ≡ bounded left (first_yes ask_at 0 S)
    first_ends f ends told =
        tells_bounded left (first_yes ask_at 0 S) (later used f)
        (subst (λ (a : Answer). Tells left a (later used f)) (sym next_is)
        (after_tells left used _ fits f (ends_tells (left - used) (if_in (has S d) (ask_at d)) _ f ends told)))

  -- no position is left
  pub first_none : (left used d : ℕ) → d ≡ length S → used ≤ left → FirstLeft used d → Ok (No used) ≡ bounded left (first_yes ask_at 0 S)
  unfolding first_yes counted_on
  first_none left used d e fits h =
      tells_bounded left (first_yes ask_at 0 S) (Ok (No used))
      (subst (λ (a : Answer). Tells left a (Ok (No used))) (sym (h ∙ ap (λ (l : Meaning.Marks). counted_on used (first_yes ask_at d l)) nothing_left)) done)
    where
      nothing_left : drop d S ≡ []
      nothing_left = ap (λ (n : ℕ). drop n S) e ∙ drop-length S

      done : Tells left (counted_on used (first_yes ask_at d [])) (Ok (No used))
      done = record { sat = refl; count = omega arith; fits = fits }

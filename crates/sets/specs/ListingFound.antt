-- An answer within a budget, after decisions that were used before it; and the position that is not in, of which nothing is asked.
use Rattle.std.specs.Prelude.{ℕ, ◌+◌, ◌-◌, ◌^◌, ◌≤◌, ◌<◌, ◌≡◌, refl, Bool, Ok, Err}
use Rattle.std.proofs.Common.{sym, subst, ◌∙◌, true≢false, arith, add_assoc, zero-add}
use Rattle.std.proofs.Math.Path.{ap}
use Rattle.std.proofs.Math.Bool.{true, false}
use Rattle.meaning.specs.Rules.{Answer, counted_on, or_then, unless}
use Rattle.search.specs.declared.Answer.{Answer as Held}
use Rattle.search.specs.declared.Answer.TheVariants.{Yes, No}
use Rattle.search.specs.Forms.{Found, bounded, later, Counts}
use Rattle.sets.specs.Told.{Told, Tells, bounded_tells, told_by}

-- an answer that ends a row of questions: satisfiable, or the budget is used up
abbrev pub Ends : Found → Type 0
Ends (Ok (Yes u)) = Unit {0}
Ends (Ok (No u)) = ⊥
Ends (Err s) = Unit {0}

-- so an answer that is not unsatisfiable ends them
pub ends_not_no : (f : Held) → ((u : ℕ) → f ≡ No u → ⊥) → Ends (Ok f)
ends_not_no (Yes u) h = tt
ends_not_no (No u) h = h u refl

unfoldable pub no_answer : Answer
no_answer = record { sat = false; count = 0 }

-- a question that is asked if the position is in
abbrev pub if_in : Bool → Answer → Answer
if_in true a = a
if_in false a = no_answer

module _ (left : ℕ) (a : Answer) where
  sat_differs : a.sat ≡ true → a.sat ≡ false → ⊥
  sat_differs p q = true≢false (sym p ∙ q)

  -- an answer tells one thing only
  tells_one : (f g : Found) → Tells left a f → Tells left a g → f ≡ g
  tells_one (Ok (Yes u)) (Ok (Yes v)) s t = ap (λ (n : ℕ). Ok (Yes n)) (sym s.count ∙ t.count)
  tells_one (Ok (Yes u)) (Ok (No v)) s t = absurd (sat_differs s.sat t.sat)
  tells_one (Ok (Yes u)) (Err e) s t = absurd (omega (arith, s.count, s.fits))
  tells_one (Ok (No u)) (Ok (Yes v)) s t = absurd (sat_differs t.sat s.sat)
  tells_one (Ok (No u)) (Ok (No v)) s t = ap (λ (n : ℕ). Ok (No n)) (sym s.count ∙ t.count)
  tells_one (Ok (No u)) (Err e) s t = absurd (omega (arith, s.count, s.fits))
  tells_one (Err e) (Ok (Yes v)) s t = absurd (omega (arith, t.count, t.fits))
  tells_one (Err e) (Ok (No v)) s t = absurd (omega (arith, t.count, t.fits))
  tells_one (Err e) (Err g) s t = refl

  -- so what tells it is the answer within the budget
  pub tells_bounded : (f : Found) → Tells left a f → f ≡ bounded left a
  tells_bounded f t = tells_one f (bounded left a) t (bounded_tells left a)

  -- an answer that ends the questions ends them, whatever would come after it
  pub ends_tells : (other : Answer) (f : Found) → Ends f → Tells left a f → Tells left (or_then a other) f
  unfolding or_then unless counted_on
  ends_tells other (Ok (Yes u)) h t =
      let is : unless a.sat a.count other ≡ record { sat = true; count = a.count } =
      ap (λ (b : Bool). unless b a.count other) t.sat in
      record { sat = ap (λ (x : Answer). x.sat) is; count = ap (λ (x : Answer). x.count) is ∙ t.count; fits = t.fits }
  ends_tells other (Ok (No u)) h t = absurd h
  ends_tells other (Err s) h t = go a.sat
    where
      go : (b : Bool) → left < (unless b a.count other).count
      go true = t
      go false = omega (arith, t)

-- a position that is not in costs nothing, and of another one its question is asked
pub if_out : (left : ℕ) (b : Bool) (a : Answer) → b ≡ false → Ok (No 0) ≡ bounded left (if_in b a)
unfolding no_answer
if_out left b a e =
    tells_bounded left (if_in b a) (Ok (No 0))
    (subst (λ (x : Bool). Told left (if_in x a) false 0) (sym e) (record { sat = refl; count = refl; fits = omega arith }))

pub if_asked : (left : ℕ) (b : Bool) (a : Answer) {r : Found} → b ≡ true → r ≡ bounded left a → r ≡ bounded left (if_in b a)
if_asked left b a e h = h ∙ sym (ap (λ (x : Bool). bounded left (if_in x a)) e)

module _ (left used : ℕ) (a : Answer) (fits : used ≤ left) where
  pub after_tells : (f : Found) → Tells (left - used) a f → Tells left (counted_on used a) (later used f)
  unfolding counted_on
  after_tells (Ok (Yes u)) t =
      record { sat = t.sat; count = ap (λ (n : ℕ). used + n) t.count; fits = omega (arith, t.fits) }
  after_tells (Ok (No u)) t = record { sat = t.sat; count = ap (λ (n : ℕ). used + n) t.count; fits = omega (arith, t.fits) }
  after_tells (Err s) t = omega (arith, t)

  pub after_fits : {f : Held} → left < 2 ^ 64 → Ok f ≡ bounded (left - used) a → Counts used f
  after_fits {f} most e = go f (told_by (left - used) a e refl)
    where
      go : (g : Held) → Tells (left - used) a (Ok g) → Counts used g
      go (Yes u) t = omega (arith, t.fits)
      go (No u) t = omega (arith, t.fits)

-- decisions before decisions
pub counted_twice : (d e : ℕ) (a : Answer) → counted_on d (counted_on e a) ≡ counted_on (d + e) a
unfolding counted_on
counted_twice d e a = ap (λ (n : ℕ). record { sat = a.sat; count = n }) (sym (add_assoc d e a.count))

pub counted_none : (a : Answer) → counted_on 0 a ≡ a
unfolding counted_on
counted_none a = ap (λ (n : ℕ). record { sat = a.sat; count = n }) (zero-add a.count)

-- an unsatisfiable question, and then the other
pub goes_on : (a other : Answer) → a.sat ≡ false → or_then a other ≡ counted_on a.count other
unfolding or_then unless
goes_on a other e = ap (λ (b : Bool). unless b a.count other) e

-- a question and, if it is unsatisfiable, the other
module _ (left : ℕ) (a other : Answer) where
  pub or_ends : (f : Found) → Ends f → f ≡ bounded left a → f ≡ bounded left (or_then a other)
  or_ends f ends e = tells_bounded left (or_then a other) f (ends_tells left a other f ends (told_by left a e refl))

  pub or_other : (u : ℕ) (g : Found) → Told left a false u → g ≡ bounded (left - u) other → later u g ≡ bounded left (or_then a other)
  or_other u g told e =
      tells_bounded left (or_then a other) (later u g)
      (subst (λ (x : Answer). Tells left x (later u g))
      (sym (goes_on a other told.sat ∙ ap (λ (n : ℕ). counted_on n other) told.count))
      (after_tells left u other told.fits g (told_by (left - u) other e refl)))

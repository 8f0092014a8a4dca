-- Why a latch line is refused: two numbers and, in edition 1.9, perhaps a third, its start value.
use Rattle.std.specs.Prelude.{ℕ, ◌≤◌, ◌<◌, ◌≡◌, Bool, true, cond, List, get_or}
use Rattle.std.proofs.Math.Path.{sym, ap}
use Rattle.std.proofs.Common.{subst, ◌∙◌, lt-ltb, le-ltb}
use Rattle.std.proofs.Math.Dec.{eqb}
use Rattle.meaning.specs.CircuitText.{latch_form, start_right, numbers_at}
use Rattle.lines.specs.declared.number.Number.{Number}
use Rattle.lines.specs.Numbers.{worth}
use Rattle.sections.specs.Rows.{value_small, value_least}
use Rattle.text_faults.specs.declared.definers.Places.{Places}
use Rattle.text_faults.specs.declared.cause.Cause.{Cause}
use Rattle.text_faults.specs.declared.cause.Cause.TheVariants.{Numbers, LatchNumbers, Reset, Start}
use Rattle.text_faults.specs.Causes.{numbered, literals_cause}

-- a latch of edition 1.9 with a start value
unfoldable pub start_cause : List ℕ → ℕ → ℕ → Places → Cause
start_cause text at m p = cond (start_right (latch_form true) (numbers_at text at)) (literals_cause text at 2 true m p) Start

-- a latch with three numbers
unfoldable pub third_cause : List ℕ → ℕ → Bool → ℕ → Places → Cause
third_cause text at newer m p = cond newer (start_cause text at m p) Reset

-- a latch with neither two numbers nor three
unfoldable pub latch_numbers : Bool → Cause
latch_numbers newer = cond newer LatchNumbers (Numbers 2)

unfoldable pub latch_cause : List ℕ → ℕ → Bool → ℕ → Places → Cause
latch_cause text at newer m p =
    cond (numbered 2 text at) (literals_cause text at 2 true m p)
    (cond (numbered 3 text at) (third_cause text at newer m p) (latch_numbers newer))

-- ---- laws of the third number

module _ (text : List ℕ) (at : ℕ) (x : Number) (is : worth x ≡ get_or (numbers_at text at) 2 0) where
  pub starts_constant : x.value < 2 → true ≡ start_right (latch_form true) (numbers_at text at)
  unfolding start_right latch_form
  starts_constant less =
      sym (rw (lt-ltb (get_or (numbers_at text at) 2 0) 2 (subst (λ (v : ℕ). v < 2) is (value_small x less))))

  pub starts_own : 2 ≤ x.value → (own : ℕ) → own ≡ get_or (numbers_at text at) 0 0 → (b : Bool) → b ≡ eqb (worth x) own
      → b ≡ start_right (latch_form true) (numbers_at text at)
  unfolding start_right latch_form
  starts_own more own own_is b said =
      said ∙ ap (λ (v : ℕ). eqb v own) is ∙ ap (eqb (get_or (numbers_at text at) 2 0)) own_is
      ∙ sym (rw (le-ltb (get_or (numbers_at text at) 2 0) 2 (subst (λ (v : ℕ). 2 ≤ v) is (value_least x more))))

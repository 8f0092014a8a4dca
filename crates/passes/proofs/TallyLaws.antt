-- A pass so far: what one clause more makes of it.
use mathlib.Core.Path.{◌≡◌, refl, sym, ap, ◌∙◌}
use Rattle.meaning.specs.Clauses.{Clause}
use Rattle.meaning.specs.Search.{Setting}
use Rattle.passes.specs.Sweep
use Rattle.passes.specs.Sweep.{met, failed, one, more, status, Next, satisfied, forced, try, Pass, closed, passed, opened, met_by, met_on, set_by, meet}
use Rattle.passes.specs.declared.Tally.{Tally}
use Rattle.passes.specs.declared.Status
use Rattle.passes.specs.declared.Tally.TheVariants.{Satisfied, Forced, Closed, Try}
use Rattle.passes.specs.declared.Status.TheVariants.{Holds, Fails, One, More}
use Rattle.format.specs.declared.Literal.{Literal as Held}
use Rattle.passes.specs.Forms.{status_of, tally_at}

-- a clause met by a pass, by its status

pub met_nothing : (p : Pass) → p ≡ met_on met p
unfolding met_on met_by
met_nothing closed = refl
met_nothing (passed v n) = refl

pub met_failed : (p : Pass) → closed ≡ met_on failed p
unfolding met_on met_by
met_failed closed = refl
met_failed (passed v n) = refl

-- a clause met by its status is the clause met
meet_at : (t : Tally) (v : Setting) (c : Clause) → met_on (status v c) (tally_at t v) ≡ meet c (tally_at t v)
unfolding met_on meet
meet_at Satisfied v c = refl
meet_at Forced v c = refl
meet_at Closed v c = refl
meet_at (Try l) v c = refl

-- a clause of a status that is not one forced place leaves the setting
pub set_by_other : (s : Status.Status) (v : Setting)
    → ((l : Held) → s ≡ One l → ⊥) → v ≡ set_by (status_of s) v
unfolding set_by
set_by_other Holds v h = refl
set_by_other Fails v h = refl
set_by_other (More l) v h = refl
set_by_other (One l) v h = absurd (h l refl)

-- one turn of a pass: a clause, its status, and the pass that has met it
abbrev pub Met : Tally → Setting → Status.Status → Tally → Setting → Type 0
Met t v s r u = tally_at r u ≡ met_on (status_of s) (tally_at t v)

pub turn : (t r : Tally) (s : Status.Status) (v u : Setting) (c : Clause) → status_of s ≡ status v c → Met t v s r u
    → meet c (tally_at t v) ≡ tally_at r u
turn t r s v u c e told = sym (meet_at t v c) ∙ ap (λ (x : Sweep.Status). met_on x (tally_at t v)) (sym e) ∙ sym told

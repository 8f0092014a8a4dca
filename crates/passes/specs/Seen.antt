-- What a scan of a clause has seen, held in two numbers: how many unset places, up to two, and where the first stands.
use Rattle.std.specs.Prelude.{ℕ, zero, suc, ◌+◌, ◌<◌, ◌≡◌, refl, List, length}
use Rattle.std.proofs.Common.{sym, ap, ◌∙◌}
use Rattle.meaning.specs.Clauses.{Literal}
use Rattle.meaning.specs.File.{literal_at}
use Rattle.passes.specs.Sweep.{Status, failed, one, more, seen}

abbrev pub more_places : ℕ → ℕ
more_places zero = 1
more_places (suc n) = 2

abbrev pub first_seen : ℕ → ℕ → ℕ → ℕ
first_seen zero first here = here
first_seen (suc n) first here = first

abbrev pub seen_places : List ℕ → ℕ → ℕ → Status
seen_places file zero first = failed
seen_places file (suc zero) first = one (literal_at file first)
seen_places file (suc (suc n)) first = more (literal_at file first)

-- the first unset place, where there is one, lies inside the file
abbrev pub FirstInside : List ℕ → ℕ → ℕ → Type 0
FirstInside file zero first = Unit {0}
FirstInside file (suc n) first = first + 1 < length file

-- one unset literal more
pub seen_more : (file : List ℕ) (n first here : ℕ)
    → seen (seen_places file n first) (literal_at file here) ≡ seen_places file (more_places n) (first_seen n first here)
unfolding seen
seen_more file zero first here = refl
seen_more file (suc zero) first here = refl
seen_more file (suc (suc n)) first here = refl

pub inside_more : (file : List ℕ) (n first here : ℕ) → here + 1 < length file → FirstInside file n first
    → FirstInside file (more_places n) (first_seen n first here)
inside_more file zero first here h i = h
inside_more file (suc n) first here h i = i

-- with some place seen
module _ (file : List ℕ) (n first here : ℕ) (some_seen : n ≡ 0 → ⊥) where
  pub places_two : 2 ≡ more_places n
  places_two = go n some_seen
    where
      go : (i : ℕ) → (i ≡ 0 → ⊥) → 2 ≡ more_places i
      go zero h = absurd (h refl)
      go (suc i) h = refl

  pub first_kept : first ≡ first_seen n first here
  first_kept = go n some_seen
    where
      go : (i : ℕ) → (i ≡ 0 → ⊥) → first ≡ first_seen i first here
      go zero h = absurd (h refl)
      go (suc i) h = refl

  pub first_inside : FirstInside file n first → first + 1 < length file
  first_inside = go n some_seen
    where
      go : (i : ℕ) → (i ≡ 0 → ⊥) → FirstInside file i first → first + 1 < length file
      go zero h = absurd (h refl)
      go (suc i) h = λ inside. inside

  pub seen_several : (n ≡ 1 → ⊥) → (l : Literal) → l ≡ literal_at file first → more l ≡ seen_places file n first
  seen_several not_one l e = go n some_seen not_one
    where
      go : (i : ℕ) → (i ≡ 0 → ⊥) → (i ≡ 1 → ⊥) → more l ≡ seen_places file i first
      go zero h g = absurd (h refl)
      go (suc zero) h g = absurd (g refl)
      go (suc (suc i)) h g = ap more e

pub seen_one : (file : List ℕ) (n first : ℕ) (l : Literal) → n ≡ 1 → l ≡ literal_at file first → one l ≡ seen_places file n first
seen_one file n first l is e = ap one e ∙ ap (λ (i : ℕ). seen_places file i first) (sym is)

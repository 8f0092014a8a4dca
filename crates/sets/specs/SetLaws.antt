-- Marks in an array: what a store does to the set.
use Rattle.std.specs.Prelude.{ℕ, zero, suc, ◌≤◌, ◌<◌, ◌≡◌, refl, Bool, true, false, List, ◌∷◌, length, set, take, get_or, replicate}
use Rattle.std.proofs.Common.{not-suc-le-zero, le_of_suc-le-suc, ap, ◌∙◌, length-take-le, get_or-take}
use Rattle.std.proofs.Math.Path.{subst⁻¹}
use Rattle.std.proofs.Math.Seq.{take-set-lt}
use Rattle.meaning.specs.Meaning.{has}
use Rattle.meaning.specs.Rules.{without, with_position}
use Rattle.search.specs.declared.Marks.{Marks}
use Rattle.sets.specs.Asks.{marks_at}

take_replicate : (k n : ℕ) (b : Bool) → k ≤ n → take k (replicate n b) ≡ replicate k b
take_replicate zero n b h = refl
take_replicate (suc k) zero b h = absurd (not-suc-le-zero h)
take_replicate (suc k) (suc n) b h = ap (λ (l : List Bool). b ∷ l) (take_replicate k n b (le_of_suc-le-suc h))

pub stored : (k : ℕ) (s r : Marks) (q : ℕ) (b : Bool) → q < k → r.on ≡ set s.on q b → marks_at k r ≡ set (marks_at k s) q b
unfolding marks_at
stored k s r q b h e = ap (take k) e ∙ take-set-lt k s.on q b h

module _ (k : ℕ) (s r : Marks) (q : ℕ) (h : q < k) where
  pub less_at : r.on ≡ without q s.on → marks_at k r ≡ without q (marks_at k s)
  unfolding without
  less_at e = stored k s r q false h e

  pub more_at : r.on ≡ with_position q s.on → marks_at k r ≡ with_position q (marks_at k s)
  unfolding with_position
  more_at e = stored k s r q true h e

-- a set of k positions, at most 128, in an array of 128 marks
pub marks_long : (k : ℕ) (s : Marks) → length s.on ≡ 128 → k ≤ 128 → length (marks_at k s) ≡ k
unfolding marks_at
marks_long k s long h = length-take-le k s.on (subst⁻¹ (λ (n : ℕ). k ≤ n) long h)

-- whether a position is in, read from the array
pub has_on : (k : ℕ) (s : Marks) (d : ℕ) (b : Bool) → d < k → get_or s.on d false ≡ b → has (marks_at k s) d ≡ b
unfolding has marks_at
has_on k s d b h e = get_or-take k s.on d false h ∙ e

-- every position of k, in an array of which every mark is set
pub every_mark : (k : ℕ) (s : Marks) (b : Bool) → s.on ≡ replicate 128 b → k ≤ 128 → marks_at k s ≡ replicate k b
unfolding marks_at
every_mark k s b e h = ap (take k) e ∙ take_replicate k 128 b h

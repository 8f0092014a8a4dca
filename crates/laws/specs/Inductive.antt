-- A set is inductive exactly if the initiation and step questions of its positions are unsatisfiable.
use Rattle.std.specs.Prelude.{ℕ, ◌<◌, ◌≡◌, ◌↔◌, true, false, length}
use Rattle.std.proofs.Common.{arith, sym, ◌∙◌, subst, true≢false}
use Rattle.std.proofs.Math.Decide.{dec_lt}
use Rattle.std.proofs.Math.ListN.{get_or-eq_default}
use Rattle.meaning.specs.Clauses.{holds}
use Rattle.meaning.specs.Meaning.{Problem, k, State, Marks, has, SetOf, lemmas_of, AllOf, Inductive}
use Rattle.meaning.specs.Rules.{initiation, step, lemma, asked}
use Rattle.laws.specs.Within.{WellFormed}
use Rattle.laws.specs.Marked.{each_at, all_at_marks}
use Rattle.laws.specs.Questions.{initiation_means, step_means}

-- what is in a set of positions is a position
pub position_below : (S : Marks) (d : ℕ) → has S d ≡ true → d < length S
unfolding has
position_below S d h = go (dec_lt d (length S))
  where
    go : Dec (d < length S) → d < length S
    go (yes below) = below
    go (no past) = absurd (true≢false (sym h ∙ get_or-eq_default S false (omega arith)))

-- all of S hold exactly if each of its lemmas does
pub all_of_means : (p : Problem) (S : Marks) → SetOf p S → (s : State)
    → AllOf p S s ↔ ((d : ℕ) → has S d ≡ true → holds s (lemma p d) ≡ true)
unfolding lemmas_of lemma k
all_of_means p S sized s = (
  λ h d i. each_at s S p.lemmas h d (subst (λ (m : ℕ). d < m) sized (position_below S d i)) i,
  λ f. all_at_marks s S p.lemmas (λ d g i. f d i),
)

pub inductive_means : (p : Problem) → WellFormed p → (S : Marks) → SetOf p S
    → Inductive p S
    ↔ (((d : ℕ) → has S d ≡ true → (asked p S (initiation d)).sat ≡ false)
    × ((d : ℕ) → has S d ≡ true → (asked p S (step d)).sat ≡ false))
inductive_means p f S sized = (
  λ h. (
    λ d i. (initiation_means p f S d).1 (λ s start. (each s).0 (h.0 s start) d i),
    λ d i. (step_means p f S d).1 (λ s t moved a. (each t).0 (h.1 s t moved a) d i),
  ),
  λ h. (
    λ s start. (each s).1 (λ d i. (initiation_means p f S d).0 (h.0 d i) s start),
    λ s t moved a. (each t).1 (λ d i. (step_means p f S d).0 (h.1 d i) s t moved a),
  ),
)
  where
    each : (s : State) → AllOf p S s ↔ ((d : ℕ) → has S d ≡ true → holds s (lemma p d) ≡ true)
    each = all_of_means p S sized

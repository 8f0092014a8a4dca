-- The laws on sets, which speak of answers, said of problems: what Largest set, One set and Listing give by the paper's own definitions.
use Rattle.std.specs.Prelude.{ℕ, ◌≡◌, ◌↔◌, true, false, List, [], ◌∷◌, ◌++◌, replicate}
use Rattle.std.proofs.Common.{ap, ◌∙◌}
use Rattle.std.proofs.Math.Option.{none, some}
use Rattle.std.proofs.lemmas.List.{length-replicate}
use Rattle.meaning.specs.Meaning.{Problem, k, Marks, has, SetOf, Inductive, SafeInductive, Minimal}
use Rattle.meaning.specs.Rules.{asked, largest, one, listing}
use Rattle.meaning.specs.Demands.{Complete, IsLargest, SomeSafeInductive}
use Rattle.laws.specs.Basics.{not_both}
use Rattle.laws.specs.Sets.{has_empty}
use Rattle.laws.specs.Within.{WellFormed}
use Rattle.laws.specs.Questions.{safety_means, initiation_any, step_monotone, safety_monotone}
use Rattle.laws.specs.Inductive.{inductive_means}
use Rattle.laws.specs.RoundsLargest.{Monotone, Ind, SafeSet, Least, largest_ind, largest_contains, largest_unique}
use Rattle.laws.specs.OneSet.{one_least, one_found, one_none}
use Rattle.laws.specs.ListingRight.{row_sets, rows_least, rows_every, rows_ordered, rows_once, one_last, listing_safe_iff}

module _ (p : Problem) (fine : WellFormed p) where
  pub monotone : Monotone (asked p)
  monotone = record { mono_step = step_monotone p fine; mono_safety = safety_monotone p fine }

  pub inductive_is : (S : Marks) → SetOf p S → Inductive p S ↔ Ind (asked p) (k p) S
  inductive_is S sized = (
    λ h.
        let asks = (inductive_means p fine S sized).0 h in
        (sized, (λ d i. ap (λ a. a.sat) (initiation_any p (replicate (k p) true) S d) ∙ asks.0 d i), asks.1),
    λ h.
        (inductive_means p fine S sized).1
        ((λ d i. ap (λ a. a.sat) (initiation_any p S (replicate (k p) true) d) ∙ h.1 d i), h.2),
  )

  -- safe and inductive, by questions and by meaning
  pub safe_inductive : (S : Marks) → Ind (asked p) (k p) S → SafeSet (asked p) S → SafeInductive p S
  safe_inductive S ind safe = ((safety_means p fine S).0 safe, (inductive_is S ind.0).1 ind)

  pub minimal_is : (S : Marks) → Minimal p S ↔ Least (asked p) (k p) S
  minimal_is S = (
    λ h. (
      (inductive_is S h.0).0 h.1.1,
      (safety_means p fine S).1 h.1.0,
      λ T sized part ind safe. h.2 T sized part (safe_inductive T ind safe),
    ),
    λ h. (
      h.0.0,
      safe_inductive S h.0 h.1,
      λ T sized part both. h.2 T sized part ((inductive_is T sized).0 both.1) ((safety_means p fine T).1 both.0),
    ),
  )

  -- The empty set is inductive.
  pub empty_inductive : Inductive p (replicate (k p) false)
  empty_inductive =
      let out : (d : ℕ) → has (replicate (k p) false) d ≡ true → ⊥ = λ d h. not_both h (has_empty (k p) d) in
      (inductive_is (replicate (k p) false) (length-replicate (k p) false)).1
      (length-replicate (k p) false, (λ d h. absurd (out d h)), λ d h. absurd (out d h))

  -- Largest set: inductive, and it contains every inductive set; there is one such set
  pub largest_is : IsLargest p (largest (asked p) (k p)).marks
  largest_is = (
    (largest_ind (asked p) (k p)).0,
    (inductive_is (largest (asked p) (k p)).marks (largest_ind (asked p) (k p)).0).1 (largest_ind (asked p) (k p)),
    λ S sized ind. largest_contains (asked p) monotone (k p) S ((inductive_is S sized).0 ind),
  )

  pub largest_one : (L : Marks) → IsLargest p L → L ≡ (largest (asked p) (k p)).marks
  largest_one L h =
      largest_unique (asked p) monotone (k p) L ((inductive_is L h.0).0 h.1)
      (λ T ind. h.2 T ind.0 ((inductive_is T ind.0).1 ind))

  -- One set: minimal; and there is none exactly if no subset of the candidates is safe and inductive
  pub one_minimal : (S : Marks) → (one (asked p) (k p)).found ≡ some S → Minimal p S
  one_minimal S e = (minimal_is S).1 (one_least (asked p) monotone (k p) S e)

  pub one_none_is : (one (asked p) (k p)).found ≡ none → SomeSafeInductive p → ⊥
  one_none_is e (S, sized, both) =
      one_none (asked p) monotone (k p) e S ((inductive_is S sized).0 both.1) ((safety_means p fine S).1 both.0)

  pub one_some_is : SomeSafeInductive p → (S : Marks) × ((one (asked p) (k p)).found ≡ some S)
  one_some_is (S, sized, both) =
      one_found (asked p) monotone (k p) S ((inductive_is S sized).0 both.1) ((safety_means p fine S).1 both.0)

  -- Listing: every minimal set, each once, in order; the one set is its last row; it is safe exactly if some subset would do
  pub listing_complete : Complete p (row_sets (asked p) (k p))
  listing_complete =
      record {
        minimal = λ S i. (minimal_is S).1 (rows_least (asked p) monotone (k p) S i);
        every = λ S h. rows_every (asked p) monotone (k p) S ((minimal_is S).0 h);
        once = rows_once (asked p) monotone (k p);
        ordered = rows_ordered (asked p) monotone (k p);
      }

  pub listing_last : (S : Marks) → (one (asked p) (k p)).found ≡ some S
      → (front : List Marks) × (row_sets (asked p) (k p) ≡ front ++ (S ∷ []))
  listing_last S e = one_last (asked p) monotone (k p) S e

  pub listing_safe : ((listing (asked p) (k p)).safe ≡ true) ↔ SomeSafeInductive p
  listing_safe = (
    λ e. let (S, ind, safe) = (listing_safe_iff (asked p) monotone (k p)).0 e in (S, ind.0, safe_inductive S ind safe),
    λ (S, sized, both).
        (listing_safe_iff (asked p) monotone (k p)).1
        (S, (inductive_is S sized).0 both.1, (safety_means p fine S).1 both.0),
  )

-- The listing holds every least safe inductive set, each once and in order, and ends with the one set; it is safe exactly where there is a
-- safe inductive set.
use Rattle.std.specs.Prelude.{ℕ, suc, ◌≡◌, ◌↔◌, Bool, replicate}
use Rattle.std.proofs.Math.Path.{refl}
use Rattle.std.proofs.Common.{sym, ◌∙◌, subst, true≢false, arith}
use Rattle.std.proofs.Math.Bool.{true, false, not}
use Rattle.std.proofs.Math.Option.{some}
use mathlib.Core.List.{List, [], ◌∷◌, ◌++◌, map}
use Rattle.std.proofs.lemmas.List.{length-replicate}
use Rattle.meaning.specs.Meaning.{Marks, Part}
use Rattle.meaning.specs.Demands.{In, Ordered, EachOnce}
use Rattle.meaning.specs.Rules.{Question, safety, Answer, Rows, size, counted_on, largest, largest_safety, one, node, list_if, listing}
use Rattle.laws.specs.Basics.{not_both, not_of_false, false_of_not}
use Rattle.laws.specs.Sets.{has_empty}
use Rattle.laws.specs.RowOrder.{ordered_once, ordered_last}
use Rattle.laws.specs.RoundsLargest.{SafeSet, Ind, Least, Monotone, largest_ind, largest_contains}
use Rattle.laws.specs.OneSet.{one_least, one_found, one_after}
use Rattle.laws.specs.NodeRight.{sets_of, Exactly, exactly_none, right_after, node_right}

-- the sets of the rows of the listing
abbrev pub row_sets : (Marks → Question → Answer) → ℕ → List Marks
row_sets ask k = map (λ r. r.marks) (listing ask k).rows

-- the node with which the listing begins
abbrev first_node : (Marks → Question → Answer) → ℕ → Rows
first_node ask k = node ask (suc (size (largest ask k).marks)) (replicate k false) (largest ask k).marks

empty_part : (k : ℕ) (S : Marks) → Part (replicate k false) S
empty_part k S q h = absurd (not_both h (has_empty k q))

module _ (ask : Marks → Question → Answer) where
  listing_safe : (k : ℕ) → (listing ask k).safe ≡ not (ask (largest ask k).marks safety).sat
  unfolding listing list_if largest_safety counted_on
  listing_safe k = by_safety (ask (largest ask k).marks safety).sat
    where
      by_safety : (b : Bool) → (list_if ask b (largest_safety ask k).count (first_node ask k)).safe ≡ not b
      by_safety true = refl
      by_safety false = refl

  pub rows_none : (k : ℕ) → (listing ask k).safe ≡ false → row_sets ask k ≡ []
  unfolding listing list_if
  rows_none k = by_safety (largest_safety ask k).sat
    where
      by_safety : (b : Bool) → (list_if ask b (largest_safety ask k).count (first_node ask k)).safe ≡ false
          → sets_of (list_if ask b (largest_safety ask k).count (first_node ask k)).rows ≡ []
      by_safety true e = refl
      by_safety false e = absurd (true≢false e)

  module _ (mono : Monotone ask) where
    safe_below : (k : ℕ) (T : Marks) → Ind ask k T → SafeSet ask T → SafeSet ask (largest ask k).marks
    safe_below k T i safe = mono.mono_safety T (largest ask k).marks (largest_contains ask mono k T i) safe

    rows_right : (k : ℕ) → Exactly ask k (replicate k false) (largest ask k).marks (row_sets ask k)
    unfolding listing list_if largest_safety counted_on
    rows_right k = by_safety (ask L safety).sat refl
      where
        L : Marks
        L = (largest ask k).marks

        by_safety : (b : Bool) → (ask L safety).sat ≡ b
            → Exactly ask k (replicate k false) L (sets_of (list_if ask b (largest_safety ask k).count (first_node ask k)).rows)
        by_safety true e = exactly_none ask k (replicate k false) L (λ M m. not_both e (safe_below k M m.0.0 m.0.1))
        by_safety false e =
            right_after ask k (replicate k false) L (largest_safety ask k).count (first_node ask k)
            (node_right ask mono k (suc (size L)) (replicate k false) L
            (record { part = empty_part k L; positions = length-replicate k false; ind = largest_ind ask k; safe = e })
            (omega arith))

    pub rows_least : (k : ℕ) (S : Marks) → In S (row_sets ask k) → Least ask k S
    rows_least k S h = ((rows_right k).only S h).0

    pub rows_every : (k : ℕ) (S : Marks) → Least ask k S → In S (row_sets ask k)
    rows_every k S m = (rows_right k).every S (m, empty_part k S, largest_contains ask mono k S m.0)

    pub rows_ordered : (k : ℕ) → Ordered (row_sets ask k)
    rows_ordered k = (rows_right k).ordered

    pub rows_once : (k : ℕ) → EachOnce (row_sets ask k)
    rows_once k = ordered_once (row_sets ask k) (rows_ordered k)

    pub one_last : (k : ℕ) (S : Marks) → (one ask k).found ≡ some S → (front : List Marks) × (row_sets ask k ≡ front ++ (S ∷ []))
    one_last k S e =
        ordered_last S (row_sets ask k) (rows_ordered k) (rows_every k S (one_least ask mono k S e))
        (λ M h. one_after ask mono k S e M (rows_least k M h))

    pub listing_safe_iff : (k : ℕ) → ((listing ask k).safe ≡ true) ↔ ((S : Marks) × Ind ask k S × SafeSet ask S)
    listing_safe_iff k = (
      λ h. ((largest ask k).marks, largest_ind ask k, false_of_not (ask (largest ask k).marks safety).sat (sym (listing_safe k) ∙ h)),
      λ t. listing_safe k ∙ not_of_false (safe_below k t.0 t.1 t.2),
    )

    pub rows_some : (k : ℕ) → (listing ask k).safe ≡ true → row_sets ask k ≡ [] → ⊥
    rows_some k h e =
        let t = (listing_safe_iff k).0 h in
        let s = one_found ask mono k t.0 t.1 t.2 in
        subst (λ (l : List Marks). In s.0 l) e (rows_every k s.0 (one_least ask mono k s.0 s.1))

-- What the questions of a node say of its set K: whether it is closed and safe, and whether there is a smaller such set.
use Prim.Native.Nat.{ℕ, suc}
use Rattle.std.specs.Prelude.{◌≡◌, refl, ◌⊎◌, Bool, true, false, ◌&&◌, ◌||◌, [], ◌∷◌}
use Rattle.std.proofs.Common.{sym, ap, ◌∙◌, inl, inr}
use Rattle.std.proofs.Math.ListN.{length}
use Rattle.meaning.specs.Clauses.{any}
use Rattle.meaning.specs.Meaning.{Marks, has, ProperPart}
use Rattle.meaning.specs.Rules.{Question, step, safety, Answer, each, counted_on, unless, or_then, first_yes}
use Rattle.meaning.specs.Rules.{reduced, reduced_safety, failing, smaller_at, smaller}
use Rattle.laws.specs.Basics.{not_both, not_true_is_false, or_cases, or_left, or_right, true_of_not, false_of_not}
use Rattle.laws.specs.Sets.{some_passes, none_passes}
use Rattle.laws.specs.RoundsLargest.{Closed, SafeSet, Ind, Least, Monotone}
use Rattle.laws.specs.RoundsLargest.{reduced_part, reduced_lacks, reduced_ind, reduced_contains}

-- a question for each position, up to the first satisfiable: satisfiable if one of them is

or_then_sat : (a other : Answer) → (or_then a other).sat ≡ (a.sat || other.sat)
unfolding or_then unless counted_on
or_then_sat a other = by_answer a.sat
  where
    by_answer : (b : Bool) → (unless b a.count other).sat ≡ (b || other.sat)
    by_answer true = refl
    by_answer false = refl

first_yes_any : (f : ℕ → Answer) (q : ℕ) (S : Marks) → (first_yes f q S).sat ≡ any (λ b. b) (each (λ d b. b && (f d).sat) q S)
unfolding first_yes each any
first_yes_any f q [] = refl
first_yes_any f q (false ∷ S) = first_yes_any f (suc q) S
first_yes_any f q (true ∷ S) =
    or_then_sat (f q) (first_yes f (suc q) S) ∙ ap (λ b. (f q).sat || b) (first_yes_any f (suc q) S)

pub no_yes : (f : ℕ → Answer) (S : Marks) → (first_yes f 0 S).sat ≡ false → (q : ℕ) → has S q ≡ true → (f q).sat ≡ false
no_yes f S h = none_passes (λ d. (f d).sat) S (sym (first_yes_any f 0 S) ∙ h)

pub some_yes : (f : ℕ → Answer) (S : Marks) → (first_yes f 0 S).sat ≡ true → (q : ℕ) × (has S q ≡ true) × ((f q).sat ≡ true)
some_yes f S h = some_passes (λ d. (f d).sat) S (sym (first_yes_any f 0 S) ∙ h)

module _ (ask : Marks → Question → Answer) where
  failing_sat : (K : Marks) → (failing ask K).sat ≡ ((first_yes (λ d. ask K (step d)) 0 K).sat || (ask K safety).sat)
  unfolding failing
  failing_sat K = or_then_sat (first_yes (λ d. ask K (step d)) 0 K) (ask K safety)

  pub not_failing : (K : Marks) → (failing ask K).sat ≡ false → Closed ask K × SafeSet ask K
  not_failing K e =
      let steps : Bool = (first_yes (λ d. ask K (step d)) 0 K).sat in
      let unsafe : Bool = (ask K safety).sat in
      let none_true : (steps || unsafe) ≡ true → ⊥ = λ t. not_both (failing_sat K ∙ t) e in (
        no_yes (λ d. ask K (step d)) K (not_true_is_false (λ t. none_true (or_left steps unsafe t))),
        not_true_is_false (λ t. none_true (or_right steps unsafe t)),
      )

  pub never_failing : (K : Marks) → Closed ask K → SafeSet ask K → (failing ask K).sat ≡ true → ⊥
  never_failing K closed safe e =
      by_question (or_cases (first_yes (λ d. ask K (step d)) 0 K).sat (ask K safety).sat (sym (failing_sat K) ∙ e))
    where
      at : (q : ℕ) × (has K q ≡ true) × ((ask K (step q)).sat ≡ true) → ⊥
      at t = not_both t.2 (closed t.0 t.1)

      by_question : ((first_yes (λ d. ask K (step d)) 0 K).sat ≡ true) ⊎ ((ask K safety).sat ≡ true) → ⊥
      by_question (inl h) = at (some_yes (λ d. ask K (step d)) K h)
      by_question (inr h) = not_both h safe

  pub some_smaller : (k : ℕ) (K : Marks) → Ind ask k K → (smaller ask K).sat ≡ true → Least ask k K → ⊥
  unfolding smaller smaller_at reduced_safety counted_on
  some_smaller k K i e least = at (some_yes (smaller_at ask K) K e)
    where
      at : (q : ℕ) × (has K q ≡ true) × ((smaller_at ask K q).sat ≡ true) → ⊥
      at t =
          let X : Marks = (reduced ask t.0 K).marks in
          let ind : Ind ask k X = reduced_ind ask k t.0 K i in
          least.2 X ind.0 (reduced_part ask t.0 K, (t.0, t.1, reduced_lacks ask t.0 K)) ind
          (false_of_not (ask X safety).sat t.2)

  module _ (mono : Monotone ask) where
    pub no_smaller : (k : ℕ) (K : Marks) → Ind ask k K → SafeSet ask K → (smaller ask K).sat ≡ false → Least ask k K
    unfolding smaller smaller_at reduced_safety counted_on
    no_smaller k K i safe e = (i, safe, none_below)
      where
        none_below : (T : Marks) → length T ≡ k → ProperPart T K → Ind ask k T → SafeSet ask T → ⊥
        none_below T l proper j s =
            let q : ℕ = proper.1.0 in
            let X : Marks = (reduced ask q K).marks in
            not_both (true_of_not (ask X safety).sat (no_yes (smaller_at ask K) K e q proper.1.1))
            (mono.mono_safety T X (reduced_contains ask mono q K T proper.0 proper.1.2 j.2) s)

-- What inductive, safe and minimal say of three starred cases, so that a change of one of these definitions is noticed. The tables of `Cases`
-- compute, and these do not: they speak of every state.
use Rattle.std.specs.Prelude.{zero, suc, ◌≡◌, refl, Bool, true, false, not, ◌&&◌, ◌||◌, [], ◌∷◌}
use Rattle.std.proofs.Common.{sym, true≢false}
use Rattle.meaning.specs.Clauses
use Rattle.meaning.specs.Clauses.{Values, all_hold}
use Rattle.meaning.specs.Meaning
use Rattle.meaning.specs.Meaning.{State, moment, Marks, BadState, has, Part, Safe, Inductive, Minimal}
use Rattle.meaning.specs.Cases
use Rattle.meaning.specs.Cases.{case_a, case_b, case_j, case_checksum}
use Rattle.meaning.specs.Examples.{three}

-- B: lemma 1 alone is safe; lemma 2 alone is not, by the state where it alone is true
pub b_first_safe : Safe case_b (true ∷ false ∷ false ∷ [])
unfolding case_b Cases.unit Meaning.moment Meaning.lemmas_of Meaning.at_marks Clauses.all_hold Clauses.holds Clauses.any Clauses.all Clauses.is_true
b_first_safe s h (x, bad) = go (s 1) (s 2) (s 3) h bad
  where
    go : (a b c : Bool) → (a || false) && true ≡ true → (not a || false) && ((not b || (not c || false)) && true) ≡ true → ⊥
    go true b c h bad = true≢false (sym bad)
    go false b c h bad = true≢false (sym h)

pub b_second_unsafe : Safe case_b (false ∷ true ∷ false ∷ []) → ⊥
unfolding three case_b Cases.unit Meaning.moment Meaning.lemmas_of Meaning.at_marks Clauses.all_hold Clauses.holds Clauses.any Clauses.all Clauses.is_true
b_second_unsafe safe = safe (three false true false) refl ((λ v. false), refl)

-- A: lemma 2 alone is not inductive, by the step from the state where it alone is true; the two lemmas together are
pub a_second_alone : Inductive case_a (false ∷ true ∷ []) → ⊥
unfolding three case_a Cases.takes Cases.unit Meaning.moment Meaning.lemmas_of Meaning.at_marks Clauses.all_hold Clauses.holds Clauses.any Clauses.all Clauses.is_true
a_second_alone ind =
    true≢false (sym (ind.1 (three false true false) (three true false false) ((λ v. false), refl) refl))

pub a_together : Inductive case_a (true ∷ true ∷ [])
unfolding case_a Cases.takes Cases.unit Meaning.moment Meaning.lemmas_of Meaning.at_marks Clauses.all_hold Clauses.holds Clauses.any Clauses.all Clauses.is_true
a_together = ((λ s h. h), λ s t move h. go (s 1) (s 2) (t 1) (t 2) move.1 h)
  where
    go : (a b a' b' : Bool)
        → (not a' || (b || false)) && ((a' || (not b || false)) && ((not b' || (a || false)) && ((b' || (not a || false)) && true))) ≡ true
        → (a || false) && ((b || false) && true) ≡ true → (a' || false) && ((b' || false) && true) ≡ true
    go a b true true move h = refl
    go true true true false move h = move
    go true true false b' move h = move
    go true false true false move h = absurd (true≢false (sym h))
    go true false false b' move h = absurd (true≢false (sym h))
    go false b true false move h = absurd (true≢false (sym h))
    go false b false b' move h = absurd (true≢false (sym h))

-- J: taking out any single lemma spoils the set of all three, and yet it is not minimal: lemma 3 alone is safe and inductive
j_third : Marks
j_third = false ∷ false ∷ true ∷ []

pub j_all : Marks
j_all = true ∷ true ∷ true ∷ []

j_part : Part j_third j_all
unfolding j_third j_all has
j_part zero h = refl
j_part (suc zero) h = refl
j_part (suc (suc zero)) h = refl
j_part (suc (suc (suc q))) h = h

j_third_safe : Safe case_j j_third
unfolding j_third case_j Cases.takes Cases.unit Meaning.moment Meaning.lemmas_of Meaning.at_marks Clauses.all_hold Clauses.holds Clauses.any Clauses.all Clauses.is_true
j_third_safe s h (x, bad) = go (s 3) h bad
  where
    go : (c : Bool) → (c || false) && true ≡ true → (not c || false) && true ≡ true → ⊥
    go true h bad = true≢false (sym bad)
    go false h bad = true≢false (sym h)

j_third_inductive : Inductive case_j j_third
unfolding j_third case_j Cases.takes Cases.unit Meaning.moment Meaning.lemmas_of Meaning.at_marks Clauses.all_hold Clauses.holds Clauses.any Clauses.all Clauses.is_true
j_third_inductive = ((λ s h. start (s 1) (s 2) (s 3) h), λ s t move h. go (s 1) (s 2) (s 3) (t 1) (t 2) (t 3) move.1 h)
  where
    start : (a b c : Bool) → (a || false) && ((b || false) && ((c || false) && true)) ≡ true → (c || false) && true ≡ true
    start true true c h = h
    start true false c h = absurd (true≢false (sym h))
    start false b c h = absurd (true≢false (sym h))

    fifth : (a b c d e : Bool) → a && (b && (c && (d && e))) ≡ true → e ≡ true
    fifth true true true true e h = h
    fifth true true true false e h = absurd (true≢false (sym h))
    fifth true true false d e h = absurd (true≢false (sym h))
    fifth true false c d e h = absurd (true≢false (sym h))
    fifth false b c d e h = absurd (true≢false (sym h))

    last : (c c' : Bool) → (not c' || (c || false)) && ((c' || (not c || false)) && true) ≡ true → (c || false) && true ≡ true
        → (c' || false) && true ≡ true
    last c true move h = refl
    last true false move h = move
    last false false move h = h

    go : (a b c a' b' c' : Bool)
        → (not a' || (b || false)) && ((a' || (not b || false)) && ((not b' || (a || false)) && ((b' || (not a || false)) && ((not c' || (c || false)) && ((c' || (not c || false)) && true))))) ≡ true
        → (c || false) && true ≡ true → (c' || false) && true ≡ true
    go a b c a' b' c' move h =
        last c c'
        (fifth (not a' || (b || false)) (a' || (not b || false)) (not b' || (a || false)) (b' || (not a || false))
        ((not c' || (c || false)) && ((c' || (not c || false)) && true)) move)
        h

pub j_all_not_minimal : Minimal case_j j_all → ⊥
unfolding j_third j_all has case_j Meaning.k
j_all_not_minimal least = least.2 j_third refl (j_part, (0, refl, refl)) (j_third_safe, j_third_inductive)

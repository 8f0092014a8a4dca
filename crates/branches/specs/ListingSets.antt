-- The lowest position in one set and not in another, one position at a time; and containing, by it.
use Rattle.std.specs.Prelude.{ℕ, suc, ◌+◌, ◌<◌, ◌≡◌, Bool, true, not, ◌&&◌, length, Some, None, is_none}
use Rattle.std.proofs.Math.Path.{sym, ap}
use Rattle.std.proofs.Common.{subst, ◌∙◌, add-one, drop-cons}
use Rattle.std.proofs.Math.Bool.{false}
use Rattle.std.proofs.Math.Option.{Option, none, some}
use Rattle.std.proofs.Math.ListN.{drop}
use Rattle.std.proofs.Math.Seq.{drop-length}
use Rattle.meaning.specs.Meaning
use Rattle.meaning.specs.Meaning.{has}
use Rattle.meaning.specs.Rules.{lowest, pick, contains}
use Rattle.laws.specs.Basics.{not_both, not_true_is_false}
use Rattle.laws.specs.Sets.{Lowest, lowest_is, contains_part, part_contains}
use Rattle.std.specs.declared.option.Option.{Option as Place}

-- the position that was found, as the rules have it
abbrev pub place_of : Place ℕ → Option ℕ
place_of (Some q) = some q
place_of None = none

-- it is one of k
abbrev pub PlaceIn : ℕ → Place ℕ → Type 0
PlaceIn k (Some q) = q < k
PlaceIn k None = Unit {0}

module _ (A K : Meaning.Marks) where
  -- no position before d is in A and not in K
  abbrev pub LowestLeft : ℕ → Type 0
  LowestLeft d = lowest 0 A K ≡ lowest d (drop d A) K

  lowest_next : (d : ℕ) → d < length A
      → lowest d (drop d A) K ≡ pick (has A d && not (has K d)) d (lowest (suc d) (drop (suc d) A) K)
  unfolding lowest has
  lowest_next d here = ap (λ (l : Meaning.Marks). lowest d l K) (drop-cons A d false here)

  -- d is in A and not in K, or is not
  pub lowest_here : (d : ℕ) → d < length A → (has A d && not (has K d)) ≡ true → LowestLeft d → some d ≡ lowest 0 A K
  unfolding pick
  lowest_here d here e h =
      sym (h ∙ lowest_next d here ∙ ap (λ (b : Bool). pick b d (lowest (suc d) (drop (suc d) A) K)) e)

  pub lowest_on : (d : ℕ) → d < length A → (has A d && not (has K d)) ≡ false → LowestLeft d → LowestLeft (d + 1)
  unfolding pick
  lowest_on d here e h =
      h ∙ lowest_next d here ∙ ap (λ (b : Bool). pick b d (lowest (suc d) (drop (suc d) A) K)) e
      ∙ ap (λ (n : ℕ). lowest n (drop n A) K) (sym (add-one d))

  pub lowest_none : (d : ℕ) → d ≡ length A → LowestLeft d → none ≡ lowest 0 A K
  unfolding lowest
  lowest_none d e h =
      sym (h ∙ ap (λ (l : Meaning.Marks). lowest d l K) (ap (λ (n : ℕ). drop n A) e ∙ drop-length A))

-- X contains K where no position is in K and not in X
module _ (X K : Meaning.Marks) where
  pub contains_all : lowest 0 K X ≡ none → contains X K ≡ true
  contains_all e = part_contains X K (subst (Lowest K X) e (lowest_is K X))

  pub contains_not : (q : ℕ) → lowest 0 K X ≡ some q → contains X K ≡ false
  contains_not q e =
      let found : Lowest K X (some q) = subst (Lowest K X) e (lowest_is K X) in
      not_true_is_false (λ t. not_both (contains_part X K t q found.0) found.1)

  -- so it does where the lowest one is none
  pub contains_none : (found : Place ℕ) → place_of found ≡ lowest 0 K X → is_none found ≡ contains X K
  contains_none None e = sym (contains_all (sym e))
  contains_none (Some q) e = sym (contains_not q (sym e))

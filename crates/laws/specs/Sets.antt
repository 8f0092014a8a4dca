-- Sets of positions, as marks: what each change leaves in, parts and sizes, and the lowest position between two sets.
use Rattle.std.specs.Prelude.{ℕ, zero, suc, ◌+◌, ◌≤◌, ◌<◌, ◌≡◌, refl, ◌⊎◌, Bool, true, false, not, ◌&&◌, ◌||◌, [], ◌∷◌, length, get_or, replicate}
use Rattle.std.proofs.Common.{zero-le, suc-le-suc, sym, ap, ◌∙◌, subst, inl, inr, true≢false, get_or-set_same, get_or-set_other, ext_get_or, zero-add, add-zero, add-suc, suc-add, not-suc-le-zero, arith}
use Rattle.std.proofs.Math.Option.{Option, none, some}
use Rattle.std.proofs.lemmas.List.{get_or-replicate}
use Rattle.std.proofs.Math.Decide.{ℕ_discrete}
use Rattle.meaning.specs.Clauses.{any, all}
use Rattle.meaning.specs.Meaning.{Marks, has, Part}
use Rattle.meaning.specs.Rules.{each, size, without, with_position, contains, pick, lowest}
use Rattle.laws.specs.Basics.{bool_cases, not_both, not_true_is_false, and_left, and_right, and_both, or_left, or_right, or_right_of}
use Rattle.laws.specs.Basics.{not_of_true, not_of_false, true_of_not, false_of_not}

-- f of each position, read at one position

each_shift : {A : Type 0} (f : ℕ → Bool → A) (q : ℕ) (S : Marks) → each f (suc q) S ≡ each (λ i. f (suc i)) q S
unfolding each
each_shift f q [] = refl
each_shift f q (b ∷ S) = ap (λ l. f (suc q) b ∷ l) (each_shift f (suc q) S)

pub each_at : {A : Type 0} (f : ℕ → Bool → A) (S : Marks) (q : ℕ) → get_or (each f 0 S) q (f q false) ≡ f q (has S q)
unfolding each has
each_at f [] q = refl
each_at f (b ∷ S) zero = refl
each_at f (b ∷ S) (suc q) =
    ap (λ l. get_or l q (f (suc q) false)) (each_shift f 0 S) ∙ each_at (λ i. f (suc i)) S q

pub has_filtered : (g : ℕ → Bool) (S : Marks) (q : ℕ) → has (each (λ d b. b && g d) 0 S) q ≡ (has S q && g q)
unfolding has
has_filtered g S q = each_at (λ d b. b && g d) S q

pub length_each : {A : Type 0} (f : ℕ → Bool → A) (q : ℕ) (S : Marks) → length (each f q S) ≡ length S
unfolding each
length_each f q [] = refl
length_each f q (b ∷ S) = ap suc (length_each f (suc q) S)

-- some mark is in, and a set that has a position

pub any_has : (S : Marks) → any (λ b. b) S ≡ true → (q : ℕ) × (has S q ≡ true)
unfolding any has
any_has [] h = absurd (true≢false (sym h))
any_has (true ∷ S) h = (0, refl)
any_has (false ∷ S) h = (suc (any_has S h).0, (any_has S h).1)

pub has_any : (S : Marks) (q : ℕ) → has S q ≡ true → any (λ b. b) S ≡ true
unfolding any has
has_any [] q h = h
has_any (b ∷ S) zero h = or_left b (any (λ c. c) S) h
has_any (b ∷ S) (suc q) h = or_right b (any (λ c. c) S) (has_any S q h)

-- some position of S passes g

pub some_passes : (g : ℕ → Bool) (S : Marks) → any (λ b. b) (each (λ d b. b && g d) 0 S) ≡ true
    → (q : ℕ) × (has S q ≡ true) × (g q ≡ true)
some_passes g S h = at (any_has (each (λ d b. b && g d) 0 S) h)
  where
    at : (q : ℕ) × (has (each (λ d b. b && g d) 0 S) q ≡ true) → (q : ℕ) × (has S q ≡ true) × (g q ≡ true)
    at t =
        let both : (has S t.0 && g t.0) ≡ true = sym (has_filtered g S t.0) ∙ t.1 in
        (t.0, and_left (has S t.0) (g t.0) both, and_right (has S t.0) (g t.0) both)

pub none_passes : (g : ℕ → Bool) (S : Marks) → any (λ b. b) (each (λ d b. b && g d) 0 S) ≡ false
    → (q : ℕ) → has S q ≡ true → g q ≡ false
none_passes g S h q e =
    not_true_is_false (λ t. not_both (has_any (each (λ d b. b && g d) 0 S) q (has_filtered g S q ∙ and_both (has S q) (g q) e t)) h)

-- a position that is in lies in range

pub has_range : (S : Marks) (q : ℕ) → has S q ≡ true → q < length S
unfolding has
has_range [] q h = absurd (true≢false (sym h))
has_range (b ∷ S) zero h = suc-le-suc zero-le
has_range (b ∷ S) (suc q) h = suc-le-suc (has_range S q h)

pub has_full : (k q : ℕ) → q < k → has (replicate k true) q ≡ true
unfolding has
has_full k q h = get_or-replicate k q true false h

pub has_empty : (k q : ℕ) → has (replicate k false) q ≡ false
unfolding has
has_empty zero q = refl
has_empty (suc k) zero = refl
has_empty (suc k) (suc q) = has_empty k q

pub has_without : (S : Marks) (q : ℕ) → has (without q S) q ≡ false
unfolding has without
has_without [] q = refl
has_without (b ∷ S) zero = refl
has_without (b ∷ S) (suc q) = has_without S q

pub has_with : (S : Marks) (q : ℕ) → q < length S → has (with_position q S) q ≡ true
unfolding has with_position
has_with S q h = get_or-set_same S q true false h

-- parts

pub part_trans : (S T U : Marks) → Part S T → Part T U → Part S U
part_trans S T U f g q h = g q (f q h)

pub part_lacks : (S T : Marks) → Part S T → (q : ℕ) → has T q ≡ false → has S q ≡ false
part_lacks S T f q h = not_true_is_false (λ e. not_both (f q e) h)

pub without_part : (S : Marks) (q : ℕ) → Part (without q S) S
unfolding has without
without_part S q r h = by_place (ℕ_discrete r q)
  where
    by_place : Dec (r ≡ q) → has S r ≡ true
    by_place (yes e) = absurd (not_both h (ap (has (without q S)) e ∙ has_without S q))
    by_place (no n) = sym (get_or-set_other S q r false false n) ∙ h

pub part_without : (S T : Marks) (q : ℕ) → Part T S → has T q ≡ false → Part T (without q S)
unfolding has without
part_without S T q f lacks r h = by_place (ℕ_discrete r q)
  where
    by_place : Dec (r ≡ q) → has (without q S) r ≡ true
    by_place (yes e) = absurd (not_both (sym (ap (has T) e) ∙ h) lacks)
    by_place (no n) = get_or-set_other S q r false false n ∙ f r h

pub part_with : (S : Marks) (q : ℕ) → Part S (with_position q S)
unfolding has with_position
part_with S q r h = by_place (ℕ_discrete r q)
  where
    by_place : Dec (r ≡ q) → has (with_position q S) r ≡ true
    by_place (yes e) = ap (has (with_position q S)) e ∙ has_with S q (subst (λ (n : ℕ). n < length S) e (has_range S r h))
    by_place (no n) = get_or-set_other S q r true false n ∙ h

pub with_part : (S T : Marks) (q : ℕ) → Part S T → has T q ≡ true → Part (with_position q S) T
unfolding has with_position
with_part S T q f has_it r h = by_place (ℕ_discrete r q)
  where
    by_place : Dec (r ≡ q) → has T r ≡ true
    by_place (yes e) = ap (has T) e ∙ has_it
    by_place (no n) = f r (sym (get_or-set_other S q r true false n) ∙ h)

pub equal_by_has : (S T : Marks) → length S ≡ length T → ((q : ℕ) → has S q ≡ has T q) → S ≡ T
unfolding has
equal_by_has S T e f = ext_get_or false S T e (λ q h. f q)

pub equal_by_parts : (S T : Marks) → length S ≡ length T → Part S T → Part T S → S ≡ T
equal_by_parts S T e f g = equal_by_has S T e (λ q. at q (bool_cases (has S q)))
  where
    at : (q : ℕ) → (has S q ≡ true) ⊎ (has S q ≡ false) → has S q ≡ has T q
    at q (inl h) = h ∙ sym (f q h)
    at q (inr h) = h ∙ sym (part_lacks T S g q h)

-- `contains`, as a part

all_at_default : (l : Marks) → all (λ b. b) l ≡ true → (q : ℕ) → get_or l q true ≡ true
unfolding all
all_at_default [] h q = refl
all_at_default (b ∷ l) h zero = and_left b (all (λ c. c) l) h
all_at_default (b ∷ l) h (suc q) = all_at_default l (and_right b (all (λ c. c) l) h) q

all_by_default : (l : Marks) → ((q : ℕ) → get_or l q true ≡ true) → all (λ b. b) l ≡ true
unfolding all
all_by_default [] f = refl
all_by_default (b ∷ l) f = and_both b (all (λ c. c) l) (f 0) (all_by_default l (λ q. f (suc q)))

pub contains_part : (S T : Marks) → contains S T ≡ true → Part T S
unfolding contains
contains_part S T h q e =
    or_right_of (not (has T q)) (has S q) (not_of_true e)
    (sym (each_at (λ r b. not b || has S r) T q) ∙ all_at_default (each (λ r b. not b || has S r) 0 T) h q)

pub part_contains : (S T : Marks) → Part T S → contains S T ≡ true
unfolding contains
part_contains S T f =
    all_by_default (each (λ r b. not b || has S r) 0 T)
    (λ q. each_at (λ r b. not b || has S r) T q ∙ at q (bool_cases (has T q)))
  where
    at : (q : ℕ) → (has T q ≡ true) ⊎ (has T q ≡ false) → (not (has T q) || has S q) ≡ true
    at q (inl e) = or_right (not (has T q)) (has S q) (f q e)
    at q (inr e) = or_left (not (has T q)) (has S q) (not_of_false e)

-- sizes

pub size_part : (S T : Marks) → Part S T → size S ≤ size T
unfolding has size
size_part [] T f = zero-le
size_part (true ∷ S) [] f = absurd (true≢false (sym (f 0 refl)))
size_part (false ∷ S) [] f = size_part S [] (λ q. f (suc q))
size_part (true ∷ S) (true ∷ T) f = suc-le-suc (size_part S T (λ q. f (suc q)))
size_part (true ∷ S) (false ∷ T) f = absurd (true≢false (sym (f 0 refl)))
size_part (false ∷ S) (true ∷ T) f = let tail : size S ≤ size T = size_part S T (λ q. f (suc q)) in omega arith
size_part (false ∷ S) (false ∷ T) f = size_part S T (λ q. f (suc q))

pub size_without : (S : Marks) (q : ℕ) → has S q ≡ true → suc (size (without q S)) ≡ size S
unfolding has size without
size_without [] q h = absurd (true≢false (sym h))
size_without (true ∷ S) zero h = refl
size_without (false ∷ S) zero h = absurd (true≢false (sym h))
size_without (true ∷ S) (suc q) h = ap suc (size_without S q h)
size_without (false ∷ S) (suc q) h = size_without S q h

-- a part that lacks a position is smaller
pub size_proper : (S T : Marks) → Part S T → (q : ℕ) → has T q ≡ true → has S q ≡ false → size S < size T
size_proper S T f q h lacks =
    let least : size S ≤ size (without q T) = size_part S (without q T) (part_without T S q f lacks) in
    omega (arith, size_without T q h)

-- what `lowest` finds: a position in A and not in K with every lower one of A in K; or none, where A is a part of K

abbrev pub Lowest : Marks → Marks → Option ℕ → Type 0
Lowest A K none = Part A K
Lowest A K (some q) = (has A q ≡ true) × (has K q ≡ false) × ((r : ℕ) → r < q → has A r ≡ true → has K r ≡ true)

-- the same where the first mark of A stands for the position q
abbrev LowestFrom : ℕ → Marks → Marks → Option ℕ → Type 0
LowestFrom q A K none = (i : ℕ) → has A i ≡ true → has K (q + i) ≡ true
LowestFrom q A K (some r) =
    (i : ℕ) × (r ≡ q + i) × (has A i ≡ true) × (has K r ≡ false)
    × ((j : ℕ) → j < i → has A j ≡ true → has K (q + j) ≡ true)

skip : (q : ℕ) (a : Bool) (A K : Marks) → (a ≡ true → has K q ≡ true) → (o : Option ℕ)
    → LowestFrom (suc q) A K o → LowestFrom q (a ∷ A) K o
unfolding has
skip q a A K first none rest = go
  where
    go : (i : ℕ) → has (a ∷ A) i ≡ true → has K (q + i) ≡ true
    go zero h = ap (has K) (add-zero q) ∙ first h
    go (suc i) h = ap (has K) (add-suc q i ∙ sym (suc-add q i)) ∙ rest i h
skip q a A K first (some r) rest =
    (suc rest.0, omega (arith, rest.1), rest.2, rest.3, go)
  where
    go : (j : ℕ) → j < suc rest.0 → has (a ∷ A) j ≡ true → has K (q + j) ≡ true
    go zero l h = ap (has K) (add-zero q) ∙ first h
    go (suc j) l h = ap (has K) (add-suc q j ∙ sym (suc-add q j)) ∙ rest.4 j (omega arith) h

lowest_from : (q : ℕ) (A K : Marks) → LowestFrom q A K (lowest q A K)
unfolding has pick lowest
lowest_from q [] K = λ i h. absurd (true≢false (sym h))
lowest_from q (a ∷ A) K = at (a && not (has K q)) refl (lowest_from (suc q) A K)
  where
    at : (b : Bool) → (a && not (has K q)) ≡ b → LowestFrom (suc q) A K (lowest (suc q) A K)
        → LowestFrom q (a ∷ A) K (pick b q (lowest (suc q) A K))
    at true e rest = (
      0,
      omega arith,
      and_left a (not (has K q)) e,
      false_of_not (has K q) (and_right a (not (has K q)) e),
      λ j l. absurd (not-suc-le-zero l),
    )
    at false e rest =
        skip q a A K (λ in_a. true_of_not (has K q) (not_true_is_false (λ t. not_both (and_both a (not (has K q)) in_a t) e)))
        (lowest (suc q) A K) rest

pub lowest_is : (A K : Marks) → Lowest A K (lowest 0 A K)
lowest_is A K = from_start (lowest 0 A K) (lowest_from 0 A K)
  where
    from_start : (o : Option ℕ) → LowestFrom 0 A K o → Lowest A K o
    from_start none f = λ q h. ap (has K) (sym (zero-add q)) ∙ f q h
    from_start (some q) t =
        let e : t.0 ≡ q = omega (arith, t.1) in
        (sym (ap (has A) e) ∙ t.2, t.3, λ r l h. ap (has K) (sym (zero-add r)) ∙ t.4 r (omega arith) h)

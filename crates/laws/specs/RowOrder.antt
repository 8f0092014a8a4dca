-- The order of rows: of two different sets one comes before the other; an ordered list has each set once, and ends with the last.
use Rattle.std.specs.Prelude.{ℕ, zero, suc, ◌<◌, ◌≡◌, refl, ◌⊎◌, Bool, true, false, List, [], ◌∷◌, ◌++◌, length}
use Rattle.std.proofs.Common.{sym, ap, ◌∙◌, subst, ap₂, inl, inr, suc-ne-zero, not-suc-le-zero, arith}
use Rattle.std.proofs.Math.Nat.{suc_inj}
use Rattle.meaning.specs.Meaning.{Marks, has}
use Rattle.meaning.specs.Demands.{In, Before, BeforeAll, Ordered, EachOnce}
use Rattle.laws.specs.Basics.{not_both, in_append_cases}

-- two sets

before_under : (b : Bool) (S T : Marks) → Before S T → Before (b ∷ S) (b ∷ T)
unfolding has
before_under b S T h = (suc h.0, h.1, h.2, agree)
  where
    agree : (r : ℕ) → r < suc h.0 → has (b ∷ S) r ≡ has (b ∷ T) r
    agree zero l = refl
    agree (suc r) l = h.3 r (omega arith)

either_under : (b : Bool) (S T : Marks) → (S ≡ T) ⊎ (Before S T ⊎ Before T S)
    → (b ∷ S ≡ b ∷ T) ⊎ (Before (b ∷ S) (b ∷ T) ⊎ Before (b ∷ T) (b ∷ S))
either_under b S T (inl e) = inl (ap (λ l. b ∷ l) e)
either_under b S T (inr (inl h)) = inr (inl (before_under b S T h))
either_under b S T (inr (inr h)) = inr (inr (before_under b T S h))

before_at_first : (S T : Marks) → Before (true ∷ S) (false ∷ T)
unfolding has
before_at_first S T = (0, refl, refl, λ r l. absurd (not-suc-le-zero l))

pub same_or_before : (S T : Marks) → length S ≡ length T → (S ≡ T) ⊎ (Before S T ⊎ Before T S)
same_or_before [] [] e = inl refl
same_or_before [] (t ∷ T) e = absurd (suc-ne-zero (length T) (sym e))
same_or_before (s ∷ S) [] e = absurd (suc-ne-zero (length S) e)
same_or_before (true ∷ S) (true ∷ T) e = either_under true S T (same_or_before S T (suc_inj e))
same_or_before (true ∷ S) (false ∷ T) e = inr (inl (before_at_first S T))
same_or_before (false ∷ S) (true ∷ T) e = inr (inr (before_at_first T S))
same_or_before (false ∷ S) (false ∷ T) e = either_under false S T (same_or_before S T (suc_inj e))

pub not_before_itself : (S : Marks) → Before S S → ⊥
not_before_itself S h = not_both h.1 h.2

pub not_both_before : (S T : Marks) → Before S T → Before T S → ⊥
not_both_before S T h g =
    let not_lower : h.0 < g.0 → ⊥ = λ l. not_both h.1 (sym (g.3 h.0 l) ∙ h.2) in
    let not_higher : g.0 < h.0 → ⊥ = λ l. not_both g.1 (sym (h.3 g.0 l) ∙ g.2) in
    let same : h.0 ≡ g.0 = omega arith in
    not_both h.1 (ap (has S) same ∙ g.2)

-- lists of sets

before_all_at : (S T : Marks) (l : List Marks) → BeforeAll S l → In T l → Before S T
before_all_at S T [] h x'' = elim x'' [ ]
before_all_at S T (U ∷ l) h (inl e) = subst (λ (X : Marks). Before S X) (sym e) h.0
before_all_at S T (U ∷ l) h (inr g) = before_all_at S T l h.1 g

before_all_of : (S : Marks) (l : List Marks) → ((T : Marks) → In T l → Before S T) → BeforeAll S l
before_all_of S [] f = tt
before_all_of S (T ∷ l) f = (f T (inl refl), before_all_of S l (λ U h. f U (inr h)))

pub ordered_append : (l m : List Marks) → Ordered l → Ordered m
    → ((S T : Marks) → In S l → In T m → Before S T) → Ordered (l ++ m)
ordered_append [] m ol om f = om
ordered_append (S ∷ l) m ol om f = (
  before_all_of S (l ++ m) (λ T h. first T (in_append_cases T l m h)),
  ordered_append l m ol.1 om (λ T U h. f T U (inr h)),
)
  where
    first : (T : Marks) → In T l ⊎ In T m → Before S T
    first T (inl h) = before_all_at S T l ol.0 h
    first T (inr h) = f S T (inl refl) h

pub ordered_once : (l : List Marks) → Ordered l → EachOnce l
ordered_once [] o = tt
ordered_once (S ∷ l) o = (λ h. not_before_itself S (before_all_at S S l o.0 h), ordered_once l o.1)

-- a set that no other of the list comes after is the last of it
pub ordered_last : (S : Marks) (l : List Marks) → Ordered l → In S l
    → ((T : Marks) → In T l → (T ≡ S) ⊎ Before T S) → (front : List Marks) × (l ≡ front ++ (S ∷ []))
ordered_last S [] o h after = absurd h
ordered_last S (U ∷ []) o (inl e) after = ([], ap (λ X. X ∷ []) (sym e))
ordered_last S (U ∷ []) o (inr h) after = absurd h
ordered_last S (U ∷ T ∷ l) o (inl e) after = absurd (not_after (after T (inr (inl refl))))
  where
    then : Before S T
    then = subst (λ (X : Marks). Before X T) (sym e) o.0.0

    not_after : (T ≡ S) ⊎ Before T S → ⊥
    not_after (inl same) = not_before_itself S (subst (λ (X : Marks). Before S X) same then)
    not_after (inr h) = not_both_before S T then h
ordered_last S (U ∷ T ∷ l) o (inr h) after = further (ordered_last S (T ∷ l) o.1 h (λ X g. after X (inr g)))
  where
    further : (front : List Marks) × (T ∷ l ≡ front ++ (S ∷ [])) → (front : List Marks) × (U ∷ T ∷ l ≡ front ++ (S ∷ []))
    further t = (U ∷ t.0, ap (λ m. U ∷ m) t.1)

-- ordered lists of the same sets are equal
pub ordered_unique : (l m : List Marks) → Ordered l → Ordered m → ((S : Marks) → In S l → In S m) → ((S : Marks) → In S m → In S l) → l ≡ m
ordered_unique [] [] ol om to from = refl
ordered_unique [] (T ∷ m) ol om to from = absurd (from T (inl refl))
ordered_unique (S ∷ l) [] ol om to from = absurd (to S (inl refl))
ordered_unique (S ∷ l) (T ∷ m) ol om to from =
    let same = heads (to S (inl refl)) (from T (inl refl)) in
    ap₂ {A = Marks} {B = List Marks} {C = List Marks} (λ U rest. U ∷ rest) same
    (ordered_unique l m ol.1 om.1
    (λ U i. tail_in S T l m same ol.0 U i (to U (inr i)))
    (λ U i. tail_in T S m l (sym same) om.0 U i (from U (inr i))))
  where
    heads : In S (T ∷ m) → In T (S ∷ l) → S ≡ T
    heads (inl e) j = e
    heads (inr i) (inl e) = sym e
    heads (inr i) (inr j) = absurd (not_both_before S T (before_all_at S T l ol.0 j) (before_all_at T S m om.0 i))

    tail_in : (A B : Marks) (as' bs : List Marks) → A ≡ B → BeforeAll A as' → (U : Marks) → In U as' → In U (B ∷ bs) → In U bs
    tail_in A B as' bs e before U i (inl g) =
        absurd (not_before_itself A (subst (Before A) (g ∙ sym e) (before_all_at A U as' before i)))
    tail_in A B as' bs e before U i (inr j) = j

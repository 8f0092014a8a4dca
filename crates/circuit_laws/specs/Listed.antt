-- Numbers in a list: whether one is among them, where it stands, and lists in which none stands twice.
use Rattle.std.specs.Prelude.{ℕ, suc, ◌+◌, ◌<◌, ◌≡◌, refl, ◌⊎◌, true, false, List, [], ◌∷◌, ◌++◌, map, length, get_or, eqb}
use Rattle.std.proofs.Common.{arith, sym, ap, subst, ◌∙◌, inl, inr, eqb-true, eq-eqb, ne_eqb}
use Rattle.std.proofs.lemmas.Bool.{eqb-false}
use Rattle.meaning.specs.Clauses.{Values}
use Rattle.meaning.specs.Demands.{In}
use Rattle.meaning.specs.Built.{among, position}
use Rattle.laws.specs.Basics.{bool_cases, not_true_is_false, any_of, any_at, in_append_left, in_append_right}
use Rattle.circuit_laws.specs.Sane.{Once}

pub among_of : (u : ℕ) (us : List ℕ) → In u us → among u us ≡ true
unfolding among
among_of u us i = any_of (eqb u) u us i (eq-eqb u u refl)

pub among_is : (u : ℕ) (us : List ℕ) → among u us ≡ true → In u us
unfolding among
among_is u us h =
    let found = any_at (eqb u) us h in
    subst (λ (a : ℕ). In a us) (sym (eqb-true u found.0 found.2)) found.1

pub not_among : (u : ℕ) (us : List ℕ) → (In u us → ⊥) → among u us ≡ false
not_among u us f = not_true_is_false (λ h. f (among_is u us h))

-- ---- where it stands

-- at the first place, or later
pub position_here : (u v : ℕ) (us : List ℕ) → u ≡ v → position u (v ∷ us) ≡ 0
unfolding position
position_here u v us e = cc (eq-eqb u v e)

pub position_later : (u v : ℕ) (us : List ℕ) → (u ≡ v → ⊥) → position u (v ∷ us) ≡ suc (position u us)
unfolding position
position_later u v us f = cc (ne_eqb u v f)

-- a member of a list stands first, or is another and stands later
pub in_cases : (u v : ℕ) (us : List ℕ) → In u (v ∷ us) → (u ≡ v) ⊎ ((u ≡ v → ⊥) × In u us)
in_cases u v us (inl e) = inl e
in_cases u v us (inr i) = go (bool_cases (eqb u v))
  where
    go : (eqb u v ≡ true) ⊎ (eqb u v ≡ false) → (u ≡ v) ⊎ ((u ≡ v → ⊥) × In u us)
    go (inl e) = inl (eqb-true u v e)
    go (inr e) = inr (eqb-false u v e, i)

pub position_range : (u : ℕ) (us : List ℕ) → In u us → position u us < length us
position_range u [] i = elim i [ ]
position_range u (v ∷ us) i = go (in_cases u v us i) (position_range u us)
  where
    go : (u ≡ v) ⊎ ((u ≡ v → ⊥) × In u us) → (In u us → position u us < length us) → position u (v ∷ us) < suc (length us)
    go (inl e) rest = omega (arith, position_here u v us e)
    go (inr (f, later)) rest = omega (arith, position_later u v us f, rest later)

pub at_position : (u : ℕ) (us : List ℕ) → In u us → get_or us (position u us) 0 ≡ u
at_position u [] i = elim i [ ]
at_position u (v ∷ us) i = go (in_cases u v us i) (at_position u us)
  where
    go : (u ≡ v) ⊎ ((u ≡ v → ⊥) × In u us) → (In u us → get_or us (position u us) 0 ≡ u) → get_or (v ∷ us) (position u (v ∷ us)) 0 ≡ u
    go (inl e) rest = rw (position_here u v us e) (sym e)
    go (inr (f, later)) rest = rw (position_later u v us f) (rest later)

pub position_first : (u : ℕ) (us vs : List ℕ) → In u us → position u (us ++ vs) ≡ position u us
position_first u [] vs i = elim i [ ]
position_first u (v ∷ us) vs i = go (in_cases u v us i) (position_first u us vs)
  where
    go : (u ≡ v) ⊎ ((u ≡ v → ⊥) × In u us) → (In u us → position u (us ++ vs) ≡ position u us)
        → position u (v ∷ us ++ vs) ≡ position u (v ∷ us)
    go (inl e) rest = position_here u v (us ++ vs) e ∙ sym (position_here u v us e)
    go (inr (f, later)) rest = position_later u v (us ++ vs) f ∙ ap suc (rest later) ∙ sym (position_later u v us f)

-- ---- none stands twice

pub once_left : (us vs : List ℕ) → Once (us ++ vs) → Once us
once_left [] vs o = tt
once_left (u ∷ us) vs o = ((λ i. o.0 (in_append_left u us vs i)), once_left us vs o.1)

pub once_right : (us vs : List ℕ) → Once (us ++ vs) → Once vs
once_right [] vs o = o
once_right (u ∷ us) vs o = once_right us vs o.1

pub once_apart : (us vs : List ℕ) → Once (us ++ vs) → (u : ℕ) → In u us → In u vs → ⊥
once_apart [] vs o u x3 j = elim x3 [ ]
once_apart (v ∷ us) vs o u (inl e) j = o.0 (in_append_right v us vs (subst (λ (a : ℕ). In a vs) e j))
once_apart (v ∷ us) vs o u (inr i) j = once_apart us vs o.1 u i j

module _ {A B : Type 0} (f : A → B) where
  pub in_map : (a : A) (as' : List A) → In a as' → In (f a) (map f as')
  in_map a [] x' = elim x' [ ]
  in_map a (x ∷ as') (inl e) = inl (ap f e)
  in_map a (x ∷ as') (inr i) = inr (in_map a as' i)

  pub map_at : (b : B) (as' : List A) → In b (map f as') → (a : A) × In a as' × (b ≡ f a)
  map_at b [] x' = elim x' [ ]
  map_at b (x ∷ as') (inl e) = (x, inl refl, e)
  map_at b (x ∷ as') (inr i) = let found = map_at b as' i in (found.0, inr found.1, found.2)

module _ {A : Type 0} (f : A → ℕ) where
  -- of those that stand for numbers of which none stands twice, one stands for each
  pub once_one : (as' : List A) → Once (map f as') → (a b : A) → In a as' → In b as' → f a ≡ f b → a ≡ b
  once_one [] o a b x4 _ same = elim x4 [ ]
  once_one (x ∷ as') o a b (inl e) (inl e') same = e ∙ sym e'
  once_one (x ∷ as') o a b (inl e) (inr j) same =
      absurd (o.0 (subst (λ (u : ℕ). In u (map f as')) (sym same ∙ ap f e) (in_map f b as' j)))
  once_one (x ∷ as') o a b (inr i) (inl e) same =
      absurd (o.0 (subst (λ (u : ℕ). In u (map f as')) (same ∙ ap f e) (in_map f a as' i)))
  once_one (x ∷ as') o a b (inr i) (inr j) same = once_one as' o.1 a b i j same

-- ---- the numbers of a list, from i on, have the values that x gives

abbrev pub Stand : Values → Values → ℕ → List ℕ → Type 0
Stand v x i [] = Unit {0}
Stand v x i (u ∷ us) = (v u ≡ x i) × Stand v x (suc i) us

module _ (v x : Values) where
  pub stand_at : (i : ℕ) (us : List ℕ) → Stand v x i us → (u : ℕ) → In u us → v u ≡ x (i + position u us)
  stand_at i [] h u j = elim j [ ]
  stand_at i (a ∷ us) h u j = go (in_cases u a us j) (stand_at (suc i) us h.1 u)
    where
      go : (u ≡ a) ⊎ ((u ≡ a → ⊥) × In u us) → (In u us → v u ≡ x (suc i + position u us)) → v u ≡ x (i + position u (a ∷ us))
      go (inl e) rest =
          let here : i + position u (a ∷ us) ≡ i = omega (arith, position_here u a us e) in
          ap v e ∙ h.0 ∙ ap x (sym here)
      go (inr (f, later)) rest =
          let there : suc i + position u us ≡ i + position u (a ∷ us) = omega (arith, position_later u a us f) in
          rest later ∙ ap x there

  pub stand_of : (i : ℕ) (us : List ℕ) → Once us → ((u : ℕ) → In u us → v u ≡ x (i + position u us)) → Stand v x i us
  stand_of i [] o f = tt
  stand_of i (a ∷ us) o f = (here, stand_of (suc i) us o.1 later)
    where
      here : v a ≡ x i
      here =
          let at : i + position a (a ∷ us) ≡ i = omega (arith, position_here a a us refl) in
          f a (inl refl) ∙ ap x at

      later : (u : ℕ) → In u us → v u ≡ x (suc i + position u us)
      later u j =
          let at : i + position u (a ∷ us) ≡ suc i + position u us =
          omega (arith, position_later u a us (λ e. o.0 (subst (λ (b : ℕ). In b us) e j))) in
          f u (inr j) ∙ ap x at

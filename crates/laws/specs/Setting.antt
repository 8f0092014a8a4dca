-- Settings: what a literal is worth once another one is set, how many entries are unset, and the values that complete a setting.
use Rattle.std.specs.Prelude.{ℕ, zero, suc, ◌<◌, ◌≡◌, refl, ◌⊎◌, Bool, true, false, not, [], ◌∷◌, length, get_or, set, replicate}
use Rattle.std.proofs.Common.{not-suc-le-zero, le_of_suc-le-suc, sym, ap, ◌∙◌, inl, inr, length-set, get_or-set_same, get_or-set_other}
use Rattle.std.proofs.Math.Decide.{ℕ_discrete}
use Rattle.std.proofs.Math.Bool.{not-not}
use Rattle.std.proofs.Math.Option
use Rattle.std.proofs.Math.Option.{Option, none, some, none-ne-some, some-injective}
use Rattle.std.proofs.lemmas.List.{length-replicate, set_comm}
use Rattle.meaning.specs.Clauses.{Literal, pos, neg, variable, negation, Values, is_true}
use Rattle.meaning.specs.Search.{Setting, blank, flipped, value, with_literal}

-- how many entries are unset
unfoldable pub unset_count : Setting → ℕ
unset_count [] = zero
unset_count (none ∷ v) = suc (unset_count v)
unset_count (some b ∷ v) = unset_count v

-- the values w agree with all that v sets
abbrev pub Completes : Setting → Values → Type 0
Completes v w = (x : ℕ) (b : Bool) → get_or v x none ≡ some b → w x ≡ b

pub unset_or_set : (o : Option Bool) → (o ≡ none) ⊎ ((b : Bool) × (o ≡ some b))
unset_or_set none = inl refl
unset_or_set (some b) = inr (b, refl)

-- two literals speak of the same variable, or they do not
pub same_variable? : (l m : Literal) → (variable l ≡ variable m) ⊎ (variable l ≡ variable m → ⊥)
same_variable? l m = go (ℕ_discrete (variable l) (variable m))
  where
    go : Dec (variable l ≡ variable m) → (variable l ≡ variable m) ⊎ (variable l ≡ variable m → ⊥)
    go (yes e) = inl e
    go (no h) = inr h

-- of one variable there are two literals
pub same_or_negation : (l m : Literal) → variable l ≡ variable m → (l ≡ m) ⊎ (l ≡ negation m)
unfolding variable negation
same_or_negation (pos x) (pos y) e = inl (ap pos e)
same_or_negation (pos x) (neg y) e = inr (ap pos e)
same_or_negation (neg x) (pos y) e = inr (ap neg e)
same_or_negation (neg x) (neg y) e = inl (ap neg e)

pub variable_negation : (l : Literal) → variable (negation l) ≡ variable l
unfolding variable negation
variable_negation (pos x) = refl
variable_negation (neg x) = refl

pub negation_twice : (l : Literal) → negation (negation l) ≡ l
unfolding negation
negation_twice (pos x) = refl
negation_twice (neg x) = refl

-- what v holds of a literal's variable decides its value
pub value_of_entry : (u v : Setting) (l : Literal) → get_or u (variable l) none ≡ get_or v (variable l) none → value u l ≡ value v l
unfolding variable value
value_of_entry u v (pos x) e = e
value_of_entry u v (neg x) e = ap flipped e

pub unset_entry : (v : Setting) (l : Literal) → value v l ≡ none → get_or v (variable l) none ≡ none
unfolding variable value flipped
unset_entry v (pos x) e = e
unset_entry v (neg x) e = unflip (get_or v x none) e
  where
    unflip : (o : Option Bool) → flipped o ≡ none → o ≡ none
    unflip none h = refl
    unflip (some b) h = absurd (none-ne-some (not b) (sym h))

pub unset_value : (v : Setting) (l : Literal) → get_or v (variable l) none ≡ none → value v l ≡ none
unfolding variable value flipped
unset_value v (pos x) e = e
unset_value v (neg x) e = ap flipped e

-- a literal is unset together with any other of its variable
pub unset_both : (v : Setting) (l m : Literal) → variable l ≡ variable m → value v l ≡ none → value v m ≡ none
unset_both v l m e h = unset_value v m (ap (λ (x : ℕ). get_or v x none) (sym e) ∙ unset_entry v l h)

pub value_negation : (v : Setting) (l : Literal) → value v (negation l) ≡ flipped (value v l)
unfolding value negation flipped
value_negation v (pos x) = refl
value_negation v (neg x) = sym (flipped_twice (get_or v x none))
  where
    flipped_twice : (o : Option Bool) → flipped (flipped o) ≡ o
    flipped_twice none = refl
    flipped_twice (some b) = ap some (not-not b)

-- what setting a literal does

pub length_with : (v : Setting) (l : Literal) → length (with_literal v l) ≡ length v
unfolding with_literal
length_with v (pos x) = length-set v x (some true)
length_with v (neg x) = length-set v x (some false)

pub entry_other : (v : Setting) (l : Literal) (x : ℕ) → (x ≡ variable l → ⊥) → get_or (with_literal v l) x none ≡ get_or v x none
unfolding with_literal variable
entry_other v (pos y) x h = get_or-set_other v y x (some true) none h
entry_other v (neg y) x h = get_or-set_other v y x (some false) none h

pub value_same : (v : Setting) (l : Literal) → variable l < length v → value (with_literal v l) l ≡ some true
unfolding with_literal variable value flipped
value_same v (pos x) h = get_or-set_same v x (some true) none h
value_same v (neg x) h = ap flipped (get_or-set_same v x (some false) none h)

pub value_other : (v : Setting) (l m : Literal) → (variable m ≡ variable l → ⊥) → value (with_literal v l) m ≡ value v m
value_other v l m h = value_of_entry (with_literal v l) v m (entry_other v l (variable m) h)

-- the negation of the literal that was set
pub value_denied : (v : Setting) (l : Literal) → variable l < length v → value (with_literal v l) (negation l) ≡ some false
unfolding flipped
value_denied v l h = value_negation (with_literal v l) l ∙ ap flipped (value_same v l h)

-- what was set stays as it was when an unset literal is set
pub value_kept : (v : Setting) (l m : Literal) (b : Bool) → value v l ≡ none → value v m ≡ some b → value (with_literal v l) m ≡ some b
value_kept v l m b h e =
    value_other v l m (λ same. none-ne-some b (sym (unset_both v l m (sym same) h) ∙ e)) ∙ e

pub unset_fewer : (v : Setting) (l : Literal) → variable l < length v → value v l ≡ none
    → unset_count v ≡ suc (unset_count (with_literal v l))
unfolding with_literal variable unset_count
unset_fewer v l h e = go l h (unset_entry v l e)
  where
    entry : (v : Setting) (x : ℕ) (b : Bool) → x < length v → get_or v x none ≡ none
        → unset_count v ≡ suc (unset_count (set v x (some b)))
    entry [] x b h e = absurd (not-suc-le-zero h)
    entry (none ∷ v) zero b h e = refl
    entry (some a ∷ v) zero b h e = absurd (none-ne-some a (sym e))
    entry (none ∷ v) (suc x) b h e = ap suc (entry v x b (le_of_suc-le-suc h) e)
    entry (some a ∷ v) (suc x) b h e = entry v x b (le_of_suc-le-suc h) e

    go : (l : Literal) → variable l < length v → get_or v (variable l) none ≡ none
        → unset_count v ≡ suc (unset_count (with_literal v l))
    go (pos x) h e = entry v x true h e
    go (neg x) h e = entry v x false h e

pub with_comm : (v : Setting) (l m : Literal) → (variable l ≡ variable m → ⊥)
    → with_literal (with_literal v l) m ≡ with_literal (with_literal v m) l
unfolding with_literal variable
with_comm v (pos x) (pos y) h = set_comm v x y (some true) (some true) h
with_comm v (pos x) (neg y) h = set_comm v x y (some true) (some false) h
with_comm v (neg x) (pos y) h = set_comm v x y (some false) (some true) h
with_comm v (neg x) (neg y) h = set_comm v x y (some false) (some false) h

-- the blank setting

pub unset_blank : (n : ℕ) → unset_count (blank n) ≡ suc n
unfolding blank unset_count
unset_blank n = go (suc n)
  where
    go : (k : ℕ) → unset_count (replicate k none) ≡ k
    go zero = refl
    go (suc k) = ap suc (go k)

pub length_blank : (n : ℕ) → length (blank n) ≡ suc n
unfolding blank
length_blank n = length-replicate (suc n) none

-- a setting with no entry set
pub unset_at : (k x : ℕ) → get_or {A = Option Bool} (replicate k none) x none ≡ none
unset_at zero x = refl
unset_at (suc k) zero = refl
unset_at (suc k) (suc x) = unset_at k x

pub blank_completes : (n : ℕ) (w : Values) → Completes (blank n) w
unfolding blank
blank_completes n w x b e = absurd (none-ne-some b (sym (unset_at (suc n) x) ∙ e))

-- the values that complete a setting

pub value_completed : (v : Setting) (w : Values) → Completes v w → (l : Literal) (b : Bool) → value v l ≡ some b → is_true w l ≡ b
unfolding value is_true flipped
value_completed v w c (pos x) b e = c x b e
value_completed v w c (neg x) b e = ap not (c x (not b) (unflip (get_or v x none) e)) ∙ not-not b
  where
    unflip : (o : Option Bool) → flipped o ≡ some b → o ≡ some (not b)
    unflip none h = absurd (none-ne-some b h)
    unflip (some a) h = ap some (sym (not-not a) ∙ ap not (some-injective (not a) b h))

pub is_true_negation : (w : Values) (l : Literal) → is_true w (negation l) ≡ not (is_true w l)
unfolding is_true negation
is_true_negation w (pos x) = refl
is_true_negation w (neg x) = sym (not-not (w x))

-- what completes a setting completes it also before its last literal was set
pub completes_before : (v : Setting) (l : Literal) (w : Values) → value v l ≡ none → Completes (with_literal v l) w → Completes v w
completes_before v l w h c x b e =
    c x b (entry_other v l x (λ same. none-ne-some b (sym (ap (λ (y : ℕ). get_or v y none) same ∙ unset_entry v l h) ∙ e)) ∙ e)

-- and where the values make the literal true, they complete the setting with it
pub completes_with : (v : Setting) (l : Literal) (w : Values) → variable l < length v → Completes v w → is_true w l ≡ true
    → Completes (with_literal v l) w
unfolding with_literal variable is_true
completes_with v l w h c t x b e = go (ℕ_discrete x (variable l))
  where
    here : (l : Literal) → variable l < length v → is_true w l ≡ true → get_or (with_literal v l) (variable l) none ≡ some b
        → w (variable l) ≡ b
    here (pos y) h t e = t ∙ some-injective true b (sym (get_or-set_same v y (some true) none h) ∙ e)
    here (neg y) h t e =
        sym (not-not (w y)) ∙ ap not t ∙ some-injective false b (sym (get_or-set_same v y (some false) none h) ∙ e)

    go : Dec (x ≡ variable l) → w x ≡ b
    go (yes same) = ap w same ∙ here l h t (ap (λ (y : ℕ). get_or (with_literal v l) y none) (sym same) ∙ e)
    go (no other) = c x b (sym (entry_other v l x other) ∙ e)

-- some values complete a setting: false where it sets none
unfoldable pub completion : Setting → Values
completion v x = Option.get_or (get_or v x none) false

pub completion_completes : (v : Setting) → Completes v (completion v)
unfolding completion
completion_completes v x b e = ap (λ (o : Option Bool). Option.get_or o false) e

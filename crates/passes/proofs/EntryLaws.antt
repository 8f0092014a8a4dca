-- Entries of a setting as bytes: how they are read and set.
use Prim.Native.Nat.{ℕ, zero, suc, ◌<◌}
use mathlib.Core.Path.{◌≡◌, refl, sym, ap, ◌∙◌, subst}
use mathlib.Core.Bool.{false}
use mathlib.Core.Option.{none, some}
use mathlib.Core.List.{List, [], ◌∷◌, map}
use lib.ListN.{length, get_or, set, replicate}
use Rattle.meaning.specs.Clauses.{variable}
use Rattle.meaning.specs.Search.{Setting, blank, flipped, value, with_literal}
use Rattle.format.specs.Forms.{literal_of}
use Rattle.format.specs.declared.Literal.{Literal}
use Rattle.format.specs.declared.Literal.TheVariants.{Pos, Neg}
use Rattle.passes.specs.Forms.{entry, entries}

pub entry_at : (xs : List ℕ) (x : ℕ) → get_or (entries xs) x none ≡ entry (get_or xs x 0)
unfolding entry entries
entry_at [] x = refl
entry_at (y ∷ xs) zero = refl
entry_at (y ∷ xs) (suc x) = entry_at xs x

entry_set : (xs : List ℕ) (x b : ℕ) → entries (set xs x b) ≡ set (entries xs) x (entry b)
unfolding entries
entry_set [] x b = refl
entry_set (y ∷ xs) zero b = refl
entry_set (y ∷ xs) (suc x) b = ap (λ (v : Setting). entry y ∷ v) (entry_set xs x b)

pub entries_length : (xs : List ℕ) → length (entries xs) ≡ length xs
unfolding entries
entries_length [] = refl
entries_length (y ∷ xs) = ap suc (entries_length xs)

pub entries_blank : (n : ℕ) → entries (replicate (suc n) 0) ≡ blank n
unfolding entries entry blank
entries_blank n = go (suc n)
  where
    go : (k : ℕ) → map entry (replicate k 0) ≡ replicate k none
    go zero = refl
    go (suc k) = ap (λ (v : Setting). none ∷ v) (go k)

-- a literal that is known by its variant

pub pos_range : (l : Literal) (x : ℕ) → l ≡ Pos x → variable (literal_of l) < 513 → x < 513
unfolding variable
pos_range l x e h = subst (λ (k : Literal). variable (literal_of k) < 513) e h

pub neg_range : (l : Literal) (x : ℕ) → l ≡ Neg x → variable (literal_of l) < 513 → x < 513
unfolding variable
neg_range l x e h = subst (λ (k : Literal). variable (literal_of k) < 513) e h

pub pos_set : (xs : List ℕ) (l : Literal) (x : ℕ) → l ≡ Pos x → entries (set xs x 1) ≡ with_literal (entries xs) (literal_of l)
unfolding entry with_literal
pos_set xs l x e = entry_set xs x 1 ∙ ap (λ (k : Literal). with_literal (entries xs) (literal_of k)) (sym e)

pub neg_set : (xs : List ℕ) (l : Literal) (x : ℕ) → l ≡ Neg x → entries (set xs x 2) ≡ with_literal (entries xs) (literal_of l)
unfolding entry with_literal
neg_set xs l x e = entry_set xs x 2 ∙ ap (λ (k : Literal). with_literal (entries xs) (literal_of k)) (sym e)

pub pos_value : (xs : List ℕ) (l : Literal) (x : ℕ) → l ≡ Pos x → entry (get_or xs x 0) ≡ value (entries xs) (literal_of l)
unfolding value
pos_value xs l x e = sym (entry_at xs x) ∙ ap (λ (k : Literal). value (entries xs) (literal_of k)) (sym e)

pub neg_value : (xs : List ℕ) (l : Literal) (x : ℕ) → l ≡ Neg x → flipped (entry (get_or xs x 0)) ≡ value (entries xs) (literal_of l)
unfolding value
neg_value xs l x e = ap flipped (sym (entry_at xs x)) ∙ ap (λ (k : Literal). value (entries xs) (literal_of k)) (sym e)

pub entry_false : (x : ℕ) → (x ≡ 0 → ⊥) → (x ≡ 1 → ⊥) → entry x ≡ some false
unfolding entry
entry_false zero f g = absurd (f refl)
entry_false (suc zero) f g = absurd (g refl)
entry_false (suc (suc x)) f g = refl

-- an entry turned round

pub turned_unset : (x : ℕ) → x ≡ 0 → entry 0 ≡ flipped (entry x)
unfolding entry flipped
turned_unset x e = ap (λ (y : ℕ). flipped (entry y)) (sym e)

pub turned_true : (x : ℕ) → x ≡ 1 → entry 2 ≡ flipped (entry x)
unfolding entry flipped
turned_true x e = ap (λ (y : ℕ). flipped (entry y)) (sym e)

pub turned_false : (x : ℕ) → (x ≡ 0 → ⊥) → (x ≡ 1 → ⊥) → entry 1 ≡ flipped (entry x)
unfolding entry flipped
turned_false x f g = ap flipped (sym (entry_false x f g))

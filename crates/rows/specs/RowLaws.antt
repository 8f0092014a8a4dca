-- A row as it is written: one mark more, the whole row, and the row as a part of the lent bytes.
use Rattle.std.specs.Prelude.{ℕ, suc, ◌+◌, ◌-◌, ◌≤◌, ◌<◌, ◌≡◌, refl, Bool, length, take, get_or, set}
use Rattle.std.proofs.Common.{sym, ◌∙◌, arith, zero-add, add-one, length-drop, take-suc, drop-cons, drop-drop, take_all}
use Rattle.std.proofs.Math.Path.{ap}
use Rattle.std.proofs.Math.Bool.{true, false}
use mathlib.Core.List.{List, [], ◌∷◌, ◌++◌, map, map-append, append-nil}
use Rattle.std.proofs.Math.ListN.{drop}
use Rattle.std.proofs.lemmas.List.{length-map, set_at}
use Rattle.std.proofs.Math.Seq.{append_snoc, length-take-le, drop-length}
use Rattle.std.specs.Int.{from_bool}
use Rattle.meaning.specs.Meaning
use Rattle.meaning.specs.Calls.{mark, written}

-- the byte of a mark
pub mark_byte : (b : Bool) → from_bool b ≡ mark b
unfolding mark
mark_byte true = refl
mark_byte false = refl

-- no mark is written
pub row_start : (l : Meaning.Marks) (lent : List ℕ) → lent ≡ written 0 (take 0 l) lent
unfolding written
row_start l lent = refl

module _ (l : Meaning.Marks) (lent : List ℕ) (d : ℕ) (here : d < length l) (room : d < length lent) where
  long : length (map mark (take d l)) ≡ d
  long = length-map (take d l) mark ∙ length-take-le d l (omega arith)

  before : written 0 (take d l) lent ≡ map mark (take d l) ++ (get_or lent d 0 ∷ drop (suc d) lent)
  unfolding written
  before =
      ap (λ (n : ℕ). map mark (take d l) ++ drop n lent) (zero-add (length (take d l)) ∙ length-take-le d l (omega arith))
      ∙ ap (λ (m : List ℕ). map mark (take d l) ++ m) (drop-cons lent d 0 room)

  after : written 0 (take (suc d) l) lent ≡ map mark (take d l) ++ (mark (get_or l d false) ∷ drop (suc d) lent)
  unfolding written
  after =
      ap (λ (n : ℕ). map mark (take (suc d) l) ++ drop n lent)
      (zero-add (length (take (suc d) l)) ∙ length-take-le (suc d) l (omega arith))
      ∙ ap (λ (m : List Bool). map mark m ++ drop (suc d) lent) (take-suc l d false here)
      ∙ ap (λ (m : List ℕ). m ++ drop (suc d) lent) (map-append mark (take d l) (get_or l d false ∷ []))
      ∙ append_snoc (map mark (take d l)) (mark (get_or l d false)) (drop (suc d) lent)

  -- the next mark, stored behind those that are written
  pub row_next : set (written 0 (take d l) lent) d (mark (get_or l d false)) ≡ written 0 (take (d + 1) l) lent
  row_next =
      ap (λ (m : List ℕ). set m d (mark (get_or l d false))) before
      ∙ set_at (map mark (take d l)) (get_or lent d 0) (drop (suc d) lent) (mark (get_or l d false)) d long
      ∙ sym after
      ∙ ap (λ (n : ℕ). written 0 (take n l) lent) (sym (add-one d))

-- a row that is written from the start of a part is written there in the whole
pub row_in_whole : (at : ℕ) (S : Meaning.Marks) (lent : List ℕ) → take at lent ++ written 0 S (drop at lent) ≡ written at S lent
unfolding written
row_in_whole at S lent =
    ap (λ (l : List ℕ). take at lent ++ (map mark S ++ l))
    (ap (λ (n : ℕ). drop n (drop at lent)) (zero-add (length S)) ∙ drop-drop (length S) at lent)

-- the same of a part up to the end, lent and back in its place
pub row_back : (at : ℕ) (S : Meaning.Marks) (lent ys : List ℕ) → at ≤ length lent
    → ys ≡ written 0 S (take (length lent - at) (drop at lent))
    → take at lent ++ (ys ++ drop (length lent - at) (drop at lent)) ≡ written at S lent
row_back at S lent ys within e =
    ap (λ (l : List ℕ). take at lent ++ (ys ++ l)) nothing_after
    ∙ ap (λ (l : List ℕ). take at lent ++ l) (append-nil ys ∙ e ∙ ap (written 0 S) whole_rest)
    ∙ row_in_whole at S lent
  where
    nothing_after : drop (length lent - at) (drop at lent) ≡ []
    nothing_after =
        let end : at + (length lent - at) ≡ length lent = omega arith in
        drop-drop (length lent - at) at lent ∙ ap (λ (n : ℕ). drop n lent) end ∙ drop-length lent

    whole_rest : take (length lent - at) (drop at lent) ≡ drop at lent
    whole_rest = take_all (length lent - at) (drop at lent) (omega (arith, length-drop at lent))

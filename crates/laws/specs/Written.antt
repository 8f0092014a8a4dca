-- What a row of marks that was written reads as, and what the rows before it do.
use Rattle.std.specs.Prelude.{ℕ, zero, suc, ◌+◌, ◌*◌, ◌≤◌, ◌≡◌, refl, true, false, List, [], ◌∷◌, ◌++◌, map, length, take, drop, eqb}
use Rattle.std.proofs.Common.{sym, ap, ap₂, ◌∙◌, append_assoc, arith, suc-mul, add_comm, zero-mul, length-append, length-take, length-drop, take-add, drop-drop, take_at, drop_at, length-take-le}
use Rattle.std.proofs.Math.Path.{subst⁻¹}
use Rattle.std.proofs.lemmas.List.{length-map}
use Rattle.meaning.specs.Meaning.{Marks}
use Rattle.meaning.specs.Calls.{mark, written}
use Rattle.meaning.specs.Demands.{marks_in, rows_in}

-- a written row keeps the number of lent bytes
pub written_length : (at : ℕ) (S : Marks) (lent : List ℕ) → at + length S ≤ length lent → length (written at S lent) ≡ length lent
unfolding written
written_length at S lent fits =
    simp (length-append, length-take, length-drop, length-map) (omega arith)

-- marks read back as the set that was written
pub marks_back : (S : Marks) → map (λ b. eqb b 1) (map mark S) ≡ S
unfolding mark
marks_back [] = refl
marks_back (true ∷ S) = ap (λ (l : Marks). true ∷ l) (marks_back S)
marks_back (false ∷ S) = ap (λ (l : Marks). false ∷ l) (marks_back S)

-- the first row, where it was written
pub first_written : (S : Marks) (lent : List ℕ) → marks_in (length S) (written 0 S lent) ≡ S
unfolding marks_in written
first_written S lent =
    ap (map (λ b. eqb b 1)) (take_at (map mark S) (drop (0 + length S) lent) (length S) (length-map S mark)) ∙ marks_back S

-- a row that is written behind the first k bytes leaves them, and is written so in the rest
pub written_take : (k at : ℕ) (S : Marks) (lent : List ℕ) → k ≤ length lent → take k (written (k + at) S lent) ≡ take k lent
unfolding written
written_take k at S lent h =
    ap (λ (l : List ℕ). take k (l ++ (map mark S ++ drop (k + at + length S) lent))) (take-add k at lent)
    ∙ ap (take k) (append_assoc (take k lent) (take at (drop k lent)) (map mark S ++ drop (k + at + length S) lent))
    ∙ take_at (take k lent) _ k (length-take-le k lent h)

pub written_drop : (k at : ℕ) (S : Marks) (lent : List ℕ) → k ≤ length lent
    → drop k (written (k + at) S lent) ≡ written at S (drop k lent)
unfolding written
written_drop k at S lent h =
    ap (λ (l : List ℕ). drop k (l ++ (map mark S ++ drop (k + at + length S) lent))) (take-add k at lent)
    ∙ ap (drop k) (append_assoc (take k lent) (take at (drop k lent)) (map mark S ++ drop (k + at + length S) lent))
    ∙ drop_at (take k lent) _ k (length-take-le k lent h)
    ∙ ap (λ (l : List ℕ). take at (drop k lent) ++ (map mark S ++ l))
    (ap (λ (i : ℕ). drop i lent) regroup ∙ sym (drop-drop (at + length S) k lent))
  where
    regroup : k + at + length S ≡ k + (at + length S)
    regroup = omega arith

-- row r, written behind r rows of k bytes, is read after them
pub rows_written : (r : ℕ) (S : Marks) (lent : List ℕ) → r * length S + length S ≤ length lent
    → rows_in (length S) (suc r) (written (r * length S) S lent) ≡ rows_in (length S) r lent ++ (S ∷ [])
unfolding rows_in marks_in
rows_written zero S lent fits =
    ap (λ (at : ℕ). marks_in (length S) (written at S lent) ∷ []) (zero-mul (length S)) ∙ ap (λ (l : Marks). l ∷ []) (first_written S lent)
rows_written (suc r) S lent fits =
    let k = length S in
    let at : suc r * k ≡ k + r * k = suc-mul r k ∙ add_comm (r * k) k in
    let room : k ≤ length lent = omega arith in
    let left : r * k + k ≤ length (drop k lent) = simp length-drop (omega arith) in
    subst⁻¹ (λ (i : ℕ). rows_in k (suc (suc r)) (written i S lent) ≡ rows_in k (suc r) lent ++ (S ∷ [])) at
    (ap₂ {A = Marks} {B = List Marks} {C = List Marks} (λ S' rest. S' ∷ rest)
    (ap (map (λ b. eqb b 1)) (written_take k (r * k) S lent room))
    (ap (rows_in k (suc r)) (written_drop k (r * k) S lent room) ∙ rows_written r S (drop k lent) left))

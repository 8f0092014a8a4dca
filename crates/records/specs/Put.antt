-- Bytes put into a list at a place, one part after another.
use Rattle.std.specs.Prelude.{ℕ, ◌+◌, ◌≤◌, ◌<◌, ◌≡◌, List, [], ◌∷◌, ◌++◌, length, take, drop, set}
use Rattle.std.proofs.Common.{arith, add-one, add-zero, add_assoc, sym, ap, ◌∙◌, append_assoc, length-append, length-take, length-drop, take-append-drop, take_at, drop_at, drop-drop, length-take-le}
use Rattle.std.proofs.lemmas.List.{set_split}

-- the bytes from a place on are these, and the others stay
unfoldable pub put : ℕ → List ℕ → List ℕ → List ℕ
put at bytes out = take at out ++ (bytes ++ drop (at + length bytes) out)

pub put_none : (at : ℕ) (out : List ℕ) → put at [] out ≡ out
unfolding put
put_none at out = ap (λ (k : ℕ). take at out ++ drop k out) (add-zero at) ∙ take-append-drop at out

pub length_put : (at : ℕ) (bytes out : List ℕ) → at + length bytes ≤ length out → length (put at bytes out) ≡ length out
unfolding put
length_put at bytes out fits = simp (length-append, length-take, length-drop) (omega arith)

-- one part behind another
pub put_put : (at : ℕ) (a b out : List ℕ) → at ≤ length out → put (at + length a) b (put at a out) ≡ put at (a ++ b) out
unfolding put
put_put at a b out inside =
    let front = take at out ++ a in
    let rest = drop (at + length a) out in
    let long : length front ≡ at + length a =
    length-append (take at out) a ∙ ap (λ (k : ℕ). k + length a) (length-take-le at out inside) in
    let split : take at out ++ (a ++ rest) ≡ front ++ rest = sym (append_assoc (take at out) a rest) in
    let before : take (at + length a) (take at out ++ (a ++ rest)) ≡ front =
    ap (take (at + length a)) split ∙ take_at front rest (at + length a) long in
    let after : drop (at + length a + length b) (take at out ++ (a ++ rest)) ≡ drop (at + length (a ++ b)) out =
    sym (drop-drop (length b) (at + length a) (take at out ++ (a ++ rest)))
    ∙ ap (λ (l : List ℕ). drop (length b) l) (ap (drop (at + length a)) split ∙ drop_at front rest (at + length a) long)
    ∙ drop-drop (length b) (at + length a) out
    ∙ ap (λ (k : ℕ). drop k out) (add_assoc at (length a) (length b) ∙ ap (λ (k : ℕ). at + k) (sym (length-append a b))) in
    rw (before, after)
    (append_assoc (take at out) a (b ++ drop (at + length (a ++ b)) out)
    ∙ ap (λ (l : List ℕ). take at out ++ l) (sym (append_assoc a b (drop (at + length (a ++ b)) out))))

-- one byte
pub put_one : (at b : ℕ) (out : List ℕ) → at < length out → set out at b ≡ put at (b ∷ []) out
unfolding put
put_one at b out inside = set_split out at b inside ∙ ap (λ (k : ℕ). take at out ++ (b ∷ drop k out)) (sym (add-one at))

-- a byte, and one behind it
pub put_pair : (at a b : ℕ) (out : List ℕ) → at + 2 ≤ length out → set (set out at a) (at + 1) b ≡ put at (a ∷ b ∷ []) out
put_pair at a b out fits =
    let inside : at ≤ length out = omega arith in
    let first = put_one at a out (omega arith) in
    ap (λ (l : List ℕ). set l (at + 1) b) first
    ∙ put_one (at + 1) b (put at (a ∷ []) out) (omega (arith, length_put at (a ∷ []) out (omega arith)))
    ∙ put_put at (a ∷ []) (b ∷ []) out inside

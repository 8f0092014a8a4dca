-- What is written at a place reads back there: two bytes, a literal, the literals of a clause.
use Rattle.std.specs.Prelude.{ℕ, ◌+◌, ◌-◌, ◌*◌, ◌/◌, ◌%◌, ◌<◌, ◌≡◌, refl, length, drop}
use Rattle.std.proofs.Common.{arith, add-zero, ◌∙◌, length-append, get_or-drop, drop-drop, lt-ltb, le-ltb}
use Rattle.std.proofs.Math.Path.{sym, ap}
use mathlib.Core.List.{List, [], ◌∷◌, ◌++◌, append_assoc}
use Rattle.std.proofs.Math.ListN.{get_or}
use Rattle.std.proofs.Math.Seq.{drop-append_seam}
use Rattle.meaning.specs.Clauses.{Literal, pos, neg, Clause, variable}
use Rattle.meaning.specs.File.{two_at, signed, literal_at, literals}
use Rattle.meaning.specs.Filed.{two, literal_bytes, clause_bytes, record_bytes}
use Rattle.laws.specs.Within.{UpTo, ClauseWithin}

-- the variables that two signed bytes can name
abbrev pub variable_most : ℕ
variable_most = 32767

module _ (file : List ℕ) (at : ℕ) where
  -- what stands after what is written at a place
  pub after : (xs post : List ℕ) (place : ℕ) → at + length xs ≡ place → drop at file ≡ xs ++ post → drop place file ≡ post
  after xs post place p e =
      ap (λ (k : ℕ). drop k file) (sym p) ∙ sym (drop-drop (length xs) at file) ∙ ap (drop (length xs)) e ∙ drop-append_seam xs post

  pub two_here : (u : ℕ) (post : List ℕ) → u < 65536 → drop at file ≡ two u ++ post → two_at file at ≡ u
  unfolding two_at two
  two_here u post small e =
      let low : get_or file at 0 ≡ u % 256 =
      ap (λ (i : ℕ). get_or file i 0) (sym (add-zero at)) ∙ sym (get_or-drop at file 0 0) ∙ ap (λ (l : List ℕ). get_or l 0 0) e in
      let high : get_or file (at + 1) 0 ≡ u / 256 = sym (get_or-drop at file 1 0) ∙ ap (λ (l : List ℕ). get_or l 1 0) e in
      rw (low, high) (omega arith)

-- two bytes of a literal are that literal
signed_back : (l : Literal) (post : List ℕ) → UpTo variable_most (variable l) → (file : List ℕ) (at : ℕ)
    → drop at file ≡ literal_bytes l ++ post → literal_at file at ≡ l
unfolding literal_bytes literal_at signed variable
signed_back (pos v) post up file at e =
    let u : two_at file at ≡ v = two_here file at v post (omega arith) e in
    rw (u, lt-ltb v 32768 (omega arith))
signed_back (neg v) post up file at e =
    let u : two_at file at ≡ 65536 - v = two_here file at (65536 - v) post (omega arith) e in
    rw (u, le-ltb (65536 - v) 32768 (omega arith)) (ap neg (omega arith))

literal_length : (l : Literal) → length (literal_bytes l) ≡ 2
unfolding literal_bytes two
literal_length (pos v) = refl
literal_length (neg v) = refl

pub clause_length : (c : Clause) → length (clause_bytes c) ≡ 2 * length c
unfolding clause_bytes
clause_length [] = refl
clause_length (l ∷ c) = rw length-append (omega (arith, literal_length l, clause_length c))

pub literals_here : (file : List ℕ) (at : ℕ) (c : Clause) (post : List ℕ) → ClauseWithin variable_most c
    → drop at file ≡ clause_bytes c ++ post → literals file at (length c) ≡ c
unfolding literals clause_bytes
literals_here file at [] post named e = refl
literals_here file at (l ∷ c) post named e =
    let here : drop at file ≡ literal_bytes l ++ (clause_bytes c ++ post) = e ∙ append_assoc (literal_bytes l) (clause_bytes c) post in
    let there : drop (at + 2) file ≡ clause_bytes c ++ post =
    after file at (literal_bytes l) (clause_bytes c ++ post) (at + 2) (ap (◌+◌ at) (literal_length l)) here in
    rw (signed_back l (clause_bytes c ++ post) named.0 file at here, literals_here file (at + 2) c post named.1 there)

-- the body of a record that is written at a place
pub body_stands : (file : List ℕ) (at kind : ℕ) (body rest : List ℕ) → drop at file ≡ record_bytes kind body ++ rest
    → drop (at + 4) file ≡ body ++ rest
unfolding record_bytes two
body_stands file at kind body rest e = after file at (two (length body) ++ two kind) (body ++ rest) (at + 4) refl e

-- what stands after a clause record
pub clause_after : (file : List ℕ) (at kind : ℕ) (c : Clause) (rest : List ℕ)
    → drop at file ≡ record_bytes kind (clause_bytes c) ++ rest → drop (at + 4 + 2 * length c) file ≡ rest
clause_after file at kind c rest e =
    after file (at + 4) (clause_bytes c) rest (at + 4 + 2 * length c) (ap (◌+◌ (at + 4)) (clause_length c))
    (body_stands file at kind (clause_bytes c) rest e)

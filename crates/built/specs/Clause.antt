-- The clause of some edges, as a record.
use Rattle.std.specs.Prelude.{ℕ, suc, ◌+◌, ◌*◌, ◌≤◌, ◌<◌, ◌≡◌, refl, ◌⊎◌, Bool, true, false, ◌||◌, cond, get_or, drop}
use Rattle.std.proofs.Common.{arith, ◌∙◌, inl, inr, true≢false, add-one, drop-cons}
use Rattle.std.proofs.lemmas.List.{drop_all}
use Rattle.std.proofs.lemmas.List.Sums.{sum_by-cons}
use Rattle.std.specs.List.{count_by, list_any}
use Rattle.laws.specs.Basics.{bool_cases}
use Rattle.std.proofs.Math.Path.{sym, ap}
use mathlib.Core.List.{List, [], ◌∷◌, ◌++◌, map, append-nil, append_assoc}
use Rattle.std.proofs.Math.ListN.{length, length-append}
use Rattle.meaning.specs.Clauses.{Literal, pos, neg, Clause, any}
use Rattle.meaning.specs.Built as Built
use Rattle.meaning.specs.Built.{constant, named, literal_if, clause_if}
use Rattle.meaning.specs.Filed.{two, literal_bytes, clause_bytes, record_bytes, clause_records}
use Rattle.clause_count.specs.Lengths.{is_true}
use Rattle.built.specs.declared.edge.Edge.{Edge}
use Rattle.built.specs.declared.edge.Edge.TheVariants.{Constant, Named}
use Rattle.records.specs.declared.Records.{Records}
use Rattle.records.specs.Puts.{Puts, HasRoom, Left, left_all, left_is, left_room, left_more}
use Rattle.built.specs.Edges.{edge_of, is_named}

-- the bytes of its literal, if it has one
unfoldable pub edge_bytes : Built.Edge → List ℕ
edge_bytes (constant b) = []
edge_bytes (named l) = literal_bytes l

pub literal_length : (l : Literal) → length (literal_bytes l) ≡ 2
unfolding literal_bytes two
literal_length (pos v) = refl
literal_length (neg v) = refl

pub named_room : (l : Literal) {out : Records} → HasRoom (edge_bytes (named l)) out → out.end + 2 ≤ length out.bytes.now
unfolding edge_bytes
named_room l room = omega (arith, room.fits, literal_length l)

-- ---- the clause of edges

-- a constant true drops it
drop_here : (e : Built.Edge) (es : List Built.Edge) → is_true e ≡ true → clause_if (e ∷ es) ≡ []
unfolding clause_if is_true
drop_here (constant true) es h = refl
drop_here (constant false) es h = absurd (true≢false (sym h))
drop_here (named l) es h = absurd (true≢false (sym h))

drop_later : (e : Built.Edge) (es : List Built.Edge) → clause_if es ≡ [] → clause_if (e ∷ es) ≡ []
unfolding clause_if
drop_later (constant true) es h = refl
drop_later (constant false) es h = h
drop_later (named l) es h = ap (map (λ (c : Clause). l ∷ c)) h

-- the bytes of the edges' literals
unfoldable pub edges_bytes : List Built.Edge → List ℕ
edges_bytes [] = []
edges_bytes (e ∷ es) = edge_bytes e ++ edges_bytes es

-- otherwise it is one clause, of those literals
keep : (es : List Built.Edge) → any is_true es ≡ false → (c : Clause) × (clause_if es ≡ (c ∷ [])) × (clause_bytes c ≡ edges_bytes es)
unfolding clause_if is_true any edges_bytes edge_bytes clause_bytes
keep [] h = ([], refl, refl)
keep (constant true ∷ es) h = absurd (true≢false h)
keep (constant false ∷ es) h = keep es h
keep (named l ∷ es) h =
    let on = keep es h in
    (l ∷ on.0, ap (map (λ (c : Clause). l ∷ c)) on.1, ap (λ (b : List ℕ). literal_bytes l ++ b) on.2)

-- ---- the edges as the code holds them

drop_any : (es : List Built.Edge) → any is_true es ≡ true → clause_if es ≡ []
unfolding any
drop_any [] h = absurd (true≢false (sym h))
drop_any (e ∷ es) h = go (bool_cases (is_true e)) (drop_any es)
  where
    go : (is_true e ≡ true) ⊎ (is_true e ≡ false) → (any is_true es ≡ true → clause_if es ≡ []) → clause_if (e ∷ es) ≡ []
    go (inl t) on = drop_here e es t
    go (inr t) on = drop_later e es (on (rw t at h))

pub any_is : (es : List Edge) → list_any (λ (e : Edge). is_true (edge_of e)) es ≡ any is_true (map edge_of es)
unfolding any
any_is [] = refl
any_is (e ∷ es) = ap (λ (b : Bool). is_true (edge_of e) || b) (any_is es)

module _ (kind : ℕ) (es : List Edge) where
  pub dropped : any is_true (map edge_of es) ≡ true → clause_records kind (clause_if (map edge_of es)) ≡ []
  unfolding clause_records
  dropped h = ap (clause_records kind) (drop_any (map edge_of es) h)

  pub kept : any is_true (map edge_of es) ≡ false
      → record_bytes kind (edges_bytes (map edge_of es)) ≡ clause_records kind (clause_if (map edge_of es))
  unfolding clause_records
  kept h =
      let on = keep (map edge_of es) h in
      sym (ap (clause_records kind) on.1 ∙ append-nil (record_bytes kind (clause_bytes on.0)) ∙ ap (record_bytes kind) on.2)

-- two bytes for each literal
count_first : (e : Edge) (es : List Edge) → count_by is_named (e ∷ es) ≡ cond (is_named e) 1 0 + count_by is_named es
count_first e es = sum_by-cons (λ (x : Edge). cond (is_named x) 1 0) e es

none_more : (n k b : ℕ) → n ≡ 0 + k → 2 * k ≡ b → 2 * n ≡ b
none_more n k b is e = omega arith

one_more : (n k a b : ℕ) → n ≡ 1 + k → 2 * k ≡ b → a ≡ 2 → 2 * n ≡ a + b
one_more n k a b is e f = omega arith

pub bytes_length : (es : List Edge) → 2 * count_by is_named es ≡ length (edges_bytes (map edge_of es))
unfolding edges_bytes edge_bytes
bytes_length [] = refl
bytes_length (Constant b ∷ es) = none_more _ _ _ (count_first (Constant b) es) (bytes_length es)
bytes_length (Named l ∷ es) =
    let t = literal_bytes (literal_if l.negative l.variable) in
    one_more _ _ (length t) _ (count_first (Named l) es) (bytes_length es) (literal_length (literal_if l.negative l.variable))
    ∙ sym (length-append t (edges_bytes (map edge_of es)))

pub bytes_none : (es : List Edge) (i : ℕ) → length es ≤ i → edges_bytes (map edge_of (drop i es)) ≡ []
unfolding edges_bytes
bytes_none es i past = ap (λ (l : List Edge). edges_bytes (map edge_of l)) (drop_all i es past)

pub bytes_next : (es : List Edge) (i : ℕ) (e : Edge) → i < length es → e ≡ get_or es i e
    → edges_bytes (map edge_of (drop i es)) ≡ edge_bytes (edge_of e) ++ edges_bytes (map edge_of (drop (i + 1) es))
unfolding edges_bytes
bytes_next es i e less is = rw (add-one i, drop-cons es i e less) (ap (λ (f : Edge). edge_bytes (edge_of f) ++ edges_bytes (map edge_of (drop (suc i) es))) (sym is))

-- ---- a record: its head, and then its body

module _ (kind : ℕ) (body : List ℕ) {r : Records} (room : HasRoom (record_bytes kind body) r) (len : ℕ) (is : len ≡ length body) where
  headed : Left (record_bytes kind body) r ((two len ++ two kind) ++ body) r
  unfolding record_bytes
  headed =
      left_is (left_all room) (ap (λ (k : ℕ). two k ++ (two kind ++ body)) (sym is) ∙ sym (append_assoc (two len) (two kind) body))

  pub head_room : r.end + 4 ≤ length r.bytes.now
  unfolding two
  head_room = (left_room (two len ++ two kind) body headed).fits

  pub after_head : {s : Records} → Puts (two len ++ two kind) r s → Left (record_bytes kind body) r body s
  after_head w = left_more (two len ++ two kind) body headed w

-- What 14 and 15 are told with is so: for each limit, what holds of the circuit and the lemmas that are read; how many justice and fairness
-- properties there are.
use Rattle.std.specs.Prelude.{ℕ, zero, suc, ◌+◌, ◌≤◌, ◌<◌, ◌≡◌, refl, ◌⊎◌, Bool, true, false, ◌&&◌, ◌||◌, cond, List, [], ◌∷◌, drop, ltb, leb, eqb, Option, None, Some}
use Rattle.std.proofs.Common.{sym, subst, ◌∙◌, inl, inr, arith, length-drop, drop-drop}
use Rattle.std.proofs.Math.Path.{ap}
use Rattle.std.proofs.Math.Bool.{not, true≢false}
use Rattle.std.proofs.Math.ListN.{length}
use borrow.Author.Tests.{ltb-true, ltb-false, leb-true, leb-false, eqb-true, eqb-false, le-ltb, lt-ltb, eq-eqb, ne_eqb}
use Rattle.meaning.specs.Clauses.{Clause, any}
use Rattle.meaning.specs.Demands.{In}
use Rattle.meaning.specs.File.{file_most, n_most, m_most, clauses_most, lemmas_most}
use Rattle.meaning.specs.Circuit.{Circuit}
use Rattle.meaning.specs.Built.{built}
use Rattle.meaning.specs.Lines.{newline, space, until, line_at, ended, next_line, words}
use Rattle.meaning.specs.CircuitText
use Rattle.meaning.specs.CircuitText.{header_of, header_right, if_header, read_circuit_text}
use Rattle.meaning.specs.LemmaText.{Lemmas, wrong, right, lemma_right, lemma_of, lemma_and, if_lemma, unless_end, lemmas_from, read_lemma_text}
use Rattle.meaning.specs.Circuits.{literals_most, clause_count, over_limits}
use Rattle.laws.specs.Basics.{bool_cases, and_left}
use Rattle.lines.specs.Numbers.{huge, capped}
use Rattle.circuit_text.specs.Header.{header_test}
use Rattle.circuit_laws.specs.ReadSane.{Counts, read_counts}
use Rattle.text_faults.specs.declared.limits.Limit.{Limit}
use Rattle.text_faults.specs.declared.limits.Limit.TheVariants.{LongCircuit, LongLemmas, NoLatch, Latches, Width, NoBad, Outputs, Bads, Both, Lemmas as ManyLemmas, LongLemma, Clauses}
use Rattle.text_faults.specs.Places.{count_of, line_number, after_line}
use Rattle.text_faults.specs.Sizes.{capped_cases, capped_under}
use Rattle.text_faults.specs.Limits.{long_lemma, lemmas_limit, bads_limit, property_limit, width_limit, header_limit, limit_of}
use Rattle.text_faults.specs.Liveness.{live_is, liveness_of}
use Rattle.text_faults.specs.LimitLaws.{words_spaces}

-- the lemma of the line with this number has so many literals, more than 64
abbrev pub LongAt : List ℕ → List Clause → ℕ → ℕ → Type 0
LongAt lemma_text ls line met =
    (at : ℕ) × (line ≡ line_number lemma_text at) × In (lemma_of (words (line_at lemma_text at))) ls
    × (met ≡ length (lemma_of (words (line_at lemma_text at)))) × (literals_most < met)

-- what each limit says (numbers that no word holds are told as one that it does)
abbrev pub LimitOver : List ℕ → List ℕ → Circuit → List Clause → Limit → Type 0
LimitOver text lemma_text c ls LongCircuit = file_most < length text
LimitOver text lemma_text c ls LongLemmas = file_most < length lemma_text
LimitOver text lemma_text c ls NoLatch = length c.latches ≡ 0
LimitOver text lemma_text c ls (Latches met) = (met ≡ capped (length c.latches)) × (n_most < length c.latches)
LimitOver text lemma_text c ls (Width inputs gates) =
    (inputs ≡ capped (length c.inputs)) × (gates ≡ capped (length c.gates)) × (m_most < length c.inputs + length c.gates)
LimitOver text lemma_text c ls NoBad = (length c.outputs ≡ 0) × (length c.bads ≡ 0)
LimitOver text lemma_text c ls (Outputs met) = (met ≡ capped (length c.outputs)) × (1 < length c.outputs) × (length c.bads ≡ 0)
LimitOver text lemma_text c ls (Bads met) = (met ≡ capped (length c.bads)) × (1 < length c.bads) × (length c.outputs ≡ 0)
LimitOver text lemma_text c ls (Both outputs bads) =
    (outputs ≡ capped (length c.outputs)) × (bads ≡ capped (length c.bads)) × (0 < length c.outputs) × (0 < length c.bads)
LimitOver text lemma_text c ls (ManyLemmas met) = (met ≡ length ls) × (lemmas_most < length ls)
LimitOver text lemma_text c ls (LongLemma line met) = LongAt lemma_text ls line met
LimitOver text lemma_text c ls Clauses = clauses_most < clause_count (built c ls)

-- the limit that is told; there always is one
abbrev pub LimitSo : List ℕ → List ℕ → Circuit → List Clause → Option Limit → Type 0
LimitSo text lemma_text c ls None = ⊥
LimitSo text lemma_text c ls (Some limit) = LimitOver text lemma_text c ls limit

-- ---- counts as they are told

module _ (v : ℕ) where
  capped_none : capped v ≡ 0 → v ≡ 0
  capped_none e = go (capped_cases v)
    where
      go : ((huge ≤ v) × (capped v ≡ huge)) ⊎ ((v < huge) × (capped v ≡ v)) → v ≡ 0
      go (inl (more, is)) = absurd (omega (arith, e, is))
      go (inr (less, is)) = omega (arith, e, is)

  capped_one : capped v ≡ 1 → v ≡ 1
  capped_one e = go (capped_cases v)
    where
      go : ((huge ≤ v) × (capped v ≡ huge)) ⊎ ((v < huge) × (capped v ≡ v)) → v ≡ 1
      go (inl (more, is)) = absurd (omega (arith, e, is))
      go (inr (less, is)) = omega (arith, e, is)

  capped_most : capped v ≤ v
  capped_most = go (capped_cases v)
    where
      go : ((huge ≤ v) × (capped v ≡ huge)) ⊎ ((v < huge) × (capped v ≡ v)) → capped v ≤ v
      go (inl (more, is)) = omega (arith, more, is)
      go (inr (less, is)) = omega (arith, is)

  capped_few : (most : ℕ) → most < huge → capped v ≤ most → v ≤ most
  capped_few most small h = go (capped_cases v)
    where
      go : ((huge ≤ v) × (capped v ≡ huge)) ⊎ ((v < huge) × (capped v ≡ v)) → v ≤ most
      go (inl (more, is)) = absurd (omega (arith, small, h, is))
      go (inr (less, is)) = omega (arith, h, is)

-- ---- a lemma for each line, and a literal for each space

line_newline : (l : List ℕ) → length (until newline l) < length l
    → count_of newline l ≡ suc (count_of newline (drop (suc (length (until newline l))) l))
unfolding until count_of
line_newline [] h = absurd (omega (arith, h))
line_newline (a ∷ l) h = go (eqb a newline) refl (line_newline l) h
  where
    go : (t : Bool) → eqb a newline ≡ t
        → (length (until newline l) < length l → count_of newline l ≡ suc (count_of newline (drop (suc (length (until newline l))) l)))
        → length (cond t [] (a ∷ until newline l)) < suc (length l)
        → cond t (suc (count_of newline l)) (count_of newline l)
        ≡ suc (count_of newline (drop (suc (length (cond t [] (a ∷ until newline l)))) (a ∷ l)))
    go true t on less = refl
    go false t on less = on (omega (arith, less))

ended_count : (text : List ℕ) (at : ℕ) → ended text at ≡ true
    → count_of newline (drop at text) ≡ suc (count_of newline (drop (next_line text at) text))
unfolding ended line_at next_line
ended_count text at h =
    let n = length (until newline (drop at text)) in
    let inside = ltb-true (at + n) (length text) h in
    let less : n < length (drop at text) = omega (arith, inside, length-drop at text) in
    let far : at + suc n ≡ suc (at + n) = omega arith in
    line_newline (drop at text) less
    ∙ ap (λ (l : List ℕ). suc (count_of newline l)) (drop-drop (suc n) at text ∙ ap (λ (k : ℕ). drop k text) far)

lemma_length : (ws : List (List ℕ)) (n : ℕ) → length ws ≡ suc n → length (lemma_of ws) ≡ n
unfolding lemma_of
lemma_length [] n e = absurd (omega (arith, e))
lemma_length (w ∷ []) n e = omega (arith, e)
lemma_length (w ∷ w' ∷ ws) zero e = absurd (omega (arith, e))
lemma_length (w ∷ w' ∷ ws) (suc n) e = ap suc (lemma_length (w' ∷ ws) n (omega (arith, e)))

spaces_literals : (line : List ℕ) → count_of space line ≡ length (lemma_of (words line))
spaces_literals line = sym (lemma_length (words line) (count_of space line) (words_spaces line))

wrong_not_right : {at : ℕ} {cs : List Clause} → wrong at ≡ right cs → ⊥
wrong_not_right e = let z : ◌≡◌ {A = ℕ} 0 1 = cc in omega arith

-- what the walk over lines that are lemmas tells
abbrev WalkSo : List ℕ → List Clause → Limit → Type 0
WalkSo text cs (LongLemma line met) = LongAt text cs line met
WalkSo text cs Clauses = any (λ (d : Clause). ltb literals_most (length d)) cs ≡ false
WalkSo text cs LongCircuit = ⊥
WalkSo text cs LongLemmas = ⊥
WalkSo text cs NoLatch = ⊥
WalkSo text cs (Latches met) = ⊥
WalkSo text cs (Width inputs gates) = ⊥
WalkSo text cs NoBad = ⊥
WalkSo text cs (Outputs met) = ⊥
WalkSo text cs (Bads met) = ⊥
WalkSo text cs (Both outputs bads) = ⊥
WalkSo text cs (ManyLemmas met) = ⊥

walk_nothing : (text : List ℕ) (cs : List Clause) → right [] ≡ right cs → WalkSo text cs Clauses
unfolding any
walk_nothing text cs e = let same : [] ≡ cs = cc in subst (λ (ds : List Clause). WalkSo text ds Clauses) same refl

-- a lemma before others
walk_more : (text : List ℕ) (d : Clause) (cs : List Clause) (told : Limit) → length d ≤ literals_most → WalkSo text cs told
    → WalkSo text (d ∷ cs) told
unfolding any
walk_more text d cs LongCircuit few none = elim none [ ]
walk_more text d cs LongLemmas few none = elim none [ ]
walk_more text d cs NoLatch few none = elim none [ ]
walk_more text d cs (Latches _) few none = elim none [ ]
walk_more text d cs (Width _ _) few none = elim none [ ]
walk_more text d cs NoBad few none = elim none [ ]
walk_more text d cs (Outputs _) few none = elim none [ ]
walk_more text d cs (Bads _) few none = elim none [ ]
walk_more text d cs (Both _ _) few none = elim none [ ]
walk_more text d cs (ManyLemmas _) few none = elim none [ ]
walk_more text d cs (LongLemma line met) few (at, here, is_in, is, long) = (at, here, inr is_in, is, long)
walk_more text d cs Clauses few none = rw (le-ltb literals_most (length d) few) none

-- one line, and the lines after it
module _ (text : List ℕ) (at : ℕ) (cs : List Clause) (told : Limit) (on : WalkSo text cs told) where
  abbrev d : Clause
  d = lemma_of (words (line_at text at))

  abbrev met : ℕ
  met = count_of space (line_at text at)

  walk_line : WalkSo text (d ∷ cs) (cond (ltb literals_most met) (LongLemma (line_number text at) met) told)
  walk_line = go (bool_cases (ltb literals_most met)) (spaces_literals (line_at text at))
    where
      go : (ltb literals_most met ≡ true) ⊎ (ltb literals_most met ≡ false) → met ≡ length d
          → WalkSo text (d ∷ cs) (cond (ltb literals_most met) (LongLemma (line_number text at) met) told)
      go (inl t) is = rw t (at, refl, inl refl, is, ltb-true literals_most met t)
      go (inr t) is =
          let few : length d ≤ literals_most = omega (arith, is, ltb-false literals_most met t) in
          rw t (walk_more text d cs told few on)

-- a line and the lines after it, as they are read
lemma_and_right : (d : Clause) (rest : Lemmas) (cs : List Clause) → lemma_and d rest ≡ right cs
    → (ds : List Clause) × (rest ≡ right ds) × ((d ∷ ds) ≡ cs)
unfolding lemma_and
lemma_and_right d (wrong at) cs e = absurd (wrong_not_right e)
lemma_and_right d (right ds) cs e = (ds, refl, cc)

-- lines read as lemmas: as many as newlines, and their lengths
record Lined (fuel : ℕ) (text : List ℕ) (at : ℕ) (cs : List Clause) : Type 0 where
  many : length text ≤ fuel + at → count_of newline (drop at text) ≡ length cs
  walk : WalkSo text cs (long_lemma fuel text at)

nothing_left : (text : List ℕ) (at : ℕ) → length text ≤ at → count_of newline (drop at text) ≡ 0
unfolding count_of
nothing_left text at h = go (drop at text) (omega (arith, h, length-drop at text))
  where
    go : (l : List ℕ) → length l ≡ 0 → count_of newline l ≡ 0
    go [] e = refl
    go (a ∷ l) e = absurd (omega (arith, e))

none_read : (cs : List Clause) → right [] ≡ right cs → 0 ≡ length cs
none_read cs e = let same : [] ≡ cs = cc in ap length same

next_past : (text : List ℕ) (at : ℕ) → at < next_line text at
unfolding next_line
next_past text at = omega arith

line_more : (fuel : ℕ) (text : List ℕ) (at : ℕ) (ds : List Clause) → at < length text → ended text at ≡ true
    → Lined fuel text (next_line text at) ds → Lined (suc fuel) text at (lemma_of (words (line_at text at)) ∷ ds)
unfolding long_lemma after_line
line_more fuel text at ds inside closed after =
    record {
      many = λ h.
          let far : length text ≤ fuel + next_line text at = omega (arith, h, next_past text at) in
          ended_count text at closed ∙ ap suc (after.many far);
      walk =
          rw (lt-ltb at (length text) inside, closed)
          (walk_line text at ds (long_lemma fuel text (next_line text at)) after.walk);
    }

lined : (fuel most : ℕ) (text : List ℕ) (at : ℕ) (cs : List Clause) → lemmas_from fuel most text at ≡ right cs → Lined fuel text at cs
unfolding lemmas_from long_lemma unless_end if_lemma after_line
lined zero most text at cs e =
    record { many = λ h. nothing_left text at (omega (arith, h)) ∙ none_read cs e; walk = walk_nothing text cs e }
lined (suc fuel) most text at cs e =
    go (bool_cases (leb (length text) at)) (bool_cases (ended text at && lemma_right most line)) (lined fuel most text (next_line text at))
  where
    line : List (List ℕ)
    line = words (line_at text at)

    rest : Lemmas
    rest = lemmas_from fuel most text (next_line text at)

    go : (leb (length text) at ≡ true) ⊎ (leb (length text) at ≡ false)
        → ((ended text at && lemma_right most line) ≡ true) ⊎ ((ended text at && lemma_right most line) ≡ false)
        → ((ds : List Clause) → rest ≡ right ds → Lined fuel text (next_line text at) ds) → Lined (suc fuel) text at cs
    go (inl t) good on =
        let past = leb-true (length text) at t in
        let none : right [] ≡ right cs = sym (rw t) ∙ e in
        record { many = λ h. nothing_left text at past ∙ none_read cs none; walk = rw (le-ltb at (length text) past) (walk_nothing text cs none) }
    go (inr t) (inr g) on =
        let no : wrong at ≡ right cs = sym (rw (t, g)) ∙ e in
        absurd (wrong_not_right no)
    go (inr t) (inl g) on =
        let inside = leb-false (length text) at t in
        let closed = and_left (ended text at) (lemma_right most line) g in
        let one : lemma_and (lemma_of line) rest ≡ right cs = sym (rw (t, g)) ∙ e in
        let (ds, more, same) = lemma_and_right (lemma_of line) rest cs one in
        subst (Lined (suc fuel) text at) same (line_more fuel text at ds inside closed (on ds more))

-- ---- the header of a text that is read

header_true : (text : List ℕ) (c : Circuit) → read_circuit_text text ≡ CircuitText.right c → header_test text ≡ true
unfolding read_circuit_text header_test if_header
header_true text c e = go (bool_cases (ended text 0 && header_right (line_at text 0)))
  where
    go : ((ended text 0 && header_right (line_at text 0)) ≡ true) ⊎ ((ended text 0 && header_right (line_at text 0)) ≡ false)
        → (ended text 0 && header_right (line_at text 0)) ≡ true
    go (inl t) = t
    go (inr f) =
        let no : CircuitText.wrong 0 ≡ CircuitText.right c = sym (rw f) ∙ e in
        let z : ◌≡◌ {A = ℕ} 0 1 = cc in absurd (omega arith)

-- What 15 is told with: how many justice and fairness properties the circuit has.
pub liveness_so : (text : List ℕ) (c : Circuit) → read_circuit_text text ≡ CircuitText.right c
    → liveness_of text ≡ record { justice = capped c.justice; fairness = capped c.fairness }
unfolding liveness_of
liveness_so text c e =
    let counts = read_counts text c e in
    rw (header_true text c e)
    (sym (live_is (header_of (line_at text 0)) _ _ _ refl (ap capped counts.justice) (ap capped counts.fairness)))

-- ---- one limit after another

the_last : (a b c d e f g i j : Bool) → a ≡ false → b ≡ false → c ≡ false → d ≡ false → e ≡ false → f ≡ false → g ≡ false → i ≡ false
    → (a || b || c || d || e || f || g || i || j) ≡ true → j ≡ true
the_last a b c d e f g i j ea eb ec ed ee ef eg ei is =
    let same : (a || b || c || d || e || f || g || i || j) ≡ j = rw (ea, eb, ec, ed, ee, ef, eg, ei) in
    sym same ∙ is

module _ (text lemma_text : List ℕ) (c : Circuit) (ls : List Clause) (read : read_circuit_text text ≡ CircuitText.right c)
    (lemmas_read : read_lemma_text (length c.latches) lemma_text ≡ right ls) (over : over_limits text lemma_text c ls ≡ true) where
  abbrev Told : Limit → Type 0
  Told = LimitOver text lemma_text c ls

  by_test : (b : Bool) (x y : Limit) → (b ≡ true → Told x) → (b ≡ false → Told y) → Told (cond b x y)
  by_test true x y holds fails = holds refl
  by_test false x y holds fails = fails refl

  abbrev h : CircuitText.Header
  h = header_of (line_at text 0)

  counts : Counts h c
  counts = read_counts text c read

  lines_read : Lined (length lemma_text) lemma_text 0 ls
  unfolding read_lemma_text
  lines_read = lined (length lemma_text) (length c.latches) lemma_text 0 ls lemmas_read

  lemma_count : count_of newline lemma_text ≡ length ls
  lemma_count = lines_read.many (omega arith)

  -- no limit before the lemmas is passed
  record Few : Type 0 where
    pub text_few : ltb file_most (length text) ≡ false
    pub lemma_text_few : ltb file_most (length lemma_text) ≡ false
    pub some_latch : eqb (length c.latches) 0 ≡ false
    pub latches_few : ltb n_most (length c.latches) ≡ false
    pub helpers_few : ltb m_most (length c.inputs + length c.gates) ≡ false
    pub one_bad : eqb (length c.outputs + length c.bads) 1 ≡ true

  -- nor one of the lemmas: what is left are the clauses
  clauses_so : Few → ltb lemmas_most (length ls) ≡ false → any (λ (d : Clause). ltb literals_most (length d)) ls ≡ false → Told Clauses
  unfolding over_limits
  clauses_so few count short =
      ltb-true clauses_most (clause_count (built c ls))
      (the_last _ _ _ _ _ _ _ _ _ few.text_few few.lemma_text_few few.some_latch few.latches_few few.helpers_few
      (ap not few.one_bad) count short over)

  walk_told : (told : Limit) → WalkSo lemma_text ls told → Few → ltb lemmas_most (length ls) ≡ false → Told told
  walk_told LongCircuit found few count = elim found [ ]
  walk_told LongLemmas found few count = elim found [ ]
  walk_told NoLatch found few count = elim found [ ]
  walk_told (Latches _) found few count = elim found [ ]
  walk_told (Width _ _) found few count = elim found [ ]
  walk_told NoBad found few count = elim found [ ]
  walk_told (Outputs _) found few count = elim found [ ]
  walk_told (Bads _) found few count = elim found [ ]
  walk_told (Both _ _) found few count = elim found [ ]
  walk_told (ManyLemmas _) found few count = elim found [ ]
  walk_told (LongLemma line met) found few count = found
  walk_told Clauses short few count = clauses_so few count short

  lemmas_so : Few → Told (lemmas_limit lemma_text)
  unfolding lemmas_limit
  lemmas_so few =
      by_test (ltb lemmas_most (count_of newline lemma_text)) _ _
      (λ e.
      let many : lemmas_most < length ls = omega (arith, ltb-true lemmas_most (count_of newline lemma_text) e, lemma_count) in
      (lemma_count, many))
      (λ e. walk_told (long_lemma (length lemma_text) lemma_text 0) lines_read.walk few (ap (ltb lemmas_most) (sym lemma_count) ∙ e))

  module _ (before : (one : eqb (length c.outputs + length c.bads) 1 ≡ true) → Few) where
    property_so : Told (property_limit (capped h.o) (capped h.b) lemma_text)
    unfolding property_limit bads_limit
    property_so =
        let o = h.o in
        let b = h.b in
        by_test (eqb (capped o) 0) _ _
        (λ e.
        let no_output : length c.outputs ≡ 0 = counts.outputs ∙ capped_none o (eqb-true (capped o) 0 e) in
        by_test (eqb (capped b) 0) _ _
        (λ f. (no_output, counts.bads ∙ capped_none b (eqb-true (capped b) 0 f)))
        (λ f.
        by_test (eqb (capped b) 1) _ _
        (λ g.
        let one : length c.bads ≡ 1 = counts.bads ∙ capped_one b (eqb-true (capped b) 1 g) in
        lemmas_so (before (eq-eqb (length c.outputs + length c.bads) 1 (omega (arith, no_output, one)))))
        (λ g.
        let some = eqb-false (capped b) 0 f in
        let other = eqb-false (capped b) 1 g in
        let more : 1 < length c.bads = omega (arith, capped_most b, counts.bads, some, other) in
        (ap capped (sym counts.bads), more, no_output))))
        (λ e.
        let some = eqb-false (capped o) 0 e in
        by_test (eqb (capped b) 0) _ _
        (λ f.
        let no_bad : length c.bads ≡ 0 = counts.bads ∙ capped_none b (eqb-true (capped b) 0 f) in
        by_test (eqb (capped o) 1) _ _
        (λ g.
        let one : length c.outputs ≡ 1 = counts.outputs ∙ capped_one o (eqb-true (capped o) 1 g) in
        lemmas_so (before (eq-eqb (length c.outputs + length c.bads) 1 (omega (arith, no_bad, one)))))
        (λ g.
        let other = eqb-false (capped o) 1 g in
        let more : 1 < length c.outputs = omega (arith, capped_most o, counts.outputs, some, other) in
        (ap capped (sym counts.outputs), more, no_bad)))
        (λ f.
        let some_bad = eqb-false (capped b) 0 f in
        let outputs : 0 < length c.outputs = omega (arith, capped_most o, counts.outputs, some) in
        let bads : 0 < length c.bads = omega (arith, capped_most b, counts.bads, some_bad) in
        (ap capped (sym counts.outputs), ap capped (sym counts.bads), outputs, bads)))

  width_so : ltb file_most (length text) ≡ false → ltb file_most (length lemma_text) ≡ false → eqb (length c.latches) 0 ≡ false
      → ltb n_most (length c.latches) ≡ false → Told (width_limit h lemma_text)
  unfolding width_limit
  width_so long long_lemmas some_latch latches_few =
      let i = h.i in
      let a = h.a in
      by_test (ltb m_most (capped i + capped a)) _ _
      (λ e.
      let many : m_most < length c.inputs + length c.gates =
      omega (arith, ltb-true m_most (capped i + capped a) e, capped_most i, capped_most a, counts.inputs, counts.gates) in
      (ap capped (sym counts.inputs), ap capped (sym counts.gates), many))
      (λ e.
      let both = ltb-false m_most (capped i + capped a) e in
      let i_few = capped_few i m_most (omega arith) (omega (arith, both)) in
      let a_few = capped_few a m_most (omega arith) (omega (arith, both)) in
      let i_is = capped_under i (omega (arith, i_few)) in
      let a_is = capped_under a (omega (arith, a_few)) in
      let few : length c.inputs + length c.gates ≤ m_most = omega (arith, both, i_is, a_is, counts.inputs, counts.gates) in
      property_so
      (λ one.
      record {
        text_few = long;
        lemma_text_few = long_lemmas;
        some_latch = some_latch;
        latches_few = latches_few;
        helpers_few = le-ltb m_most (length c.inputs + length c.gates) few;
        one_bad = one;
      }))

  header_so : ltb file_most (length text) ≡ false → ltb file_most (length lemma_text) ≡ false → Told (header_limit h lemma_text)
  unfolding header_limit
  header_so long long_lemmas =
      let l = h.l in
      by_test (eqb (capped l) 0) _ _ (λ e. counts.latches ∙ capped_none l (eqb-true (capped l) 0 e))
      (λ e.
      let some = eqb-false (capped l) 0 e in
      by_test (ltb n_most (capped l)) _ _
      (λ f.
      let many : n_most < length c.latches = omega (arith, ltb-true n_most (capped l) f, capped_most l, counts.latches) in
      (ap capped (sym counts.latches), many))
      (λ f.
      let few = capped_few l n_most (omega arith) (ltb-false n_most (capped l) f) in
      let latches_few : length c.latches ≤ n_most = omega (arith, few, counts.latches) in
      width_so long long_lemmas (ne_eqb (length c.latches) 0 (λ z. some (omega (arith, z, counts.latches, capped_most l))))
      (le-ltb n_most (length c.latches) latches_few)))

  by_answer : (b : Bool) (x y : Option Limit) → (b ≡ true → LimitSo text lemma_text c ls x) → (b ≡ false → LimitSo text lemma_text c ls y)
      → LimitSo text lemma_text c ls (cond b x y)
  by_answer true x y h g = h refl
  by_answer false x y h g = g refl

  -- What 14 is told with: the limit is passed, and the numbers are those of the circuit and the lemmas.
  pub limit_so : LimitSo text lemma_text c ls (limit_of text lemma_text)
  unfolding limit_of
  limit_so =
      by_answer (ltb file_most (length text)) _ _ (λ e. ltb-true file_most (length text) e)
      (λ long.
      by_answer (ltb file_most (length lemma_text)) _ _ (λ e. ltb-true file_most (length lemma_text) e)
      (λ long_lemmas.
      by_answer (header_test text) _ _ (λ e. header_so long long_lemmas) (λ e. true≢false (sym (header_true text c read) ∙ e))))

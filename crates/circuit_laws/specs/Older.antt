-- The older edition is the special case: where all latches start at 0 and nothing but outputs stands between latches and gates, a circuit and
-- the problem built from it mean what they meant before edition 1.9; and a text whose header has five numbers is read as such a circuit.
use Rattle.std.specs.Prelude.{ℕ, suc, ◌≤◌, ◌≡◌, ◌↔◌, Bool, true, false, ltb}
use Rattle.std.proofs.Common.{arith, sym, subst, ◌∙◌, inl, inr, ltb-false}
use Rattle.std.proofs.Math.Path.{refl, ap, subst⁻¹}
use mathlib.Core.List.{List, [], ◌∷◌, ◌++◌, append-nil}
use Rattle.std.proofs.Math.ListN.{length, get_or, get_or-eq_default}
use Rattle.meaning.specs.Clauses.{neg, Clause, Values}
use Rattle.meaning.specs.Meaning.{Problem, State}
use Rattle.meaning.specs.Demands.{In}
use Rattle.meaning.specs.Circuit.{Circuit, Latch, Start, at_0, bad_literal, value, Worth, StartsWith, AllStart, StartState, AllOne, AllNext, NextState, NextStates, CircuitRun, CanBeBad}
use Rattle.meaning.specs.Built.{n_of, helpers, edge, clause_if, gates_clauses, latches_clauses, start_clause, start_clauses, one_clauses, built}
use Rattle.meaning.specs.Lines.{line_at, words, decimal_on, decimal}
use Rattle.meaning.specs.CircuitText.{Header, number_in, header_of, Line, latch_form, at_number, start_of, latch_of, circuit_of, right, is_judged, read_circuit_text}
use Rattle.circuit_laws.specs.Listed.{map_at}
use Rattle.circuit_laws.specs.Sections.{section_numbers}
use Rattle.circuit_laws.specs.ReadSane.{ReadAs, read_as, read_counts}
use Rattle.circuit_laws.specs.Theorems.{NeverBad}

-- every latch starts at 0, and there are no bad literals, constraints, justice properties and fairness constraints
pub record Older (c : Circuit) : Type 0 where
  pub starts : (q : Latch) → In q c.latches → q.start ≡ at_0
  pub bads : c.bads ≡ []
  pub constraints : c.constraints ≡ []
  pub justice : c.justice ≡ 0
  pub fairness : c.fairness ≡ 0

-- ---- a circuit before edition 1.9

-- the single output
unfoldable pub output : Circuit → ℕ
output c = get_or c.outputs 0 0

-- every latch starts at 0
abbrev pub AllZero : State → ℕ → List Latch → Type 0
AllZero s i [] = Unit {0}
AllZero s i (q ∷ qs) = (s i ≡ false) × AllZero s (suc i) qs

-- t is the next state of s at some inputs
abbrev pub OlderNext : Circuit → State → State → Type 0
OlderNext c s t = (x v : Values) × Worth c s x v × AllNext v t 1 c.latches

abbrev pub OlderNexts : Circuit → State → List State → Type 0
OlderNexts c s [] = Unit {0}
OlderNexts c s (t ∷ ts) = OlderNext c s t × OlderNexts c t ts

abbrev pub OlderRun : Circuit → List State → Type 0
OlderRun c [] = ⊥
OlderRun c (s ∷ ts) = AllZero s 1 c.latches × OlderNexts c s ts

-- a state is bad if for some inputs the output is 1
abbrev pub OutputCanBe1 : Circuit → State → Type 0
OutputCanBe1 c s = (x v : Values) × Worth c s x v × (value v (output c) ≡ true)

-- (-i) for each latch
unfoldable pub zero_clauses : ℕ → List Latch → List Clause
zero_clauses i [] = []
zero_clauses i (q ∷ qs) = (neg i ∷ []) ∷ zero_clauses (suc i) qs

-- Init: (-i) for each latch. Tr: the gates, then the latches. Bad: the gates again, then the output.
unfoldable pub older_built : Circuit → List Clause → Problem
older_built c lemmas =
    record {
      n = n_of c;
      m = length (helpers c);
      init = zero_clauses 1 c.latches;
      tr = gates_clauses c c.gates ++ latches_clauses c 1 c.latches;
      bad = gates_clauses c c.gates ++ clause_if (edge c (output c) ∷ []);
      lemmas = lemmas;
    }

-- ---- the same of a circuit of either edition

module _ (c : Circuit) (older : Older c) where
  pub older_start : (s : State) → StartState c s ↔ AllZero s 1 c.latches
  older_start s = go 1 c.latches older.starts
    where
      one : (from : Start) → from ≡ at_0 → (b : Bool) → StartsWith from b ↔ (b ≡ false)
      one from e b = subst⁻¹ (λ (f : Start). StartsWith f b ↔ (b ≡ false)) e (λ h. h, λ h. h)

      go : (i : ℕ) (qs : List Latch) → ((q : Latch) → In q qs → q.start ≡ at_0) → AllStart s i qs ↔ AllZero s i qs
      go i [] all_0 = (λ h. h, λ h. h)
      go i (q ∷ qs) all_0 =
          let this = one q.start (all_0 q (inl refl)) (s i) in
          let on = go (suc i) qs (λ p j. all_0 p (inr j)) in
          (λ (h, rest). (this.0 h, on.0 rest), λ (h, rest). (this.1 h, on.1 rest))

  none_asked : (v : Values) → AllOne v c.constraints
  none_asked v = subst⁻¹ (AllOne v) older.constraints tt

  pub older_step : (s t : State) → NextState c s t ↔ OlderNext c s t
  older_step s t = (λ (x, v, worth, next, ones). (x, v, worth, next), λ (x, v, worth, next). (x, v, worth, next, none_asked v))

  older_steps : (s : State) (ts : List State) → NextStates c s ts ↔ OlderNexts c s ts
  older_steps s [] = (λ h. tt, λ h. tt)
  older_steps s (t ∷ ts) =
      let step = older_step s t in
      let on = older_steps t ts in
      (λ (h, rest). (step.0 h, on.0 rest), λ (h, rest). (step.1 h, on.1 rest))

  pub older_runs : (ss : List State) → CircuitRun c ss ↔ OlderRun c ss
  older_runs [] = (λ h. h, λ h. h)
  older_runs (s ∷ ts) =
      let start = older_start s in
      let on = older_steps s ts in
      (λ (h, rest). (start.0 h, on.0 rest), λ (h, rest). (start.1 h, on.1 rest))

  bad_is_output : bad_literal c ≡ output c
  unfolding bad_literal output
  bad_is_output = ap (λ (ls : List ℕ). get_or (ls ++ c.outputs) 0 0) older.bads

  pub older_bad : (s : State) → CanBeBad c s ↔ OutputCanBe1 c s
  older_bad s = (
    λ (x, v, worth, ones). (x, v, worth, sym (ap (value v) bad_is_output) ∙ ones.0),
    λ (x, v, worth, is_1). (x, v, worth, (ap (value v) bad_is_output ∙ is_1, none_asked v)),
  )

  starts_clauses : (i : ℕ) (qs : List Latch) → ((q : Latch) → In q qs → q.start ≡ at_0) → start_clauses i qs ≡ zero_clauses i qs
  unfolding start_clauses start_clause zero_clauses
  starts_clauses i [] all_0 = refl
  starts_clauses i (q ∷ qs) all_0 =
      ap (λ (from : Start). start_clause i from ++ start_clauses (suc i) qs) (all_0 q (inl refl))
      ∙ ap (λ (cs : List Clause). (neg i ∷ []) ∷ cs) (starts_clauses (suc i) qs (λ p j. all_0 p (inr j)))

  no_more : (cs : List Clause) → cs ++ one_clauses c c.constraints ≡ cs
  unfolding one_clauses
  no_more cs = ap (λ (ls : List ℕ). cs ++ one_clauses c ls) older.constraints ∙ append-nil cs

  -- and so is the problem built
  pub older_built_is : (lemmas : List Clause) → built c lemmas ≡ older_built c lemmas
  unfolding built older_built one_clauses
  older_built_is lemmas =
      let gates = gates_clauses c c.gates in
      λ i.
      record {
        n = n_of c;
        m = length (helpers c);
        init = starts_clauses 1 c.latches older.starts i;
        tr = gates ++ no_more (latches_clauses c 1 c.latches) i;
        bad = gates ++ (no_more (clause_if (edge c (bad_literal c) ∷ [])) ∙ ap (λ (l : ℕ). clause_if (edge c l ∷ [])) bad_is_output) i;
        lemmas = lemmas;
      }

-- ---- a header of five numbers

-- a number that is left out is 0
left_out : (line : List ℕ) (j : ℕ) → length (words line) ≤ j → number_in line j ≡ 0
unfolding number_in decimal decimal_on
left_out line j few = ap decimal (get_or-eq_default (words line) [] few)

none_of : {A : Type 0} (as' : List A) → length as' ≡ 0 → as' ≡ []
none_of [] e = refl
none_of (a ∷ as') e = absurd (omega arith)

-- a latch line of two numbers
latch_starts : (l : Line) → length l.numbers ≡ 2 → (latch_of l).start ≡ at_0
unfolding latch_of start_of at_number
latch_starts l two = ap start_of (get_or-eq_default l.numbers 0 {n = 2} (omega arith))

older_latches : (judged : Bool) (h : Header) (text : List ℕ) (c : Circuit) → h.newer ≡ false → ReadAs judged h text c
    → (q : Latch) → In q c.latches → q.start ≡ at_0
unfolding circuit_of latch_form
older_latches judged h text c older r q i =
    let s = r.lines_of in
    let (l, place, is) = map_at latch_of q s.latches (subst (λ (d : Circuit). In q d.latches) r.circuit i) in
    ap (λ (p : Latch). p.start) is
    ∙ latch_starts l (section_numbers (latch_form h.newer) judged h.m text h.l _ _ s.latches _ older r.latches l place)

pub read_older : (text : List ℕ) (c : Circuit) → read_circuit_text text ≡ right c → (header_of (line_at text 0)).newer ≡ false → Older c
unfolding header_of
read_older text c e older =
    let line = line_at text 0 in
    let few : length (words line) ≤ 6 = ltb-false 6 (length (words line)) older in
    let counts = read_counts text c e in
    record {
      starts = older_latches (is_judged text) (header_of line) text c older (read_as text c e);
      bads = none_of c.bads (counts.bads ∙ left_out line 6 (omega arith));
      constraints = none_of c.constraints (counts.constraints ∙ left_out line 7 (omega arith));
      justice = counts.justice ∙ left_out line 8 (omega arith);
      fairness = counts.fairness ∙ left_out line 9 (omega arith);
    }

-- a header of five numbers: six words with 'aag'
pub five_numbers : (line : List ℕ) → length (words line) ≡ 6 → (header_of line).newer ≡ false
unfolding header_of
five_numbers line six = ap (ltb 6) six

-- the circuit of such a text never outputs 1, where it is never bad
pub older_never_outputs_1 : (text : List ℕ) → (header_of (line_at text 0)).newer ≡ false → NeverBad text
    → (c : Circuit) × (read_circuit_text text ≡ right c)
    × ((ss : List State) → OlderRun c ss → (s : State) → In s ss → OutputCanBe1 c s → ⊥)
older_never_outputs_1 text older (c, reads, never) =
    let is = read_older text c reads older in
    (c, reads, λ ss run s i bad. never ss ((older_runs c is ss).1 run) s i ((older_bad c is s).1 bad))

-- What the reading of a circuit text gives: the counts of its header, and a circuit that is sane.
use Rattle.std.specs.Prelude.{ℕ, ◌≤◌, ◌≡◌, ◌⊎◌, Bool, true, false, ◌&&◌, cond, length}
use Rattle.std.proofs.Common.{arith, sym, subst, ◌∙◌, inl, inr, le-leb}
use Rattle.std.proofs.Math.Path.{refl, ap, subst⁻¹}
use Rattle.std.proofs.Math.Option.{Option, none, some}
use mathlib.Core.List.{List, [], ◌∷◌, ◌++◌, map, map-map, append_assoc}
use Rattle.std.proofs.lemmas.List.{length-map}
use Rattle.meaning.specs.File.{file_most}
use Rattle.meaning.specs.Demands.{In}
use Rattle.meaning.specs.Circuit.{Circuit, Latch, Gate, var, negated, input_variables, latch_variables, gate_variables, variables}
use Rattle.meaning.specs.Lines.{line_at, ended, next_line}
use Rattle.meaning.specs.CircuitText.{Header, header_of, header_right, Line, Section, fault, lines, Form, section, input_form, latch_form, used_form, count_form, gate_form, symbols_fault, at_number, latch_of, gate_of, Properties, Sections, circuit_of, known, gate_works, fault_unless, first_not, or_else, first_unknown, uses_fault, Text, wrong, right, on_lines, on_none, defined_in, is_judged, used_of, total, on_properties, after_header, if_header, read_circuit_text}
use Rattle.laws.specs.Basics.{in_append_cases}
use Rattle.circuit_laws.specs.Sane.{Once, Sane}
use Rattle.circuit_laws.specs.Listed.{map_at}
use Rattle.circuit_laws.specs.Sections.{section_count, DefinedFrom, section_defines, defined_once, defined_at}

wrong_is_not_right : {at : ℕ} {c : Circuit} → wrong at ≡ right c → ⊥
wrong_is_not_right e = let z : ◌≡◌ {A = ℕ} 0 1 = cc in omega arith

-- lines that are read lead on
on_lines_right : {R : Type 0} (found : Section) (on : List Line → ℕ → Text) (c : Circuit) → on_lines found on ≡ right c
    → ((ls : List Line) (next : ℕ) → found ≡ lines ls next → on ls next ≡ right c → R) → R
unfolding on_lines
on_lines_right (fault at) on c e go = absurd (wrong_is_not_right e)
on_lines_right (lines ls next) on c e go = go ls next refl e

on_none_right : (o : Option ℕ) (on : Text) (c : Circuit) → on_none o on ≡ right c → (o ≡ none) × (on ≡ right c)
unfolding on_none
on_none_right none on c e = (refl, e)
on_none_right (some at) on c e = absurd (wrong_is_not_right e)

if_header_right : (b : Bool) (on : Text) (c : Circuit) → if_header b on ≡ right c → on ≡ right c
unfolding if_header
if_header_right true on c e = e
if_header_right false on c e = absurd (wrong_is_not_right e)

-- how the lines between latches and gates were read, one section after another
pub record PropertiesAs (judged : Bool) (h : Header) (text : List ℕ) (at : ℕ) (p : Properties) (next : ℕ) : Type 0 where
  pub at₁ : ℕ
  pub at₂ : ℕ
  pub at₃ : ℕ
  pub at₄ : ℕ
  pub at₅ : ℕ
  pub outputs : section used_form judged h.m text h.o [] at ≡ lines p.outputs at₁
  pub bads : section used_form judged h.m text h.b [] at₁ ≡ lines p.bads at₂
  pub constraints : section used_form judged h.m text h.c [] at₂ ≡ lines p.constraints at₃
  pub counts : section count_form judged h.m text h.j [] at₃ ≡ lines p.counts at₄
  pub justice : section used_form judged h.m text (total p.counts) [] at₄ ≡ lines p.justice at₅
  pub fairness : section used_form judged h.m text h.f [] at₅ ≡ lines p.fairness next

on_properties_right : {R : Type 0} (judged : Bool) (h : Header) (text : List ℕ) (at : ℕ) (on : Properties → ℕ → Text) (c : Circuit)
    → on_properties judged h text at on ≡ right c
    → ((p : Properties) (next : ℕ) → PropertiesAs judged h text at p next → on p next ≡ right c → R) → R
unfolding on_properties
on_properties_right judged h text at on c e go =
    on_lines_right (section used_form judged h.m text h.o [] at) _ c e
    (λ outputs at₁ e₁ on₁.
    on_lines_right (section used_form judged h.m text h.b [] at₁) _ c on₁
    (λ bads at₂ e₂ on₂.
    on_lines_right (section used_form judged h.m text h.c [] at₂) _ c on₂
    (λ constraints at₃ e₃ on₃.
    on_lines_right (section count_form judged h.m text h.j [] at₃) _ c on₃
    (λ counts at₄ e₄ on₄.
    on_lines_right (section used_form judged h.m text (total counts) [] at₄) _ c on₄
    (λ justice at₅ e₅ on₅.
    on_lines_right (section used_form judged h.m text h.f [] at₅) _ c on₅
    (λ fairness at₆ e₆ on₆.
    go
    (record {
      outputs = outputs;
      bads = bads;
      constraints = constraints;
      counts = counts;
      justice = justice;
      fairness = fairness;
    })
    at₆
    (record {
      at₁ = at₁;
      at₂ = at₂;
      at₃ = at₃;
      at₄ = at₄;
      at₅ = at₅;
      outputs = e₁;
      bads = e₂;
      constraints = e₃;
      counts = e₄;
      justice = e₅;
      fairness = e₆;
    })
    on₆))))))

-- how a text was read: its sections, one after another, and what they use
pub record ReadAs (judged : Bool) (h : Header) (text : List ℕ) (c : Circuit) : Type 0 where
  pub lines_of : Sections
  pub at₀ : ℕ
  pub at₁ : ℕ
  pub at₂ : ℕ
  pub at₃ : ℕ
  pub at₄ : ℕ
  pub inputs : section input_form judged h.m text h.i [] at₀ ≡ lines lines_of.inputs at₁
  pub latches : section (latch_form h.newer) judged h.m text h.l (defined_in lines_of.inputs) at₁ ≡ lines lines_of.latches at₂
  pub properties : PropertiesAs judged h text at₂ lines_of.properties at₃
  pub gates : section gate_form judged h.m text h.a (defined_in lines_of.inputs ++ defined_in lines_of.latches) at₃
      ≡ lines lines_of.gates at₄
  pub circuit : c ≡ circuit_of lines_of
  pub uses : cond judged (uses_fault (circuit_of lines_of) lines_of) none ≡ none

right_same : (c d : Circuit) → right d ≡ right c → c ≡ d
right_same c d e = cc

after_header_read : (judged : Bool) (h : Header) (text : List ℕ) (at : ℕ) (c : Circuit) → after_header judged h text at ≡ right c
    → ReadAs judged h text c
unfolding after_header used_of
after_header_read judged h text at c e =
    on_lines_right (section input_form judged h.m text h.i [] at) _ c e
    (λ inputs at₁ e₁ on₁.
    on_lines_right (section (latch_form h.newer) judged h.m text h.l (defined_in inputs) at₁) _ c on₁
    (λ latches at₂ e₂ on₂.
    on_properties_right judged h text at₂ _ c on₂
    (λ properties at₃ e₃ on₃.
    on_lines_right (section gate_form judged h.m text h.a (defined_in inputs ++ defined_in latches) at₃) _ c on₃
    (λ gates at₄ e₄ on₄.
    let s : Sections = record { inputs = inputs; latches = latches; properties = properties; gates = gates } in
    let (no_fault, on₅) = on_none_right (symbols_fault (length text) judged h text [] at₄) (used_of judged s) c on₄ in
    let (no_use, on₆) = on_none_right (cond judged (uses_fault (circuit_of s) s) none) (right (circuit_of s)) c on₅ in
    record {
      lines_of = s;
      at₀ = at;
      at₁ = at₁;
      at₂ = at₂;
      at₃ = at₃;
      at₄ = at₄;
      inputs = e₁;
      latches = e₂;
      properties = e₃;
      gates = e₄;
      circuit = right_same c (circuit_of s) on₆;
      uses = no_use;
    }))))

pub read_as : (text : List ℕ) (c : Circuit) → read_circuit_text text ≡ right c
    → ReadAs (is_judged text) (header_of (line_at text 0)) text c
unfolding read_circuit_text
read_as text c e =
    after_header_read (is_judged text) (header_of (line_at text 0)) text (next_line text 0) c
    (if_header_right (ended text 0 && header_right (line_at text 0)) _ c e)

-- the counts that the header gives
pub record Counts (h : Header) (c : Circuit) : Type 0 where
  pub inputs : length c.inputs ≡ h.i
  pub latches : length c.latches ≡ h.l
  pub outputs : length c.outputs ≡ h.o
  pub gates : length c.gates ≡ h.a
  pub bads : length c.bads ≡ h.b
  pub constraints : length c.constraints ≡ h.c
  pub justice : c.justice ≡ h.j
  pub fairness : c.fairness ≡ h.f

counts_of : (judged : Bool) (h : Header) (text : List ℕ) (c : Circuit) → ReadAs judged h text c → Counts h c
unfolding circuit_of
counts_of judged h text c r =
    let s = r.lines_of in
    let p = s.properties in
    let as_read = r.properties in
    let count : (f : Form) (k : ℕ) (before : List ℕ) (at : ℕ) (ls : List Line) (next : ℕ)
    → section f judged h.m text k before at ≡ lines ls next → length ls ≡ k = λ f. section_count f judged h.m text in
    subst⁻¹ (Counts h) r.circuit
    (record {
      inputs = length-map s.inputs (at_number 0) ∙ count input_form h.i [] _ s.inputs _ r.inputs;
      latches = length-map s.latches latch_of ∙ count (latch_form h.newer) h.l _ _ s.latches _ r.latches;
      outputs = length-map p.outputs (at_number 0) ∙ count used_form h.o [] _ p.outputs _ as_read.outputs;
      gates = length-map s.gates gate_of ∙ count gate_form h.a _ _ s.gates _ r.gates;
      bads = length-map p.bads (at_number 0) ∙ count used_form h.b [] _ p.bads _ as_read.bads;
      constraints = length-map p.constraints (at_number 0) ∙ count used_form h.c [] _ p.constraints _ as_read.constraints;
      justice = count count_form h.j [] _ p.counts _ as_read.counts;
      fairness = count used_form h.f [] _ p.fairness _ as_read.fairness;
    })

pub read_counts : (text : List ℕ) (c : Circuit) → read_circuit_text text ≡ right c → Counts (header_of (line_at text 0)) c
read_counts text c e = counts_of (is_judged text) (header_of (line_at text 0)) text c (read_as text c e)

-- ---- what lines use

or_else_none : (a b : Option ℕ) → or_else a b ≡ none → (a ≡ none) × (b ≡ none)
unfolding or_else
or_else_none none b e = (refl, e)
or_else_none (some at) b e = let z : ◌≡◌ {A = ℕ} 0 1 = cc in absurd (omega arith)

first_not_none : (test : Line → Bool) (ls : List Line) → first_not test ls ≡ none → (l : Line) → In l ls → test l ≡ true
unfolding first_not fault_unless
first_not_none test [] e l i = elim i [ ]
first_not_none test (k ∷ ls) e l i = go (test k) refl e i (first_not_none test ls)
  where
    go : (b : Bool) → test k ≡ b → fault_unless b k.at (first_not test ls) ≡ none → In l (k ∷ ls)
        → (first_not test ls ≡ none → (l : Line) → In l ls → test l ≡ true) → test l ≡ true
    go true t h (inl same) rest = ap test same ∙ t
    go true t h (inr j) rest = rest h l j
    go false t h j rest = let z : ◌≡◌ {A = ℕ} 0 1 = cc in absurd (omega arith)

-- ---- what lines define

variables_of : (s : Sections) → variables (circuit_of s) ≡ defined_in s.inputs ++ (defined_in s.latches ++ defined_in s.gates)
unfolding variables input_variables latch_variables gate_variables circuit_of defined_in latch_of gate_of
variables_of s =
    cc (
      map-map var (at_number 0) s.inputs,
      map-map (λ (q : Latch). var q.lit) latch_of s.latches,
      map-map (λ (g : Gate). var g.lit) gate_of s.gates,
    )

-- lines that are read and judged define each variable once, and none defines 0
module _ (h : Header) (text : List ℕ) (s : Sections) (at₀ at₁ at₂ at₃ at₄ : ℕ)
    (inputs : section input_form true h.m text h.i [] at₀ ≡ lines s.inputs at₁)
    (latches : section (latch_form h.newer) true h.m text h.l (defined_in s.inputs) at₁ ≡ lines s.latches at₂)
    (gates : section gate_form true h.m text h.a (defined_in s.inputs ++ defined_in s.latches) at₃ ≡ lines s.gates at₄) where
  new_inputs : DefinedFrom [] s.inputs
  unfolding input_form
  new_inputs = section_defines input_form h.m text h.i [] _ s.inputs _ refl refl (omega arith) inputs

  new_latches : DefinedFrom (defined_in s.inputs) s.latches
  unfolding latch_form
  new_latches = section_defines (latch_form h.newer) h.m text h.l _ _ s.latches _ refl refl (omega arith) latches

  pub new_gates : DefinedFrom (defined_in s.inputs ++ defined_in s.latches) s.gates
  unfolding gate_form
  new_gates = section_defines gate_form h.m text h.a _ _ s.gates _ refl refl (omega arith) gates

  pub each_once : Once (variables (circuit_of s))
  each_once =
      let two = defined_once (defined_in s.inputs) s.latches (defined_once [] s.inputs tt new_inputs) new_latches in
      let three = defined_once (defined_in s.inputs ++ defined_in s.latches) s.gates two new_gates in
      subst⁻¹ Once (variables_of s) (rw append_assoc at three)

  -- no line defines 0
  line_nonzero : (u : ℕ) (before : List ℕ) (ls : List Line) → DefinedFrom before ls → In u (defined_in ls) → u ≡ 0 → ⊥
  unfolding defined_in
  line_nonzero u before ls new i z =
      let found = map_at (λ (l : Line). var (at_number 0 l)) u ls i in
      (defined_at before ls new found.0 found.1).1 (sym found.2 ∙ z)

  pub each_nonzero : (u : ℕ) → In u (variables (circuit_of s)) → u ≡ 0 → ⊥
  each_nonzero u i = go (in_append_cases u (defined_in s.inputs) _ (subst (In u) (variables_of s) i))
    where
      further : In u (defined_in s.latches) ⊎ In u (defined_in s.gates) → u ≡ 0 → ⊥
      further (inl j) = line_nonzero u (defined_in s.inputs) s.latches new_latches j
      further (inr j) = line_nonzero u (defined_in s.inputs ++ defined_in s.latches) s.gates new_gates j

      go : In u (defined_in s.inputs) ⊎ In u (defined_in s.latches ++ defined_in s.gates) → u ≡ 0 → ⊥
      go (inl j) = line_nonzero u [] s.inputs new_inputs j
      go (inr j) = further (in_append_cases u (defined_in s.latches) (defined_in s.gates) j)

module _ (h : Header) (text : List ℕ) (c : Circuit) (r : ReadAs true h text c) where
  abbrev s : Sections
  s = r.lines_of

  -- a number of a line that no first line at fault names is of a known variable
  used_known : (ls : List Line) → first_unknown (circuit_of s) 0 ls ≡ none → (l : ℕ) → In l (map (at_number 0) ls)
      → known (circuit_of s) (var l) ≡ true
  unfolding first_unknown
  used_known ls fine l i =
      let found = map_at (at_number 0) l ls i in
      ap (λ (k : ℕ). known (circuit_of s) (var k)) found.2 ∙ first_not_none _ ls fine found.0 found.1

  lines_sane : Sane (circuit_of s)
  unfolding uses_fault first_unknown circuit_of latch_of gate_of
  lines_sane =
      let p = s.properties in
      let (in_latches, rest₁) = or_else_none (first_unknown (circuit_of s) 1 s.latches) _ r.uses in
      let (in_outputs, rest₂) = or_else_none (first_unknown (circuit_of s) 0 p.outputs) _ rest₁ in
      let (in_bads, rest₃) = or_else_none (first_unknown (circuit_of s) 0 p.bads) _ rest₂ in
      let (in_constraints, rest₄) = or_else_none (first_unknown (circuit_of s) 0 p.constraints) _ rest₃ in
      let (in_justice, rest₅) = or_else_none (first_unknown (circuit_of s) 0 p.justice) _ rest₄ in
      let (in_fairness, in_gates) = or_else_none (first_unknown (circuit_of s) 0 p.fairness) _ rest₅ in
      record {
        once = each_once h text s _ _ _ _ _ r.inputs r.latches r.gates;
        nonzero = each_nonzero h text s _ _ _ _ _ r.inputs r.latches r.gates;
        even = λ g i.
            let found = map_at gate_of g s.gates i in
            ap (λ (a : Gate). negated a.lit) found.2
            ∙ (defined_at (defined_in s.inputs ++ defined_in s.latches) s.gates (new_gates h text s _ _ _ _ _ r.inputs r.latches r.gates) found.0 found.1).0;
        next_known = λ q i.
            let found = map_at latch_of q s.latches i in
            ap (λ (k : Latch). known (circuit_of s) (var k.next)) found.2
            ∙ first_not_none _ s.latches in_latches found.0 found.1;
        output_known = used_known p.outputs in_outputs;
        bad_known = used_known p.bads in_bads;
        constraint_known = used_known p.constraints in_constraints;
        works = λ g i.
            let found = map_at gate_of g s.gates i in
            ap (gate_works (circuit_of s)) found.2 ∙ first_not_none _ s.gates in_gates found.0 found.1;
      }

-- within 65,536 bytes everything is judged
read_judged : (text : List ℕ) (c : Circuit) → read_circuit_text text ≡ right c → length text ≤ file_most
    → ReadAs true (header_of (line_at text 0)) text c
unfolding is_judged
read_judged text c e short =
    subst (λ (b : Bool). ReadAs b (header_of (line_at text 0)) text c) (le-leb (length text) file_most short) (read_as text c e)

pub read_sane : (text : List ℕ) (c : Circuit) → read_circuit_text text ≡ right c → length text ≤ file_most → Sane c
read_sane text c e short =
    let r = read_judged text c e short in
    subst⁻¹ Sane r.circuit (lines_sane (header_of (line_at text 0)) text c r)

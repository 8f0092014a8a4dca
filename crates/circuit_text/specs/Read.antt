-- The reading of a circuit text, put together stage by stage.
use Rattle.std.specs.Prelude.{ℕ, ◌≤◌, ◌≡◌, refl, ◌⊎◌, Bool, true, false, length, Result, Ok, Err}
use Rattle.std.proofs.Common.{arith, sym, ◌∙◌, inl, inr}
use Rattle.std.proofs.Math.Path.{ap, subst}
use Rattle.std.proofs.Math.Option.{Option}
use mathlib.Core.List.{List, [], ◌++◌, append-nil}
use Rattle.meaning.specs.Demands.{In}
use Rattle.meaning.specs.Circuit
use Rattle.meaning.specs.Circuit.{Gate, var, variables, gate_variables, input_variables, latch_variables}
use Rattle.meaning.specs.CircuitText
use Rattle.meaning.specs.CircuitText.{Section, Line, Sections, lines, section, input_form, latch_form, gate_form, defined_in, symbols_fault, on_none, used_of, uses_fault, circuit_of, after_header, wrong, right, is_judged, if_header, read_circuit_text, given, header_of}
use Rattle.laws.specs.Basics.{not_true_is_false}
use Rattle.circuit_laws.specs.Sane.{Once}
use Rattle.circuit_laws.specs.ReadSane.{each_once, each_nonzero}
use Rattle.circuit_laws.specs.Known.{in_gates, gate_variable, once_gates, input_no_gate, latch_no_gate, given_cases}
use Rattle.lines.specs.Numbers.{value_is, worth}
use Rattle.sections.specs.declared.find.Lines.{Lines}
use Rattle.sections.specs.declared.circuit.Circuit.{Circuit}
use Rattle.sections.specs.declared.circuit.Properties.{Properties}
use Rattle.sections.specs.Lists.{first_lines, variables_of}
use Rattle.sections.specs.Rows.{form_of}
use Rattle.sections.specs.Reading.{ended_as}
use Rattle.sections.specs.Whole.{lines_of, properties_of, sections_of, circuit_at, Whole, RowsAt}
use Rattle.lines.specs.declared.fault.Fault.{Fault}
use Rattle.lines.specs.Faults.{fault_of}
use Rattle.symbols.specs.declared.Counts.{Counts}
use Rattle.symbols.specs.Symbols.{header_from, Small}
use Rattle.symbols.specs.Walk.{CountsOf, fault_from}
use Rattle.uses.specs.Stuck.{Distinct}
use Rattle.circuit_text.specs.declared.header.Header.{Header}
use Rattle.circuit_text.specs.Header.{Parts, header_at}
use Rattle.circuit_text.specs.Stages.{word_most, Stage, stage, stage_wrong, stage_on, symbols_wrong, symbols_fine, after_gates, after_properties, after_latches, after_inputs, after_header_is}
use Rattle.circuit_text.specs.Properties.{nothing, Counted, Read, PropertiesRead}

-- the lines of a circuit are read
pub record Lined (text : List ℕ) (h : Header) (judged : Bool) (c : Circuit) : Type 0 where
  pub is : after_header judged (header_at h) text h.next ≡ used_of judged (sections_of text c)
  pub whole : Whole text c
  pub distinct : judged ≡ true → Distinct (circuit_at text c)

abbrev pub LinesRead : List ℕ → Header → Bool → Result Circuit Fault → Type 0
LinesRead text h judged (Err e) = after_header judged (header_at h) text h.next ≡ wrong e.at
LinesRead text h judged (Ok c) = Lined text h judged c

-- what the text is read as
abbrev pub TextRead : List ℕ → Result Circuit Fault → Type 0
TextRead text (Err e) = read_circuit_text text ≡ wrong e.at
TextRead text (Ok c) = (read_circuit_text text ≡ right (circuit_at text c)) × Whole text c

-- what the lines use is read
abbrev pub UsesRead : List ℕ → Bool → Circuit → Result (Unit {0}) Fault → Type 0
UsesRead text judged c (Err e) = used_of judged (sections_of text c) ≡ wrong e.at
UsesRead text judged c (Ok u) = used_of judged (sections_of text c) ≡ right (circuit_at text c)

-- gates of their own
sane_distinct : (c : Circuit.Circuit) → Once (variables c) → ((u : ℕ) → In u (variables c) → u ≡ 0 → ⊥) → Distinct c
sane_distinct c once nonzero =
    record { once = once_gates c once; apart = λ g i. not_true_is_false (λ e. go g i (given_cases c (var g.lit) e)) }
  where
    go : (g : Gate) → In g c.gates
        → (var g.lit ≡ 0) ⊎ (In (var g.lit) (input_variables c) ⊎ In (var g.lit) (latch_variables c)) → ⊥
    go g i (inl e) = nonzero (var g.lit) (gate_variable c (var g.lit) (in_gates c g i)) e
    go g i (inr (inl j)) = input_no_gate c once (var g.lit) j (in_gates c g i)
    go g i (inr (inr j)) = latch_no_gate c once (var g.lit) j (in_gates c g i)

-- ---- the gates and the symbols, stage by stage

-- what reading the gates and the symbols comes to, after lines that are read
pub record GatesLined (text : List ℕ) (h : Header) (judged : Bool) (inputs latches : Lines) (properties : Properties) (at : ℕ) (c : Circuit) : Type 0 where
  pub same : c ≡ record { inputs = inputs; latches = latches; properties = properties; gates = record { at = at; count = h.a.value } }
  pub is : after_properties judged (header_at h) text (lines_of text inputs) (lines_of text latches) (properties_of text properties) at
      ≡ used_of judged (sections_of text c)
  pub rows : RowsAt text 3 (record { at = at; count = h.a.value })
  pub next : ℕ
  pub gates : section gate_form judged (worth h.m) text (worth h.a)
      (defined_in (lines_of text inputs) ++ defined_in (lines_of text latches)) at
      ≡ lines (lines_of text (record { at = at; count = h.a.value })) next

abbrev pub GatesRead : List ℕ → Header → Bool → Lines → Lines → Properties → ℕ → Result Circuit Fault → Type 0
GatesRead text h judged inputs latches properties at (Err e) =
    after_properties judged (header_at h) text (lines_of text inputs) (lines_of text latches) (properties_of text properties) at ≡ wrong e.at
GatesRead text h judged inputs latches properties at (Ok c) = GatesLined text h judged inputs latches properties at c

module _ (text : List ℕ) (h : Header) (p : Parts text h) (judged : Bool) (short : length text ≤ word_most) (inputs latches : Lines)
    (properties : Properties) (at : ℕ) (inside : at ≤ length text) (counted : Counted h) where
  abbrev After : CircuitText.Text
  After =
      after_properties judged (header_at h) text (lines_of text inputs) (lines_of text latches) (properties_of text properties) at

  abbrev Gates : Section
  Gates =
      section (form_of (record { width = 3; defines = true; starts = false; counts = false })) judged (worth h.m) text
      (worth h.a) (variables_of text inputs ++ variables_of text latches) at

  abbrev GatesHere : Section
  GatesHere =
      section gate_form judged (worth h.m) text (worth h.a)
      (defined_in (lines_of text inputs) ++ defined_in (lines_of text latches)) at

  gates_here : ended_as Gates ≡ ended_as GatesHere
  unfolding form_of gate_form variables_of lines_of
  gates_here = refl

  pub gates_wrong : (x : Fault) → Err x ≡ ended_as Gates → After ≡ wrong x.at
  unfolding header_at after_properties
  gates_wrong x e = stage_wrong GatesHere _ x (e ∙ gates_here)

  module _ (r : ℕ) (e : Ok r ≡ ended_as Gates) where
    abbrev gates : Lines
    gates = record { at = at; count = h.a.value }

    abbrev circuit : Circuit
    circuit = record { inputs = inputs; latches = latches; properties = properties; gates = gates }

    pub gates_stage : Stage text
        (section gate_form judged (worth h.m) text (worth h.a)
        (defined_in (lines_of text inputs) ++ defined_in (lines_of text latches)) at)
        3 at (worth h.a) h.a.value r
    unfolding gate_form
    gates_stage = stage gate_form judged (worth h.m) text _ at (worth h.a) h.a.value r (value_is h.a) inside (omega arith) short (e ∙ gates_here)

    on_gates : After
        ≡ after_gates judged (header_at h) text (lines_of text inputs) (lines_of text latches) (properties_of text properties)
        (lines_of text gates) r
    unfolding header_at after_properties
    on_gates =
        stage_on _ _ _
        (λ ls next.
        after_gates judged (header_at h) text (lines_of text inputs) (lines_of text latches) (properties_of text properties) ls next)
        gates_stage.is

    abbrev counts : Counts
    counts =
        record {
          i = h.i.value;
          l = h.l.value;
          o = h.o.value;
          b = h.b.value;
          c = h.c.value;
          j = h.j.value;
          f = h.f.value;
        }

    pub small : Small counts
    small =
        let between = counted.between in
        record {
          inputs = counted.i.small;
          latches = counted.l.small;
          outputs = between.o.small;
          bads = between.b.small;
          constraints = between.c.small;
          justice = between.j.small;
          fairness = between.f.small;
        }

    same_counts : CountsOf (header_at h) counts
    unfolding header_at
    same_counts =
        let between = counted.between in
        record {
          i = counted.i.is;
          l = counted.l.is;
          o = between.o.is;
          b = between.b.is;
          c = between.c.is;
          j = between.j.is;
          f = between.f.is;
        }

    abbrev Symbols : Option ℕ
    Symbols = symbols_fault (length text) judged (header_from counts) text [] r

    symbols_here : fault_of Symbols ≡ fault_of (symbols_fault (length text) judged (header_at h) text [] r)
    symbols_here = ap fault_of (sym (fault_from (header_at h) counts same_counts (length text) judged text [] r))

    pub symbols_are_wrong : (t : Fault) → Err t ≡ fault_of Symbols → After ≡ wrong t.at
    unfolding after_gates
    symbols_are_wrong t is = on_gates ∙ symbols_wrong _ _ t (is ∙ symbols_here)

    pub all_gates : (u : Unit {0}) → Ok u ≡ fault_of Symbols → GatesLined text h judged inputs latches properties at circuit
    unfolding after_gates sections_of
    all_gates u is =
        record {
          same = refl;
          is = on_gates ∙ symbols_fine _ _ u (is ∙ symbols_here);
          rows = gates_stage.rows;
          next = r;
          gates = gates_stage.is;
        }

-- ---- the lines before them

module _ (text : List ℕ) (h : Header) (p : Parts text h) (judged : Bool) (short : length text ≤ word_most) where
  abbrev Inputs : Section
  Inputs =
      section (form_of (record { width = 1; defines = true; starts = false; counts = false })) judged (worth h.m) text
      (worth h.i) (variables_of text nothing ++ variables_of text nothing) h.next

  inputs_same : ended_as Inputs ≡ ended_as (section input_form judged (worth h.m) text (worth h.i) [] h.next)
  unfolding form_of input_form variables_of first_lines defined_in
  inputs_same = refl

  pub inputs_wrong : (x : Fault) → Err x ≡ ended_as Inputs → after_header judged (header_at h) text h.next ≡ wrong x.at
  unfolding header_at
  inputs_wrong x e = after_header_is judged (header_at h) text h.next ∙ stage_wrong _ _ x (e ∙ inputs_same)

  module _ (r₁ : ℕ) (e₁ : Ok r₁ ≡ ended_as Inputs) where
    abbrev inputs_here : Lines
    inputs_here = record { at = h.next; count = h.i.value }

    pub inputs_stage : Stage text (section input_form judged (worth h.m) text (worth h.i) [] h.next) 1 h.next
        (worth h.i) h.i.value r₁
    unfolding input_form
    inputs_stage =
        stage input_form judged (worth h.m) text [] h.next (worth h.i) h.i.value r₁ (value_is h.i) p.next_in (omega arith) short (e₁ ∙ inputs_same)

    on₁ : after_header judged (header_at h) text h.next ≡ after_inputs judged (header_at h) text (lines_of text inputs_here) r₁
    unfolding header_at
    on₁ =
        after_header_is judged (header_at h) text h.next
        ∙ stage_on _ _ _ (λ ls at. after_inputs judged (header_at h) text ls at) inputs_stage.is

    abbrev Latches : Section
    Latches =
        section (form_of (record { width = 2; defines = true; starts = h.newer; counts = false })) judged (worth h.m) text
        (worth h.l) (variables_of text inputs_here ++ variables_of text nothing) r₁

    before₂ : variables_of text inputs_here ++ variables_of text nothing ≡ defined_in (lines_of text inputs_here)
    unfolding variables_of first_lines defined_in lines_of
    before₂ = append-nil _

    latches_same : ended_as Latches
        ≡ ended_as (section (latch_form h.newer) judged (worth h.m) text (worth h.l) (defined_in (lines_of text inputs_here)) r₁)
    unfolding form_of latch_form
    latches_same =
        ap (λ (b : List ℕ). ended_as (section (latch_form h.newer) judged (worth h.m) text (worth h.l) b r₁)) before₂

    pub latches_wrong : (x : Fault) → Err x ≡ ended_as Latches → after_header judged (header_at h) text h.next ≡ wrong x.at
    unfolding header_at after_inputs
    latches_wrong x e = on₁ ∙ stage_wrong _ _ x (e ∙ latches_same)

    module _ (r₂ : ℕ) (e₂ : Ok r₂ ≡ ended_as Latches) where
      abbrev latches_here : Lines
      latches_here = record { at = r₁; count = h.l.value }

      pub latches_stage : Stage text
          (section (latch_form h.newer) judged (worth h.m) text (worth h.l) (defined_in (lines_of text inputs_here)) r₁)
          2 r₁ (worth h.l) h.l.value r₂
      unfolding latch_form
      latches_stage =
          stage (latch_form h.newer) judged (worth h.m) text _ r₁ (worth h.l) h.l.value r₂ (value_is h.l) inputs_stage.inside (omega arith) short (e₂ ∙ latches_same)

      on₂ : after_header judged (header_at h) text h.next
          ≡ after_latches judged (header_at h) text (lines_of text inputs_here) (lines_of text latches_here) r₂
      unfolding header_at after_inputs
      on₂ =
          on₁
          ∙ stage_on _ _ _ (λ ls at. after_latches judged (header_at h) text (lines_of text inputs_here) ls at) latches_stage.is

      pub between_wrong : (x : Fault) → PropertiesRead text h judged r₂ (Err x) → after_header judged (header_at h) text h.next ≡ wrong x.at
      unfolding after_latches
      between_wrong x read =
          on₂
          ∙ read
          (λ properties at. after_properties judged (header_at h) text (lines_of text inputs_here) (lines_of text latches_here) properties at)

      module _ (properties : Properties) (next : ℕ) (between_read : Read text h judged r₂ properties next) where
        pub counted_all : Counted h
        counted_all =
            record {
              i = record { is = inputs_stage.value; small = inputs_stage.small };
              l = record { is = latches_stage.value; small = latches_stage.small };
              between = between_read.counted;
            }

        on₃ : after_header judged (header_at h) text h.next
            ≡ after_properties judged (header_at h) text (lines_of text inputs_here) (lines_of text latches_here) (properties_of text properties) next
        unfolding after_latches
        on₃ =
            on₂
            ∙ between_read.is
            (λ ps at. after_properties judged (header_at h) text (lines_of text inputs_here) (lines_of text latches_here) ps at)

        pub lines_read : (found : Result Circuit Fault) → GatesRead text h judged inputs_here latches_here properties next found → LinesRead text h judged found
        unfolding header_at sections_of circuit_at
        lines_read (Err e) g = on₃ ∙ g
        lines_read (Ok c) g =
            subst (Lined text h judged) (sym g.same)
            (record {
              is = on₃ ∙ g.is ∙ ap (λ (d : Circuit). used_of judged (sections_of text d)) g.same;
              whole =
                  record {
                    inputs = inputs_stage.rows;
                    latches = latches_stage.rows;
                    properties = between_read.rows;
                    gates = g.rows;
                  };
              distinct = λ j. distinct_of j;
            })
          where
            whole_circuit : Circuit
            whole_circuit =
                record {
                  inputs = inputs_here;
                  latches = latches_here;
                  properties = properties;
                  gates = record { at = next; count = h.a.value };
                }

            s : Sections
            s = sections_of text whole_circuit

            inputs_true : judged ≡ true
                → section input_form true (worth h.m) text (worth h.i) [] h.next ≡ lines (lines_of text inputs_here) r₁
            inputs_true j =
                subst
                (λ (b : Bool).
                section input_form b (worth h.m) text (worth h.i) [] h.next ≡ lines (lines_of text inputs_here) r₁)
                j inputs_stage.is

            latches_true : judged ≡ true
                → section (latch_form h.newer) true (worth h.m) text (worth h.l) (defined_in (lines_of text inputs_here)) r₁
                ≡ lines (lines_of text latches_here) r₂
            latches_true j =
                subst
                (λ (b : Bool).
                section (latch_form h.newer) b (worth h.m) text (worth h.l) (defined_in (lines_of text inputs_here)) r₁
                ≡ lines (lines_of text latches_here) r₂)
                j latches_stage.is

            gates_true : judged ≡ true
                → section gate_form true (worth h.m) text (worth h.a)
                (defined_in (lines_of text inputs_here) ++ defined_in (lines_of text latches_here)) next
                ≡ lines (lines_of text whole_circuit.gates) g.next
            gates_true j =
                subst
                (λ (b : Bool).
                section gate_form b (worth h.m) text (worth h.a)
                (defined_in (lines_of text inputs_here) ++ defined_in (lines_of text latches_here)) next
                ≡ lines (lines_of text whole_circuit.gates) g.next)
                j g.gates

            once : judged ≡ true → Once (variables (circuit_of s))
            once j =
                each_once (header_at h) text s h.next r₁ r₂ next g.next (inputs_true j) (latches_true j) (gates_true j)

            nonzero : judged ≡ true → (u : ℕ) → In u (variables (circuit_of s)) → u ≡ 0 → ⊥
            nonzero j =
                each_nonzero (header_at h) text s h.next r₁ r₂ next g.next (inputs_true j) (latches_true j) (gates_true j)

            distinct_of : judged ≡ true → Distinct (circuit_at text whole_circuit)
            distinct_of j = sane_distinct (circuit_of s) (once j) (nonzero j)

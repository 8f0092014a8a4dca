-- The lines between latches and gates, put together stage by stage.
use Rattle.std.specs.Prelude.{ℕ, ◌≤◌, ◌<◌, ◌≡◌, refl, Bool, length, Result, Ok, Err}
use Rattle.std.proofs.Common.{arith, ◌∙◌}
use mathlib.Core.List.{List, [], ◌++◌}
use Rattle.meaning.specs.CircuitText
use Rattle.meaning.specs.CircuitText.{Section, Line, Text, section, used_form, count_form, defined_in, total, on_properties, wrong}
use Rattle.lines.specs.declared.number.Number.{Number}
use Rattle.lines.specs.Numbers.{value_is, worth, huge, capped}
use Rattle.sections.specs.declared.find.Lines.{Lines}
use Rattle.sections.specs.declared.circuit.Properties.{Properties}
use Rattle.lines.specs.declared.fault.Fault.{Fault}
use Rattle.sections.specs.Lists.{first_lines, variables_of, Placed}
use Rattle.sections.specs.Reading.{ended_as}
use Rattle.sections.specs.Whole.{lines_of, properties_of, PropertiesAt}
use Rattle.circuit_text.specs.declared.header.Header.{Header}
use Rattle.circuit_text.specs.Header.{Parts, header_at}
use Rattle.circuit_text.specs.Stages.{word_most, Stage, stage, stage_wrong, stage_on, after_justice, after_counts, after_constraints, after_bads, after_outputs, on_properties_is}

abbrev pub nothing : Lines
nothing = record { at = 0; count = 0 }

pub nothing_placed : (text : List ℕ) → Placed text nothing
nothing_placed text = record { inside = omega arith; numbered = tt }

-- before a line of a literal or a count nothing is defined
pub nothing_before : (text : List ℕ) → variables_of text nothing ++ variables_of text nothing ≡ []
unfolding variables_of first_lines defined_in
nothing_before text = refl

-- a number that fits a word
pub record Fits (x : Number) : Type 0 where
  pub is : worth x ≡ x.value
  pub small : x.value < huge

-- the numbers of a header that count the lines that are read
pub record CountedBetween (h : Header) : Type 0 where
  pub o : Fits h.o
  pub b : Fits h.b
  pub c : Fits h.c
  pub j : Fits h.j
  pub f : Fits h.f

pub record Counted (h : Header) : Type 0 where
  pub i : Fits h.i
  pub l : Fits h.l
  pub between : CountedBetween h

-- all lines between latches and gates are read
pub record Read (text : List ℕ) (h : Header) (judged : Bool) (at : ℕ) (p : Properties) (next : ℕ) : Type 0 where
  pub is : (on : CircuitText.Properties → ℕ → Text) → on_properties judged (header_at h) text at on ≡ on (properties_of text p) next
  pub rows : PropertiesAt text p
  pub inside : next ≤ length text
  pub counted : CountedBetween h

abbrev pub PropertiesRead : List ℕ → Header → Bool → ℕ → Result (Properties × ℕ) Fault → Type 0
PropertiesRead text h judged at (Err e) =
    (on : CircuitText.Properties → ℕ → Text) → on_properties judged (header_at h) text at on ≡ wrong e.at
PropertiesRead text h judged at (Ok r) = Read text h judged at r.0 r.1

-- ---- stage by stage

module _ (text : List ℕ) (h : Header) (p : Parts text h) (judged : Bool) (short : length text ≤ word_most) (at : ℕ) (inside : at ≤ length text) where
  abbrev Used : ℕ → ℕ → Section
  Used n place = section used_form judged (worth h.m) text n [] place

  abbrev Wrong : ℕ → Type 0
  Wrong place = (on : CircuitText.Properties → ℕ → Text) → on_properties judged (header_at h) text at on ≡ wrong place

  used_stage : (n v place r : ℕ) → v ≡ capped n → place ≤ length text → Ok r ≡ ended_as (Used n place)
      → Stage text (Used n place) 1 place n v r
  unfolding used_form
  used_stage n v place r is in_text e = stage used_form judged (worth h.m) text [] place n v r is in_text (omega arith) short e

  pub outputs_wrong : (x : Fault) → Err x ≡ ended_as (Used (worth h.o) at) → Wrong x.at
  unfolding header_at
  outputs_wrong x e on = on_properties_is judged (header_at h) text on at ∙ stage_wrong _ _ x e

  module _ (r₁ : ℕ) (e₁ : Ok r₁ ≡ ended_as (Used (worth h.o) at)) where
    abbrev outputs : Lines
    outputs = record { at = at; count = h.o.value }

    pub stage₁ : Stage text (Used (worth h.o) at) 1 at (worth h.o) h.o.value r₁
    stage₁ = used_stage (worth h.o) h.o.value at r₁ (value_is h.o) inside e₁

    on₁ : (on : CircuitText.Properties → ℕ → Text)
        → on_properties judged (header_at h) text at on ≡ after_outputs judged (header_at h) text on (lines_of text outputs) r₁
    unfolding header_at
    on₁ on =
        on_properties_is judged (header_at h) text on at
        ∙ stage_on _ _ _ (λ ls next. after_outputs judged (header_at h) text on ls next) stage₁.is

    pub bads_wrong : (x : Fault) → Err x ≡ ended_as (Used (worth h.b) r₁) → Wrong x.at
    unfolding header_at after_outputs
    bads_wrong x e on = on₁ on ∙ stage_wrong _ _ x e

    module _ (r₂ : ℕ) (e₂ : Ok r₂ ≡ ended_as (Used (worth h.b) r₁)) where
      abbrev bads : Lines
      bads = record { at = r₁; count = h.b.value }

      pub stage₂ : Stage text (Used (worth h.b) r₁) 1 r₁ (worth h.b) h.b.value r₂
      stage₂ = used_stage (worth h.b) h.b.value r₁ r₂ (value_is h.b) stage₁.inside e₂

      on₂ : (on : CircuitText.Properties → ℕ → Text)
          → on_properties judged (header_at h) text at on
          ≡ after_bads judged (header_at h) text on (lines_of text outputs) (lines_of text bads) r₂
      unfolding header_at after_outputs
      on₂ on =
          on₁ on
          ∙ stage_on _ _ _ (λ ls next. after_bads judged (header_at h) text on (lines_of text outputs) ls next) stage₂.is

      pub constraints_wrong : (x : Fault) → Err x ≡ ended_as (Used (worth h.c) r₂) → Wrong x.at
      unfolding header_at after_bads
      constraints_wrong x e on = on₂ on ∙ stage_wrong _ _ x e

      module _ (r₃ : ℕ) (e₃ : Ok r₃ ≡ ended_as (Used (worth h.c) r₂)) where
        abbrev constraints : Lines
        constraints = record { at = r₂; count = h.c.value }

        pub stage₃ : Stage text (Used (worth h.c) r₂) 1 r₂ (worth h.c) h.c.value r₃
        stage₃ = used_stage (worth h.c) h.c.value r₂ r₃ (value_is h.c) stage₂.inside e₃

        on₃ : (on : CircuitText.Properties → ℕ → Text)
            → on_properties judged (header_at h) text at on
            ≡ after_constraints judged (header_at h) text on (lines_of text outputs) (lines_of text bads) (lines_of text constraints) r₃
        unfolding header_at after_bads
        on₃ on =
            on₂ on
            ∙ stage_on _ _ _
            (λ ls next. after_constraints judged (header_at h) text on (lines_of text outputs) (lines_of text bads) ls next) stage₃.is

        pub counts_wrong : (x : Fault) → Err x ≡ ended_as (section count_form judged (worth h.m) text (worth h.j) [] r₃) → Wrong x.at
        unfolding header_at after_constraints
        counts_wrong x e on = on₃ on ∙ stage_wrong _ _ x e

        module _ (r₄ : ℕ) (e₄ : Ok r₄ ≡ ended_as (section count_form judged (worth h.m) text (worth h.j) [] r₃)) where
          abbrev counts : Lines
          counts = record { at = r₃; count = h.j.value }

          pub stage₄ : Stage text (section count_form judged (worth h.m) text (worth h.j) [] r₃) 1 r₃ (worth h.j)
              h.j.value r₄
          unfolding count_form
          stage₄ =
              stage count_form judged (worth h.m) text [] r₃ (worth h.j) h.j.value r₄ (value_is h.j) stage₃.inside (omega arith) short e₄

          on₄ : (on : CircuitText.Properties → ℕ → Text)
              → on_properties judged (header_at h) text at on
              ≡ after_counts judged (header_at h) text on (lines_of text outputs) (lines_of text bads) (lines_of text constraints)
              (lines_of text counts) r₄
          unfolding header_at after_constraints
          on₄ on =
              on₃ on
              ∙ stage_on _ _ _
              (λ ls next.
              after_counts judged (header_at h) text on (lines_of text outputs) (lines_of text bads) (lines_of text constraints) ls next)
              stage₄.is

          pub justice_wrong : (x : Fault) → Err x ≡ ended_as (Used (total (lines_of text counts)) r₄) → Wrong x.at
          unfolding header_at after_counts
          justice_wrong x e on = on₄ on ∙ stage_wrong _ _ x e

          module _ (k : ℕ) (k_is : k ≡ capped (total (lines_of text counts))) (r₅ : ℕ) (e₅ : Ok r₅ ≡ ended_as (Used (total (lines_of text counts)) r₄)) where
            abbrev justice : Lines
            justice = record { at = r₄; count = k }

            pub stage₅ : Stage text (Used (total (lines_of text counts)) r₄) 1 r₄ (total (lines_of text counts)) k r₅
            stage₅ = used_stage (total (lines_of text counts)) k r₄ r₅ k_is stage₄.inside e₅

            on₅ : (on : CircuitText.Properties → ℕ → Text)
                → on_properties judged (header_at h) text at on
                ≡ after_justice judged (header_at h) text on (lines_of text outputs) (lines_of text bads) (lines_of text constraints)
                (lines_of text counts) (lines_of text justice) r₅
            unfolding header_at after_counts
            on₅ on =
                on₄ on
                ∙ stage_on _ _ _
                (λ ls next.
                after_justice judged (header_at h) text on (lines_of text outputs) (lines_of text bads) (lines_of text constraints)
                (lines_of text counts) ls next)
                stage₅.is

            pub fairness_wrong : (x : Fault) → Err x ≡ ended_as (Used (worth h.f) r₅) → Wrong x.at
            unfolding header_at after_justice
            fairness_wrong x e on = on₅ on ∙ stage_wrong _ _ x e

            module _ (r₆ : ℕ) (e₆ : Ok r₆ ≡ ended_as (Used (worth h.f) r₅)) where
              abbrev fairness : Lines
              fairness = record { at = r₅; count = h.f.value }

              abbrev properties : Properties
              properties =
                  record {
                    outputs = outputs;
                    bads = bads;
                    constraints = constraints;
                    counts = counts;
                    justice = justice;
                    fairness = fairness;
                  }

              stage₆ : Stage text (Used (worth h.f) r₅) 1 r₅ (worth h.f) h.f.value r₆
              stage₆ = used_stage (worth h.f) h.f.value r₅ r₆ (value_is h.f) stage₅.inside e₆

              pub all_read : Read text h judged at properties r₆
              unfolding header_at after_justice properties_of
              all_read =
                  record {
                    is = λ on.
                        on₅ on
                        ∙ stage_on _ _ _
                        (λ ls next.
                        on
                        (record {
                          outputs = lines_of text outputs;
                          bads = lines_of text bads;
                          constraints = lines_of text constraints;
                          counts = lines_of text counts;
                          justice = lines_of text justice;
                          fairness = ls;
                        })
                        next)
                        stage₆.is;
                    rows =
                        record {
                          outputs = stage₁.rows;
                          bads = stage₂.rows;
                          constraints = stage₃.rows;
                          counts = stage₄.rows;
                          justice = stage₅.rows;
                          fairness = stage₆.rows;
                        };
                    inside = stage₆.inside;
                    counted =
                        record {
                          o = record { is = stage₁.value; small = stage₁.small };
                          b = record { is = stage₂.value; small = stage₂.small };
                          c = record { is = stage₃.value; small = stage₃.small };
                          j = record { is = stage₄.value; small = stage₄.small };
                          f = record { is = stage₆.value; small = stage₆.small };
                        };
                  }

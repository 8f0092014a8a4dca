-- The sections of a text, one stage after another.
use Rattle.std.specs.Prelude.{ℕ, ◌*◌, ◌≤◌, ◌<◌, ◌≡◌, ◌⊎◌, Bool, true, false, List, [], ◌++◌, length, ltb, Ok, Err}
use Rattle.std.proofs.Common.{arith, sym, ap, subst, ◌∙◌, inl, inr, ltb-true, ltb-false}
use Rattle.std.proofs.Math.Path.{refl}
use Rattle.std.proofs.Math.Option.{Option, none, some}
use Rattle.meaning.specs.CircuitText.{Header, Form, Section, Line, Text, Properties, fault, lines, section, input_form, latch_form, used_form, count_form, gate_form, defined_in, total, symbols_fault, on_lines, on_none, on_properties, used_of, after_header, wrong}
use Rattle.laws.specs.Basics.{bool_cases}
use Rattle.lines.specs.Numbers.{huge, capped}
use Rattle.lines.specs.Literals.{capped_below}
use Rattle.sections.specs.Lists.{first_lines}
use Rattle.sections.specs.Reading.{ended_as, capped_most}
use Rattle.sections.specs.SectionLines.{Rows, rows_inside, section_rows}
use Rattle.sections.specs.Far.{rows_far}
use Rattle.sections.specs.Whole.{lines_of, RowsAt}
use Rattle.lines.specs.declared.fault.Fault.{Fault}
use Rattle.lines.specs.Faults.{fault_of}

-- the largest length that a slice has
abbrev pub word_most : ℕ
word_most = 18446744073709551615

-- ---- how a section ended

pub stage_wrong : (S : Section) (on : List Line → ℕ → Text) (e : Fault) → Err e ≡ ended_as S → on_lines S on ≡ wrong e.at
unfolding ended_as on_lines
stage_wrong (fault at) on e is = let same : e ≡ record { at = at } = cc in ap (λ (x : Fault). wrong x.at) (sym same)
stage_wrong (lines ls next) on e is = absurd (cc)

stage_lines : (S : Section) (r : ℕ) → Ok r ≡ ended_as S → (ls : List Line) × (S ≡ lines ls r)
unfolding ended_as
stage_lines (fault at) r is = absurd (cc)
stage_lines (lines ls next) r is = (ls, cc)

-- a count of lines that stand in a text is not capped
count_is : (text : List ℕ) (n v : ℕ) → v ≡ capped n → 2 * n ≤ length text → length text ≤ word_most → (v ≡ n) × (v < huge)
count_is text n v is few short = go (bool_cases (ltb v huge))
  where
    go : (ltb v huge ≡ true) ⊎ (ltb v huge ≡ false) → (v ≡ n) × (v < huge)
    go (inl t) =
        let less = ltb-true v huge t in
        (is ∙ capped_below n (subst (λ (k : ℕ). k < huge) is less), less)
    go (inr t) = absurd (omega (arith, ltb-false v huge t, is, capped_most n))

-- a section that is read, of n lines, where v is what n is capped to
pub record Stage (text : List ℕ) (S : Section) (width at n v next : ℕ) : Type 0 where
  pub is : S ≡ lines (lines_of text (record { at = at; count = v })) next
  pub rows : RowsAt text width (record { at = at; count = v })
  pub inside : next ≤ length text
  pub value : n ≡ v
  pub small : v < huge

pub stage : (f : Form) (judged : Bool) (m : ℕ) (text : List ℕ) (before : List ℕ) (at n v r : ℕ) → v ≡ capped n
    → at ≤ length text → 1 ≤ f.width → length text ≤ word_most
    → Ok r ≡ ended_as (section f judged m text n before at)
    → Stage text (section f judged m text n before at) f.width at n v r
unfolding lines_of
stage f judged m text before at n v r v_is inside least short r_is =
    let found = stage_lines (section f judged m text n before at) r r_is in
    let read = section_rows f judged m text n before at found.0 r found.1 in
    let end = rows_inside text f.width at n inside read.rows in
    let few : 2 * n ≤ length text = omega (arith, rows_far text f.width 2 (omega arith) at n read.rows, end) in
    let value = count_is text n v v_is few short in
    record {
      is =
          found.1 ∙ ap (λ (ls : List Line). lines ls r) read.lines_are
          ∙ ap (λ (k : ℕ). lines (first_lines text at k) r) (sym value.0);
      rows = record { inside = inside; rows = subst (Rows text f.width at) (sym value.0) read.rows };
      inside = subst (λ (k : ℕ). k ≤ length text) (sym read.next_is) end;
      value = sym value.0;
      small = value.1;
    }

pub stage_on : (S : Section) (ls : List Line) (next : ℕ) (on : List Line → ℕ → Text) → S ≡ lines ls next → on_lines S on ≡ on ls next
unfolding on_lines
stage_on S ls next on e = ap (λ (s : Section). on_lines s on) e

-- ---- the symbols

pub symbols_wrong : (o : Option ℕ) (on : Text) (e : Fault) → Err e ≡ fault_of o → on_none o on ≡ wrong e.at
unfolding fault_of on_none
symbols_wrong none on e is = absurd (cc)
symbols_wrong (some at) on e is = let same : e ≡ record { at = at } = cc in ap (λ (x : Fault). wrong x.at) (sym same)

pub symbols_fine : (o : Option ℕ) (on : Text) (u : Unit {0}) → Ok u ≡ fault_of o → on_none o on ≡ on
unfolding fault_of on_none
symbols_fine none on u is = refl
symbols_fine (some at) on u is = absurd (cc)

-- ---- what comes after each section

module _ (judged : Bool) (h : Header) (text : List ℕ) where
  unfoldable pub after_gates : List Line → List Line → Properties → List Line → ℕ → Text
  after_gates inputs latches properties gates at₄ =
      on_none (symbols_fault (length text) judged h text [] at₄)
      (used_of judged (record { inputs = inputs; latches = latches; properties = properties; gates = gates }))

  unfoldable pub after_properties : List Line → List Line → Properties → ℕ → Text
  after_properties inputs latches properties at₃ =
      on_lines (section gate_form judged h.m text h.a (defined_in inputs ++ defined_in latches) at₃)
      (λ gates at₄. after_gates inputs latches properties gates at₄)

  unfoldable pub after_latches : List Line → List Line → ℕ → Text
  after_latches inputs latches at₂ = on_properties judged h text at₂ (λ properties at₃. after_properties inputs latches properties at₃)

  unfoldable pub after_inputs : List Line → ℕ → Text
  after_inputs inputs at₁ =
      on_lines (section (latch_form h.newer) judged h.m text h.l (defined_in inputs) at₁)
      (λ latches at₂. after_latches inputs latches at₂)

  pub after_header_is : (at : ℕ)
      → after_header judged h text at ≡ on_lines (section input_form judged h.m text h.i [] at) (λ inputs at₁. after_inputs inputs at₁)
  unfolding after_header after_inputs after_latches after_properties after_gates
  after_header_is at = refl

  -- the sections between latches and gates
  module _ (on : Properties → ℕ → Text) where
    unfoldable pub after_justice : List Line → List Line → List Line → List Line → List Line → ℕ → Text
    after_justice outputs bads constraints counts justice at₅ =
        on_lines (section used_form judged h.m text h.f [] at₅)
        (λ fairness at₆.
        on
        (record {
          outputs = outputs;
          bads = bads;
          constraints = constraints;
          counts = counts;
          justice = justice;
          fairness = fairness;
        })
        at₆)

    unfoldable pub after_counts : List Line → List Line → List Line → List Line → ℕ → Text
    after_counts outputs bads constraints counts at₄ =
        on_lines (section used_form judged h.m text (total counts) [] at₄)
        (λ justice at₅. after_justice outputs bads constraints counts justice at₅)

    unfoldable pub after_constraints : List Line → List Line → List Line → ℕ → Text
    after_constraints outputs bads constraints at₃ =
        on_lines (section count_form judged h.m text h.j [] at₃) (λ counts at₄. after_counts outputs bads constraints counts at₄)

    unfoldable pub after_bads : List Line → List Line → ℕ → Text
    after_bads outputs bads at₂ =
        on_lines (section used_form judged h.m text h.c [] at₂) (λ constraints at₃. after_constraints outputs bads constraints at₃)

    unfoldable pub after_outputs : List Line → ℕ → Text
    after_outputs outputs at₁ = on_lines (section used_form judged h.m text h.b [] at₁) (λ bads at₂. after_bads outputs bads at₂)

    pub on_properties_is : (at : ℕ)
        → on_properties judged h text at on
        ≡ on_lines (section used_form judged h.m text h.o [] at) (λ outputs at₁. after_outputs outputs at₁)
    unfolding on_properties after_outputs after_bads after_constraints after_counts after_justice
    on_properties_is at = refl

-- The line of the bad literal: the first of the bad literals or, where there is none, the single output.
use Rattle.std.specs.Prelude.{ℕ, zero, suc, ◌+◌, ◌≤◌, ◌<◌, ◌≡◌, refl, ◌⊎◌, Bool, true, false, cond, List, [], ◌∷◌, ◌++◌, map, get_or, ltb}
use Rattle.std.proofs.Common.{arith, sym, ap, subst, ◌∙◌, inl, inr, lt-ltb, le-ltb, ltb-true, ltb-false}
use Rattle.meaning.specs.Circuit.{bad_literal}
use Rattle.meaning.specs.CircuitText.{at_number, circuit_of}
use Rattle.laws.specs.Basics.{bool_cases}
use Rattle.sections.specs.declared.find.Lines.{Lines}
use Rattle.sections.specs.declared.circuit.Circuit.{Circuit}
use Rattle.sections.specs.declared.circuit.Properties.{Properties}
use Rattle.sections.specs.Lists.{first_lines}
use Rattle.sections.specs.Whole.{PropertiesAt, RowsAt, circuit_at, sections_of, properties_of, lines_of}

-- the literals that stand on so many lines
unfoldable pub literals_of : List ℕ → Lines → List ℕ
literals_of text s = map (at_number 0) (lines_of text s)

-- one literal in outputs and bad literals together
abbrev pub OneBad : Properties → Type 0
OneBad p = p.outputs.count + p.bads.count ≡ 1

unfoldable pub bad_lines : Properties → Lines
bad_lines p = cond (ltb 0 p.bads.count) p.bads p.outputs

pub bad_some : (p : Properties) → 0 < p.bads.count → p.bads ≡ bad_lines p
unfolding bad_lines
bad_some p some = sym (rw (lt-ltb 0 p.bads.count some))

pub bad_none : (p : Properties) → p.bads.count ≤ 0 → p.outputs ≡ bad_lines p
unfolding bad_lines
bad_none p none = sym (rw (le-ltb 0 p.bads.count none))

-- it stands there
pub bad_rows : (text : List ℕ) (p : Properties) (s : Lines) → s ≡ bad_lines p → PropertiesAt text p → RowsAt text 1 s
unfolding bad_lines
bad_rows text p s is at = subst (RowsAt text 1) (sym is) (go (ltb 0 p.bads.count))
  where
    go : (b : Bool) → RowsAt text 1 (cond b p.bads p.outputs)
    go true = at.bads
    go false = at.outputs

-- and is one
pub bad_one : (p : Properties) → OneBad p → (bad_lines p).count ≡ 1
unfolding bad_lines
bad_one p one = go (bool_cases (ltb 0 p.bads.count))
  where
    go : (ltb 0 p.bads.count ≡ true) ⊎ (ltb 0 p.bads.count ≡ false)
        → (cond (ltb 0 p.bads.count) p.bads p.outputs).count ≡ 1
    go (inl t) = rw t (omega (arith, ltb-true 0 p.bads.count t, one))
    go (inr t) = rw t (omega (arith, ltb-false 0 p.bads.count t, one))

single : (text : List ℕ) (s : Lines) → s.count ≡ 1 → (ls : List ℕ) → literals_of text s ≡ (get_or (literals_of text s ++ ls) 0 0 ∷ [])
unfolding literals_of lines_of first_lines
single text s one ls = go s.count one
  where
    go : (k : ℕ) → k ≡ 1
        → map (at_number 0) (first_lines text s.at k)
        ≡ (get_or (map (at_number 0) (first_lines text s.at k) ++ ls) 0 0 ∷ [])
    go zero e = absurd (omega (arith, e))
    go (suc zero) e = refl
    go (suc (suc k)) e = absurd (omega (arith, e))

none_there : (text : List ℕ) (s : Lines) → s.count ≡ 0 → literals_of text s ≡ []
unfolding literals_of lines_of first_lines
none_there text s none = ap (λ (k : ℕ). map (at_number 0) (first_lines text s.at k)) none

literal_is : (text : List ℕ) (c : Circuit)
    → bad_literal (circuit_at text c) ≡ get_or (literals_of text c.properties.bads ++ literals_of text c.properties.outputs) 0 0
unfolding bad_literal circuit_at circuit_of sections_of properties_of literals_of
literal_is text c = refl

-- it is the bad literal
pub bad_is : (text : List ℕ) (c : Circuit) → OneBad c.properties
    → literals_of text (bad_lines c.properties) ≡ (bad_literal (circuit_at text c) ∷ [])
bad_is text c one = go (bool_cases (ltb 0 p.bads.count))
  where
    p : Properties
    p = c.properties

    go : (ltb 0 p.bads.count ≡ true) ⊎ (ltb 0 p.bads.count ≡ false)
        → literals_of text (bad_lines p) ≡ (bad_literal (circuit_at text c) ∷ [])
    go (inl t) =
        let some = ltb-true 0 p.bads.count t in
        let is = bad_some p some in
        ap (literals_of text) (sym is)
        ∙ single text p.bads (ap (λ (s : Lines). s.count) is ∙ bad_one p one) (literals_of text p.outputs)
        ∙ ap (λ (l : ℕ). l ∷ []) (sym (literal_is text c))
    go (inr t) =
        let none = ltb-false 0 p.bads.count t in
        let is = bad_none p none in
        let is_empty = none_there text p.bads (omega (arith, none)) in
        ap (literals_of text) (sym is)
        ∙ single text p.outputs (ap (λ (s : Lines). s.count) is ∙ bad_one p one) []
        ∙ ap (λ (l : ℕ). l ∷ [])
        (first_of (literals_of text p.outputs)
        ∙ ap (λ (ls : List ℕ). get_or (ls ++ literals_of text p.outputs) 0 0) (sym is_empty)
        ∙ sym (literal_is text c))
      where
        first_of : (ls : List ℕ) → get_or (ls ++ []) 0 0 ≡ get_or ls 0 0
        first_of [] = refl
        first_of (l ∷ ls) = refl

-- What the lines use, and the whole text.
use Rattle.std.specs.Prelude.{ℕ, ◌≤◌, ◌≡◌, Bool, true, false, cond, List, length, leb, Result, Ok, Err}
use Rattle.std.proofs.Common.{arith, sym, ◌∙◌}
use Rattle.std.proofs.Math.Path.{ap}
use Rattle.std.proofs.Math.Option.{none}
use Rattle.meaning.specs.Lines.{line_at, next_line}
use Rattle.meaning.specs.CircuitText
use Rattle.meaning.specs.CircuitText.{Text, on_none, used_of, uses_fault, circuit_of, after_header, wrong, right, is_judged, if_header, read_circuit_text, header_of}
use Rattle.sections.specs.declared.circuit.Circuit.{Circuit}
use Rattle.sections.specs.Whole.{sections_of, circuit_at, Whole, rows_few}
use Rattle.circuit_text.specs.declared.header.Header.{Header}
use Rattle.circuit_text.specs.Header.{HeaderRight, header_test, header_at}
use Rattle.lines.specs.declared.fault.Fault.{Fault}
use Rattle.lines.specs.Faults.{fault_of}
use Rattle.circuit_text.specs.Stages.{symbols_wrong, symbols_fine}
use Rattle.circuit_text.specs.Read.{Lined, LinesRead, UsesRead, TextRead}

module _ (text : List ℕ) (c : Circuit) (judged : Bool) where
  pub not_judged_right : judged ≡ false → used_of judged (sections_of text c) ≡ right (circuit_at text c)
  unfolding used_of circuit_at on_none
  not_judged_right e = ap (λ (b : Bool). on_none (cond b (uses_fault (circuit_of (sections_of text c)) (sections_of text c)) none) (right (circuit_of (sections_of text c)))) e

  judged_is : judged ≡ true → used_of judged (sections_of text c)
      ≡ on_none (uses_fault (circuit_at text c) (sections_of text c)) (right (circuit_at text c))
  unfolding used_of circuit_at
  judged_is j = ap (λ (b : Bool). on_none (cond b (uses_fault (circuit_of (sections_of text c)) (sections_of text c)) none) (right (circuit_of (sections_of text c)))) j

  -- what the code finds of it is what it comes to
  pub uses_are : judged ≡ true → (r : Result (Unit {0}) Fault) → r ≡ fault_of (uses_fault (circuit_at text c) (sections_of text c)) → UsesRead text judged c r
  uses_are j (Err e) is = judged_is j ∙ symbols_wrong _ _ e is
  uses_are j (Ok u) is = judged_is j ∙ symbols_fine _ _ u is

-- a gate takes six bytes
pub few_gates : (text : List ℕ) (c : Circuit) → Whole text c → length text ≤ 65536 → c.gates.count ≤ 10922
few_gates text c w short = omega (arith, rows_few 3 6 (omega arith) w.gates)

-- a header that is not right
pub header_is_wrong : (text : List ℕ) → header_test text ≡ false → read_circuit_text text ≡ wrong 0
unfolding read_circuit_text if_header header_test
header_is_wrong text e =
    ap (λ (b : Bool). if_header b (after_header (is_judged text) (header_of (line_at text 0)) text (next_line text 0))) e

module _ (text : List ℕ) (h : Header) (is : HeaderRight text h) (judged : Bool) (j : judged ≡ leb (length text) 65536) where
  pub header_is_right : read_circuit_text text ≡ after_header judged (header_at h) text h.next
  unfolding read_circuit_text if_header header_test is_judged header_at
  header_is_right =
      let p = is.parts in
      ap (λ (b : Bool). if_header b (after_header (is_judged text) (header_of (line_at text 0)) text (next_line text 0))) is.right
      ∙ ap (λ (b : Bool). after_header b (header_of (line_at text 0)) text (next_line text 0)) (sym j)
      ∙ ap (λ (x : CircuitText.Header). after_header judged x text (next_line text 0)) (sym p.worths)
      ∙ ap (after_header judged (header_at h) text) (sym p.next_is)

  -- ---- the answer, by how the lines were read

  pub read_fault : (e : Fault) → LinesRead text h judged (Err e) → read_circuit_text text ≡ wrong e.at
  read_fault e read = header_is_right ∙ read

  module _ (c : Circuit) (read : Lined text h judged c) where
    pub used_fault : (e : Fault) → UsesRead text judged c (Err e) → read_circuit_text text ≡ wrong e.at
    used_fault e u = header_is_right ∙ read.is ∙ u

    pub read_used : (u : Unit {0}) → UsesRead text judged c (Ok u) → TextRead text (Ok c)
    read_used u used = (header_is_right ∙ read.is ∙ used, read.whole)

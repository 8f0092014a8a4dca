-- Small circuits with their lemmas, printed from their numbers, and what they are read as: a table under one statement that computes. It pins
-- the order of clauses and of literals, the constants, and the line at fault.
use Rattle.std.specs.Prelude.{ℕ, ◌+◌, ◌/◌, ◌%◌, ◌≡◌, refl, cond, List, [], ◌∷◌, ◌++◌, map, length, ltb}
use Rattle.meaning.specs.Clauses
use Rattle.meaning.specs.Clauses.{Literal, pos, neg, Clause}
use Rattle.meaning.specs.File
use Rattle.meaning.specs.File.{Reading, accepted}
use Rattle.meaning.specs.Circuit
use Rattle.meaning.specs.Built
use Rattle.meaning.specs.Lines
use Rattle.meaning.specs.CircuitText
use Rattle.meaning.specs.LemmaText
use Rattle.meaning.specs.Circuits
use Rattle.meaning.specs.Circuits.{read_circuit, refusal_13, refusal_14, refusal_15}

-- ---- texts, printed

-- a number below 100
unfoldable pub shown : ℕ → List ℕ
shown n = cond (ltb n 10) ((48 + n) ∷ []) ((48 + n / 10) ∷ (48 + n % 10) ∷ [])

-- numbers with a space between two, and a newline
unfoldable pub row : List ℕ → List ℕ
row [] = 10 ∷ []
row (n ∷ []) = shown n ++ (10 ∷ [])
row (n ∷ m ∷ ns) = shown n ++ (32 ∷ row (m ∷ ns))

unfoldable pub rows : List (List ℕ) → List ℕ
rows [] = []
rows (ns ∷ more) = row ns ++ rows more

-- 'aag', the header's numbers, and rows of numbers
unfoldable pub aiger : List ℕ → List (List ℕ) → List ℕ
aiger header more = 97 ∷ 97 ∷ 103 ∷ 32 ∷ (row header ++ rows more)

-- a lemma of one negated latch
unfoldable pub denies : ℕ → List ℕ
denies i = 45 ∷ row (i ∷ 0 ∷ [])

-- One input 2, a latch 4, gates 6 = 2 and not 4, 8 = 6 and true written in the other order, output 8, the latch's next value 6:
-- aag 4 1 1 1 2 / 2 / 4 6 / 8 / 8 6 1 / 6 2 5
unfoldable pub small : List (List ℕ)
small = (2 ∷ []) ∷ (4 ∷ 6 ∷ []) ∷ (8 ∷ []) ∷ (8 ∷ 6 ∷ 1 ∷ []) ∷ (6 ∷ 2 ∷ 5 ∷ []) ∷ []

unfoldable pub small_text : List ℕ
small_text = aiger (4 ∷ 1 ∷ 1 ∷ 1 ∷ 2 ∷ []) small

-- Latch 4 is variable 1, its next value 2, input 2 is 3, gates 8 and 6 are 4 and 5, in the order of their lines. Of gate 8 = 6 and true the
-- second clause is dropped, and its third has lost the constant.
unfoldable pub small_gates : List Clause
small_gates =
    (pos 5 ∷ neg 4 ∷ []) ∷ (pos 4 ∷ neg 5 ∷ []) ∷ (pos 3 ∷ neg 5 ∷ []) ∷ (neg 1 ∷ neg 5 ∷ []) ∷ (pos 5 ∷ neg 3 ∷ pos 1 ∷ []) ∷ []

unfoldable pub small_problem : Reading
small_problem =
    accepted
    (record {
      n = 1;
      m = 3;
      init = (neg 1 ∷ []) ∷ [];
      tr = small_gates ++ ((neg 2 ∷ pos 5 ∷ []) ∷ (pos 2 ∷ neg 5 ∷ []) ∷ []);
      bad = small_gates ++ ((pos 4 ∷ []) ∷ []);
      lemmas = (neg 1 ∷ []) ∷ [];
    })

-- An input 2, latches 4, 6 and 8 that start at 1, at either value and at 0, a bad literal 6, the constraints 2, false and true:
-- aag 4 1 3 0 0 1 3 / 2 / 4 2 1 / 6 4 6 / 8 8 / 6 / 2 / 0 / 1
unfoldable pub guarded_text : List ℕ
guarded_text =
    aiger (4 ∷ 1 ∷ 3 ∷ 0 ∷ 0 ∷ 1 ∷ 3 ∷ [])
    ((2 ∷ []) ∷ (4 ∷ 2 ∷ 1 ∷ []) ∷ (6 ∷ 4 ∷ 6 ∷ []) ∷ (8 ∷ 8 ∷ []) ∷ (6 ∷ []) ∷ (2 ∷ []) ∷ (0 ∷ []) ∷ (1 ∷ []) ∷ [])

-- The latches are variables 1 to 3, their next values 4 to 6, the input is 7. The constraint that is false leaves an empty clause, and the one
-- that is true none.
unfoldable pub guarded_problem : Reading
guarded_problem =
    accepted
    (record {
      n = 3;
      m = 1;
      init = (pos 1 ∷ []) ∷ (neg 3 ∷ []) ∷ [];
      tr =
          (neg 4 ∷ pos 7 ∷ []) ∷ (pos 4 ∷ neg 7 ∷ []) ∷ (neg 5 ∷ pos 1 ∷ []) ∷ (pos 5 ∷ neg 1 ∷ []) ∷ (neg 6 ∷ pos 3 ∷ []) ∷ (pos 6 ∷ neg 3 ∷ []) ∷
          (pos 7 ∷ []) ∷ [] ∷ [];
      bad = (pos 2 ∷ []) ∷ (pos 7 ∷ []) ∷ [] ∷ [];
      lemmas = (neg 1 ∷ []) ∷ [];
    })

unfoldable pub toggles_problem : Reading
toggles_problem =
    accepted
    (record {
      n = 1;
      m = 0;
      init = (neg 1 ∷ []) ∷ [];
      tr = (neg 2 ∷ neg 1 ∷ []) ∷ (pos 2 ∷ pos 1 ∷ []) ∷ [];
      bad = (pos 1 ∷ []) ∷ [];
      lemmas = (neg 1 ∷ []) ∷ [];
    })

-- ---- the table

-- two texts, and what they are read as
pub record Case : Type 0 where
  pub text : List ℕ
  pub lemma_text : List ℕ
  pub reading : Reading

unfoldable pub case : List ℕ → List ℕ → Reading → Case
case text lemma_text reading = record { text = text; lemma_text = lemma_text; reading = reading }

-- one latch that toggles, with its output: aag 1 0 1 1 0 / 2 3 / 2
unfoldable pub toggles : List (List ℕ)
toggles = (2 ∷ 3 ∷ []) ∷ (2 ∷ []) ∷ []

unfoldable pub circuit_table : List Case
circuit_table =
    case small_text (denies 1) small_problem ∷
    -- a symbol, then a comment with anything after it
    case (small_text ++ (105 ∷ 48 ∷ 32 ∷ 120 ∷ 10 ∷ 99 ∷ 10 ∷ 255 ∷ [])) (denies 1) small_problem ∷
    -- the same position named twice: the second line
    case (small_text ++ (105 ∷ 48 ∷ 32 ∷ 120 ∷ 10 ∷ 105 ∷ 48 ∷ 48 ∷ 32 ∷ 120 ∷ 10 ∷ [])) [] (refusal_13 (length small_text + 5)) ∷
    -- a last line without its newline
    case (small_text ++ (99 ∷ [])) [] (refusal_13 (length small_text)) ∷
    -- four numbers in the header, or ten; I + L + A over M; a line that is missing
    case (aiger (1 ∷ 0 ∷ 1 ∷ 1 ∷ []) toggles) [] (refusal_13 0) ∷
    case (aiger (1 ∷ 0 ∷ 1 ∷ 1 ∷ 0 ∷ 0 ∷ 0 ∷ 0 ∷ 0 ∷ 0 ∷ []) toggles) [] (refusal_13 0) ∷
    case (aiger (1 ∷ 1 ∷ 1 ∷ 1 ∷ 0 ∷ []) toggles) [] (refusal_13 0) ∷
    case (aiger (2 ∷ 0 ∷ 1 ∷ 2 ∷ 0 ∷ []) toggles) [] (refusal_13 20) ∷
    -- a literal over 2M+1; one that is defined twice, or odd
    case (aiger (1 ∷ 0 ∷ 1 ∷ 1 ∷ 0 ∷ []) ((2 ∷ 4 ∷ []) ∷ (2 ∷ []) ∷ [])) [] (refusal_13 14) ∷
    case (aiger (2 ∷ 1 ∷ 1 ∷ 1 ∷ 0 ∷ []) ((2 ∷ []) ∷ (2 ∷ 3 ∷ []) ∷ (2 ∷ []) ∷ [])) [] (refusal_13 16) ∷
    case (aiger (1 ∷ 0 ∷ 1 ∷ 1 ∷ 0 ∷ []) ((3 ∷ 2 ∷ []) ∷ (2 ∷ []) ∷ [])) [] (refusal_13 14) ∷
    -- a variable that no line defines, and a gate in a circle: only when all lines are read
    case (aiger (2 ∷ 0 ∷ 1 ∷ 1 ∷ 0 ∷ []) ((2 ∷ 5 ∷ []) ∷ (2 ∷ []) ∷ [])) [] (refusal_13 14) ∷
    case (aiger (2 ∷ 0 ∷ 1 ∷ 1 ∷ 0 ∷ []) ((2 ∷ 5 ∷ []) ∷ (2 ∷ []) ∷ []) ++ (120 ∷ 10 ∷ [])) [] (refusal_13 20) ∷
    case (aiger (3 ∷ 0 ∷ 1 ∷ 1 ∷ 2 ∷ []) ((2 ∷ 3 ∷ []) ∷ (2 ∷ []) ∷ (4 ∷ 6 ∷ 2 ∷ []) ∷ (6 ∷ 4 ∷ 2 ∷ []) ∷ [])) [] (refusal_13 20) ∷
    -- the lemma text: a latch number over L, a line that is not closed; the circuit's fault comes first
    case (aiger (1 ∷ 0 ∷ 1 ∷ 1 ∷ 0 ∷ []) toggles) (denies 1 ++ denies 2) (refusal_13 5) ∷
    case (aiger (1 ∷ 0 ∷ 1 ∷ 1 ∷ 0 ∷ []) toggles) (49 ∷ 10 ∷ []) (refusal_13 0) ∷
    case (aiger (2 ∷ 0 ∷ 1 ∷ 1 ∷ 0 ∷ []) ((2 ∷ 5 ∷ []) ∷ (2 ∷ []) ∷ [])) (49 ∷ 10 ∷ []) (refusal_13 14) ∷
    -- two outputs, no latch: 14, but only where both texts are right
    case (aiger (1 ∷ 0 ∷ 1 ∷ 2 ∷ 0 ∷ []) ((2 ∷ 3 ∷ []) ∷ (2 ∷ []) ∷ (3 ∷ []) ∷ [])) (denies 1) refusal_14 ∷
    case (aiger (0 ∷ 0 ∷ 0 ∷ 1 ∷ 0 ∷ []) ((1 ∷ []) ∷ [])) [] refusal_14 ∷
    case (aiger (1 ∷ 0 ∷ 1 ∷ 2 ∷ 0 ∷ []) ((2 ∷ 3 ∷ []) ∷ (2 ∷ []) ∷ (3 ∷ []) ∷ [])) (denies 2) (refusal_13 0) ∷
    -- edition 1.9: start values, a bad literal and constraints, one of them constant
    case guarded_text (denies 1) guarded_problem ∷
    -- the single output is bad where no bad literal stands; the numbers that are left out are 0
    case (aiger (1 ∷ 0 ∷ 1 ∷ 1 ∷ 0 ∷ 0 ∷ []) toggles) (denies 1) toggles_problem ∷
    -- a start value under a header of five numbers, and one that is another literal
    case (aiger (1 ∷ 0 ∷ 1 ∷ 1 ∷ 0 ∷ []) ((2 ∷ 3 ∷ 1 ∷ []) ∷ (2 ∷ []) ∷ [])) [] (refusal_13 14) ∷
    case (aiger (1 ∷ 0 ∷ 1 ∷ 1 ∷ 0 ∷ 0 ∷ []) ((2 ∷ 3 ∷ 3 ∷ []) ∷ (2 ∷ []) ∷ [])) [] (refusal_13 16) ∷
    -- two justice properties of one literal and of none, then a fairness literal: 15, after both texts' 13, and before 14
    case (aiger (1 ∷ 0 ∷ 1 ∷ 0 ∷ 0 ∷ 0 ∷ 0 ∷ 2 ∷ 1 ∷ []) ((2 ∷ 3 ∷ []) ∷ (1 ∷ []) ∷ (0 ∷ []) ∷ (2 ∷ []) ∷ (3 ∷ []) ∷ [])) (denies 1) refusal_15 ∷
    case (aiger (1 ∷ 0 ∷ 1 ∷ 0 ∷ 0 ∷ 0 ∷ 0 ∷ 2 ∷ 1 ∷ []) ((2 ∷ 3 ∷ []) ∷ (1 ∷ []) ∷ (0 ∷ []) ∷ (2 ∷ []) ∷ (4 ∷ []) ∷ [])) (denies 1) (refusal_13 32) ∷
    case (aiger (1 ∷ 0 ∷ 1 ∷ 0 ∷ 0 ∷ 0 ∷ 0 ∷ 2 ∷ 1 ∷ []) ((2 ∷ 3 ∷ []) ∷ (1 ∷ []) ∷ (0 ∷ []) ∷ (2 ∷ []) ∷ (3 ∷ []) ∷ [])) (denies 2) (refusal_13 0) ∷
    -- a bad literal beside an output, and two bad literals
    case (aiger (1 ∷ 0 ∷ 1 ∷ 1 ∷ 0 ∷ 1 ∷ []) ((2 ∷ 3 ∷ []) ∷ (2 ∷ []) ∷ (2 ∷ []) ∷ [])) (denies 1) refusal_14 ∷
    case (aiger (1 ∷ 0 ∷ 1 ∷ 0 ∷ 0 ∷ 2 ∷ []) ((2 ∷ 3 ∷ []) ∷ (2 ∷ []) ∷ (2 ∷ []) ∷ [])) (denies 1) refusal_14 ∷
    -- a symbol of the constraint, which is no comment, and one of a constraint that is not there
    case (guarded_text ++ (99 ∷ 48 ∷ 32 ∷ 120 ∷ 10 ∷ 98 ∷ 48 ∷ 32 ∷ 120 ∷ 10 ∷ [])) (denies 1) guarded_problem ∷
    case (guarded_text ++ (99 ∷ 51 ∷ 32 ∷ 120 ∷ 10 ∷ [])) (denies 1) (refusal_13 (length guarded_text)) ∷
    []

pub circuit_table_holds : map (λ (c : Case). read_circuit c.text c.lemma_text) circuit_table ≡ map (λ (c : Case). c.reading) circuit_table
unfolding shown row rows aiger denies small small_text small_gates small_problem case toggles toggles_problem guarded_text guarded_problem circuit_table read_circuit Circuits.on_circuit Circuits.on_lemmas Circuits.has_liveness Circuits.over_limits Circuits.clause_count CircuitText.read_circuit_text CircuitText.if_header CircuitText.after_header CircuitText.on_properties CircuitText.total CircuitText.used_of CircuitText.is_judged CircuitText.defined_in CircuitText.on_none CircuitText.on_lines CircuitText.uses_fault CircuitText.first_unknown CircuitText.or_else CircuitText.first_not CircuitText.gate_works CircuitText.worked_out CircuitText.given CircuitText.known CircuitText.circuit_of CircuitText.gate_of CircuitText.latch_of CircuitText.start_of CircuitText.at_number CircuitText.symbols_fault CircuitText.fault_unless CircuitText.unless_done CircuitText.begins_comment CircuitText.symbol_right CircuitText.symbol_of CircuitText.symbol_digits CircuitText.positions CircuitText.same_symbol CircuitText.section CircuitText.if_right CircuitText.line_and CircuitText.before_next CircuitText.line_right CircuitText.width_right CircuitText.start_right CircuitText.numbers_at CircuitText.literals_right CircuitText.defined_right CircuitText.used_right CircuitText.gate_form CircuitText.count_form CircuitText.used_form CircuitText.latch_form CircuitText.input_form CircuitText.header_right CircuitText.header_of CircuitText.number_in CircuitText.same_bytes Lines.of_numbers Lines.decimal Lines.decimal_on Lines.is_number Lines.is_digit Lines.is_empty Lines.words Lines.with_first Lines.next_line Lines.ended Lines.line_at Lines.until Built.built Built.one_clauses Built.start_clauses Built.start_clause Built.latches_clauses Built.next_clauses Built.gates_clauses Built.and_clauses Built.clause_if Built.opposite Built.edge Built.literal_if Built.number Built.helpers Built.n_of Built.position Built.among Circuit.variables Circuit.input_variables Circuit.gate_variables Circuit.latch_variables Circuit.bad_literal Circuit.negated Circuit.var LemmaText.read_lemma_text LemmaText.lemmas_from LemmaText.unless_end LemmaText.if_lemma LemmaText.lemma_and LemmaText.lemma_of LemmaText.latch_literal LemmaText.lemma_right LemmaText.is_zero LemmaText.latch_right LemmaText.unsigned LemmaText.has_minus Clauses.any Clauses.all Clauses.negation File.between Circuits.refusal_13 Circuits.refusal_14 Circuits.refusal_15
circuit_table_holds = refl

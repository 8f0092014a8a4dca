-- Refusals of small texts, worked out.
use Rattle.std.specs.Prelude.{ℕ, ◌≡◌, refl, List, [], ◌∷◌, ◌++◌}
use Rattle.meaning.specs.Clauses.{all}
use Rattle.meaning.specs.File.{between}
use Rattle.meaning.specs.Circuit.{var}
use Rattle.meaning.specs.Lines.{until, line_at, ended, next_line, with_first, words, is_empty, is_digit, is_number, decimal_on, decimal, of_numbers}
use Rattle.meaning.specs.CircuitText.{same_bytes, number_in, header_of, header_right, latch_form, start_right, numbers_at, used_right, positions, symbol_digits, symbol_of}
use Rattle.meaning.specs.LemmaText.{has_minus, unsigned, is_zero}
use Rattle.lines.specs.Numbers.{digits_of, capped}
use Rattle.symbols.specs.Symbols.{header_from, named_right}
use Rattle.circuit_text.specs.Header.{starts, header_test}
use Rattle.text.specs.Ascii.{ascii}
use Rattle.text.specs.Filled.{filled}
use Rattle.text.specs.Numbers as Digits
use Rattle.usage.specs.Texts.{shown_byte, shown}
use Rattle.text_faults.specs.Places.{count_of, line_number, after_line, skip, first_number}
use Rattle.text_faults.specs.Sizes.{first_sum, counts_at, sizes_of}
use Rattle.text_faults.specs.Kinds.{last_kind, property_kind, kind_of}
use Rattle.text_faults.specs.Definers.{past_properties, outputs_at, gates_at, places_of, definer, known_here, earlier}
use Rattle.text_faults.specs.Causes.{numbered, five_to_nine, header_cause, out, unknown_at, later_cause, uses_cause, twice_cause, after_ranges, range_cause, defined_cause, literals_cause, form_cause, count_cause}
use Rattle.text_faults.specs.Latches.{start_cause, third_cause, latch_numbers, latch_cause}
use Rattle.text_faults.specs.Circuits.{below_huge, counts_of, symbol_cause, line_cause, header_fault, circuit_fault, latches_of}
use Rattle.text_faults.specs.Lemmas.{last_cause, inner_cause, words_cause, lemma_cause}
use Rattle.text_faults.specs.Limits.{long_lemma, lemmas_limit, bads_limit, property_limit, width_limit, header_limit, limit_of}
use Rattle.text_faults.specs.Liveness.{liveness_of}
use Rattle.told_texts.specs.Limits.{limit_head, limit_line}
use Rattle.told_texts.specs.Liveness.{liveness_line}
use Rattle.told_texts.specs.Refusals.{place_text, line_shown, circuit_line, lemma_line}

-- one input, one latch, one output, one gate
abbrev with_lines : List ℕ → List ℕ
with_lines lines = ascii "aag 3 1 1 1 1\n2\n" ++ lines

circuits : (circuit_line (ascii "F") (ascii "aig 3 1 1 1 1\n") 0
    ∷ circuit_line (ascii "F") (with_lines (ascii "4 6 0\n6\n6 2 5\n")) 16
    ∷ circuit_line (ascii "F") (with_lines (ascii "4 6\n6\n")) 22
    ∷ circuit_line (ascii "F") (with_lines (ascii "4 6\n6\n4 2 5\n")) 22
    ∷ circuit_line (ascii "F") (with_lines (ascii "4 6\n6\n6 2 6\n")) 22
    ∷ [])
    ≡ (ascii "refusal 13 at byte 0, line 1 of the circuit F, the header: it does not start with aag and a space, as ASCII AIGER does: aag M I L O A (where yosys writes it: write_aiger -ascii)\n  aig 3 1 1 1 1\n"
    ∷ ascii "refusal 13 at byte 16, line 3 of the circuit F, a latch: a third number, its start value, under a header of five numbers: give the header a sixth, aag M I L O A 0, and the text is of AIGER 1.9, which has start values (or have yosys start every latch at 0: write_aiger -zinit)\n  4 6 0\n"
    ∷ ascii "refusal 13 at byte 22, line 5 of the circuit F, a gate: the text ends before this line\n"
    ∷ ascii "refusal 13 at byte 22, line 5 of the circuit F, a gate: line 3 defines this variable already\n  4 2 5\n"
    ∷ ascii "refusal 13 at byte 22, line 5 of the circuit F, a gate: it cannot be worked out from constants, inputs and latches: it goes in a circle, or needs a gate that is at fault\n  6 2 6\n"
    ∷ [])
unfolding circuit_line place_text line_shown filled Digits.decimal Digits.digits Digits.digit shown shown_byte
    circuit_fault header_fault line_cause form_cause count_cause symbol_cause below_huge counts_of
    numbered five_to_nine header_cause out unknown_at later_cause uses_cause twice_cause after_ranges range_cause defined_cause literals_cause
    start_cause third_cause latch_numbers latch_cause latch_form start_right
    first_number first_sum counts_at sizes_of past_properties outputs_at gates_at places_of definer known_here earlier
    last_kind property_kind kind_of count_of line_number after_line skip
    starts header_test digits_of capped header_from named_right
    same_bytes number_in header_of header_right numbers_at used_right positions symbol_digits symbol_of
    until line_at ended next_line with_first words is_empty is_digit is_number decimal_on decimal of_numbers all between var
circuits = refl

-- edition 1.9: one input, latch, gate, bad literal, constraint, justice property and fairness literal each
abbrev with_newer : List ℕ → List ℕ
with_newer lines = ascii "aag 3 1 1 0 1 1 1 1 1\n2\n" ++ lines

newer : (circuit_line (ascii "F") (with_newer (ascii "4 6 3\n6\n2\n1\n2\n2\n6 2 5\n")) 24
    ∷ circuit_line (ascii "F") (with_newer (ascii "4 6 4\n6\n9\n1\n2\n2\n6 2 5\n")) 32
    ∷ circuit_line (ascii "F") (with_newer (ascii "4 6 1\n6\n2\n2\n2\n")) 38
    ∷ circuit_line (ascii "F") (with_newer (ascii "4 6\n6\n2\n1\n2\n2\n6 2 5\nb1 x\n")) 44
    ∷ [])
    ≡ (ascii "refusal 13 at byte 24, line 3 of the circuit F, a latch: the third number, its start value, is not 0, 1 or the literal of the latch itself (0 and 1: it starts at that value; its own literal: at either)\n  4 6 3\n"
    ∷ ascii "refusal 13 at byte 32, line 5 of the circuit F, a constraint: number 1 is over 2M+1, the largest literal by the header\n  9\n"
    ∷ ascii "refusal 13 at byte 38, line 8 of the circuit F, a literal of a justice property: the text ends before this line\n"
    ∷ ascii "refusal 13 at byte 44, line 10 of the circuit F, after the gates: there is no such position: positions are counted from 0, and a letter has as many as the header says (i I, l L, o O, b B, c C, j J, f F), none where it leaves that number out\n  b1 x\n"
    ∷ [])
unfolding circuit_line place_text line_shown filled Digits.decimal Digits.digits Digits.digit shown shown_byte
    circuit_fault header_fault line_cause form_cause count_cause symbol_cause below_huge counts_of
    numbered five_to_nine header_cause out unknown_at later_cause uses_cause twice_cause after_ranges range_cause defined_cause literals_cause
    start_cause third_cause latch_numbers latch_cause latch_form start_right
    first_number first_sum counts_at sizes_of past_properties outputs_at gates_at places_of definer known_here earlier
    last_kind property_kind kind_of count_of line_number after_line skip
    starts header_test digits_of capped header_from named_right
    same_bytes number_in header_of header_right numbers_at used_right positions symbol_digits symbol_of
    until line_at ended next_line with_first words is_empty is_digit is_number decimal_on decimal of_numbers all between var
newer = refl

lemmas : (lemma_line (ascii "L") (ascii "aag 1 0 1 1 0\n") (ascii "1 0\n1 -2 0\n") 4
    ∷ lemma_line (ascii "L") (ascii "aag 1 0 1 1 0\n") (ascii "-1 1\n") 0
    ∷ [])
    ≡ (ascii "refusal 13 at byte 4, line 2 of the lemmas L: number 2 names no latch: by its header the circuit has 1 of them\n  1 -2 0\n"
    ∷ ascii "refusal 13 at byte 0, line 1 of the lemmas L: the line does not end with a 0 without a sign\n  -1 1\n"
    ∷ [])
unfolding lemma_line place_text line_shown filled Digits.decimal Digits.digits Digits.digit shown shown_byte
    latches_of below_huge lemma_cause words_cause inner_cause last_cause has_minus unsigned is_zero count_of line_number
    header_test capped same_bytes number_in header_of header_right
    until line_at ended with_first words is_empty is_digit is_number decimal_on decimal of_numbers all between
lemmas = refl

limits : (limit_line (ascii "F") (ascii "L") (limit_of (ascii "aag 0 0 0 1 0\n0\n") [])
    ∷ limit_line (ascii "F") (ascii "L") (limit_of (ascii "aag 1 0 1 0 0\n2 2\n") [])
    ∷ limit_line (ascii "F") (ascii "L") (limit_of (ascii "aag 1 0 1 2 0\n2 2\n0\n0\n") [])
    ∷ limit_line (ascii "F") (ascii "L") (limit_of (ascii "aag 1 0 1 0 0 2\n2 2\n0\n0\n") [])
    ∷ limit_line (ascii "F") (ascii "L") (limit_of (ascii "aag 1 0 1 1 0 1\n2 2\n0\n0\n") [])
    ∷ [])
    ≡ (ascii "refusal 14: the circuit F: no latch, so it has no state\n"
    ∷ ascii "refusal 14: the circuit F: no bad literal and no output, so nothing says which states are bad: write an assert, or give the top module one output port that is 1 in a bad state\n"
    ∷ ascii "refusal 14: the circuit F: outputs: 2, but one is wanted, which is 1 in a bad state: keep that output port alone in the top module\n"
    ∷ ascii "refusal 14: the circuit F: bad literals: 2, but one is wanted: join the asserts into one, assert (a && b)\n"
    ∷ ascii "refusal 14: the circuit F: outputs: 1, bad literals: 1, but one literal in all is wanted: keep one assert and no output port of the top module, or one output port and no assert\n"
    ∷ [])
unfolding limit_line limit_head filled Digits.decimal Digits.digits Digits.digit shown shown_byte
    limit_of header_limit width_limit property_limit bads_limit lemmas_limit long_lemma
    header_test capped same_bytes number_in header_of header_right
    until line_at ended with_first words is_empty is_digit is_number decimal_on decimal all between
limits = refl

liveness : liveness_line (ascii "F") (liveness_of (ascii "aag 1 0 1 1 0 0 0 1\n2 2\n0\n1\n0\n"))
    ≡ ascii "refusal 15: the circuit F: justice properties: 1, fairness constraints: 0, but liveness is not read: take s_eventually and all other liveness properties out of the design\n"
unfolding liveness_line liveness_of filled Digits.decimal Digits.digits Digits.digit shown shown_byte
    header_test capped same_bytes number_in header_of header_right
    until line_at ended with_first words is_empty is_digit is_number decimal_on decimal all between
liveness = refl

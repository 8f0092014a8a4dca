-- Refusals in plain words: of 13 the text, the line and its place, what is wrong with it, and the line itself.
use Rattle.std.specs.Prelude.{ℕ, Bool, cond, List, [], ◌++◌, length, leb, eqb}
use Rattle.meaning.specs.Lines.{line_at}
use Rattle.text.specs.Ascii.{ascii}
use Rattle.text.specs.Filled.{filled}
use Rattle.usage.specs.Texts.{shown}
use Rattle.text_faults.specs.declared.circuit.Fault.{Fault}
use Rattle.text_faults.specs.Places.{line_number}
use Rattle.text_faults.specs.Circuits.{circuit_fault, latches_of}
use Rattle.text_faults.specs.Lemmas.{lemma_cause}
use Rattle.text_faults.specs.Limits.{limit_of}
use Rattle.text_faults.specs.Liveness.{liveness_of}
use Rattle.told_texts.specs.Causes.{kind_text, cause_text, lemma_cause_text}
use Rattle.told_texts.specs.Limits.{limit_line}
use Rattle.told_texts.specs.Liveness.{liveness_line}

-- the place, and the text by its name
unfoldable pub place_text : List ℕ → ℕ → List ℕ → List ℕ → List ℕ
place_text text place what name = filled (ascii "refusal 13 at byte #, line # of the ") place (line_number text place) 0 ++ (what ++ shown name)

-- the line, where there is one: its first 200 bytes, indented
unfoldable pub line_shown : List ℕ → ℕ → List ℕ
line_shown text place = cond (leb (length text) place) [] (ascii "  " ++ (shown (line_at text place) ++ ascii "\n"))

-- a circuit whose line at a place is at fault
abbrev pub fault_text : List ℕ → Fault → List ℕ → List ℕ
fault_text text f after = kind_text f.kind ++ (cause_text text f.cause ++ after)

unfoldable pub circuit_line : List ℕ → List ℕ → ℕ → List ℕ
circuit_line name text place =
    place_text text place (ascii "circuit ") name ++ fault_text text (circuit_fault text place) (line_shown text place)

-- a lemma text, of a circuit, whose line at a place is at fault
abbrev pub lemma_text : ℕ → List ℕ → ℕ → List ℕ → List ℕ
lemma_text latches text place after = lemma_cause_text latches (lemma_cause latches text place) ++ after

unfoldable pub lemma_line : List ℕ → List ℕ → List ℕ → ℕ → List ℕ
lemma_line name circuit text place =
    place_text text place (ascii "lemmas ") name ++ (ascii ": " ++ lemma_text (latches_of circuit) text place (line_shown text place))

-- a refusal of two texts, by its number and place: 13 of the circuit if it is the first that is at fault, 13 of the lemmas, 15, or 14
unfoldable pub text_refusal : List ℕ → List ℕ → List ℕ → List ℕ → ℕ → ℕ → Bool → List ℕ
text_refusal name circuit other lemmas number place first =
    cond (eqb number 15) (liveness_line name (liveness_of circuit))
    (cond (eqb number 13) (cond first (circuit_line name circuit place) (lemma_line other circuit lemmas place))
    (limit_line name other (limit_of circuit lemmas)))

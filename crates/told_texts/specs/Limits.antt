-- Which limit two texts are over, in plain words.
use Rattle.std.specs.Prelude.{ℕ, Bool, true, false, cond, List, ◌++◌, Option, None, Some}
use Rattle.text.specs.Ascii.{ascii}
use Rattle.text.specs.Filled.{filled}
use Rattle.usage.specs.Texts.{shown}
use Rattle.text_faults.specs.declared.limits.Limit.{Limit}
use Rattle.text_faults.specs.declared.limits.Limit.TheVariants.{LongCircuit, LongLemmas, NoLatch, Latches, Width, NoBad, Outputs, Bads, Both, Lemmas, LongLemma, Clauses}

-- a limit of the lemma text
abbrev pub of_lemmas : Option Limit → Bool
of_lemmas (Some LongCircuit) = false
of_lemmas (Some LongLemmas) = true
of_lemmas (Some NoLatch) = false
of_lemmas (Some (Latches met)) = false
of_lemmas (Some (Width inputs gates)) = false
of_lemmas (Some NoBad) = false
of_lemmas (Some (Outputs met)) = false
of_lemmas (Some (Bads met)) = false
of_lemmas (Some (Both outputs bads)) = false
of_lemmas (Some (Lemmas met)) = true
of_lemmas (Some (LongLemma line met)) = true
of_lemmas (Some Clauses) = false
of_lemmas None = false

-- which text
unfoldable pub limit_head : Bool → List ℕ → List ℕ → List ℕ
limit_head lemmas circuit_name lemmas_name =
    cond lemmas (ascii "refusal 14: the lemmas " ++ shown lemmas_name) (ascii "refusal 14: the circuit " ++ shown circuit_name)

-- what is over the limit
abbrev pub limit_text : Option Limit → List ℕ
limit_text (Some LongCircuit) = ascii ": more than 65536 bytes\n"
limit_text (Some LongLemmas) = ascii ": more than 65536 bytes\n"
limit_text (Some NoLatch) = ascii ": no latch, so it has no state\n"
limit_text (Some (Latches met)) = filled (ascii ": latches: #, but 96 are the most\n") met 0 0
limit_text (Some (Width inputs gates)) = filled (ascii ": inputs: #, gates: #, but 320 of both together are the most\n") inputs gates 0
limit_text (Some NoBad) =
    ascii ": no bad literal and no output, so nothing says which states are bad: write an assert, or give the top module one output port that is 1 in a bad state\n"
limit_text (Some (Outputs met)) =
    filled (ascii ": outputs: #, but one is wanted, which is 1 in a bad state: keep that output port alone in the top module\n") met 0 0
limit_text (Some (Bads met)) = filled (ascii ": bad literals: #, but one is wanted: join the asserts into one, assert (a && b)\n") met 0 0
limit_text (Some (Both outputs bads)) =
    filled (ascii ": outputs: #, bad literals: #, but one literal in all is wanted: keep one assert and no output port of the top module, or one output port and no assert\n") outputs bads 0
limit_text (Some (Lemmas met)) = filled (ascii ": lines: #, but 128 lemmas are the most\n") met 0 0
limit_text (Some (LongLemma line met)) = filled (ascii ": literals on line #: #, but 64 are the most\n") line met 0
limit_text (Some Clauses) =
    ascii ": more than 4096 clauses in Init, Tr, Bad and the lemmas together: each constraint (assume) adds one to Tr and one to Bad, each gate up to three to both; have fewer of them\n"
limit_text None = ascii ": no limit that this program knows\n"

unfoldable pub limit_line : List ℕ → List ℕ → Option Limit → List ℕ
limit_line circuit_name lemmas_name limit = limit_head (of_lemmas limit) circuit_name lemmas_name ++ limit_text limit

-- Which limit two texts are over, with the number that was met: the list of `over-limits`, by the counts of the header and the lines of the
-- lemmas. The clauses, the last of the list, are not counted: they are told where no other limit is passed (`limit-so` says that it is so).
use Rattle.std.specs.Prelude.{ℕ, zero, suc, ◌+◌, cond, List, length, ltb, eqb, Option, None, Some}
use Rattle.meaning.specs.File.{file_most, n_most, m_most, lemmas_most}
use Rattle.meaning.specs.Lines.{newline, space, line_at}
use Rattle.meaning.specs.CircuitText.{Header, header_of}
use Rattle.meaning.specs.Circuits.{literals_most}
use Rattle.lines.specs.Numbers.{capped}
use Rattle.circuit_text.specs.Header.{header_test}
use Rattle.text_faults.specs.declared.limits.Limit.{Limit}
use Rattle.text_faults.specs.declared.limits.Limit.TheVariants.{LongCircuit, LongLemmas, NoLatch, Latches, Width, NoBad, Outputs, Bads, Both, Lemmas, LongLemma, Clauses}
use Rattle.text_faults.specs.Places.{count_of, line_number, after_line}

-- the first line from a place on of more than 64 literals: a lemma has a space after each; where there is none, the clauses are what is left
unfoldable pub long_lemma : ℕ → List ℕ → ℕ → Limit
long_lemma zero text at = Clauses
long_lemma (suc most) text at =
    cond (ltb at (length text))
    (cond (ltb literals_most (count_of space (line_at text at))) (LongLemma (line_number text at) (count_of space (line_at text at)))
    (long_lemma most text (after_line text at)))
    Clauses

-- a line for each lemma
unfoldable pub lemmas_limit : List ℕ → Limit
lemmas_limit lemmas =
    cond (ltb lemmas_most (count_of newline lemmas)) (Lemmas (count_of newline lemmas)) (long_lemma (length lemmas) lemmas 0)

-- one bad literal or one output
unfoldable pub bads_limit : ℕ → List ℕ → Limit
bads_limit bads lemmas = cond (eqb bads 0) NoBad (cond (eqb bads 1) (lemmas_limit lemmas) (Bads bads))

unfoldable pub property_limit : ℕ → ℕ → List ℕ → Limit
property_limit outputs bads lemmas =
    cond (eqb outputs 0) (bads_limit bads lemmas)
    (cond (eqb bads 0) (cond (eqb outputs 1) (lemmas_limit lemmas) (Outputs outputs)) (Both outputs bads))

unfoldable pub width_limit : Header → List ℕ → Limit
width_limit h lemmas =
    cond (ltb m_most (capped h.i + capped h.a)) (Width (capped h.i) (capped h.a))
    (property_limit (capped h.o) (capped h.b) lemmas)

unfoldable pub header_limit : Header → List ℕ → Limit
header_limit h lemmas =
    cond (eqb (capped h.l) 0) NoLatch (cond (ltb n_most (capped h.l)) (Latches (capped h.l)) (width_limit h lemmas))

unfoldable pub limit_of : List ℕ → List ℕ → Option Limit
limit_of text lemmas =
    cond (ltb file_most (length text)) (Some LongCircuit)
    (cond (ltb file_most (length lemmas)) (Some LongLemmas)
    (cond (header_test text) (Some (header_limit (header_of (line_at text 0)) lemmas)) None))

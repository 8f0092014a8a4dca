-- Circuits as every job reads them: two texts in place of a problem file. 13 of the circuit, 13 of the lemmas, 15, 14, then 9 and the rest.
use Rattle.std.specs.Prelude.{ℕ, ◌+◌, Bool, not, ◌||◌, cond, List, ◌++◌, length, drop, ltb, eqb}
use Rattle.meaning.specs.Clauses.{Clause, any}
use Rattle.meaning.specs.Meaning.{Problem, k}
use Rattle.meaning.specs.File.{Reading, accepted, rejected, file_most, n_most, m_most, clauses_most, lemmas_most}
use Rattle.meaning.specs.Calls.{Outcome, refusal, on_reading, checked, largest_job, one_job, list_job}
use Rattle.meaning.specs.Filed.{file_of}
use Rattle.meaning.specs.Circuit.{Circuit}
use Rattle.meaning.specs.Built.{built}
use Rattle.meaning.specs.CircuitText
use Rattle.meaning.specs.CircuitText.{Text, read_circuit_text}
use Rattle.meaning.specs.LemmaText
use Rattle.meaning.specs.LemmaText.{Lemmas, read_lemma_text}

-- a candidate line without its 0 counts as a body of two bytes a literal, 128 at most
abbrev pub literals_most : ℕ
literals_most = 64

-- the clauses of a problem, lemmas included
unfoldable pub clause_count : Problem → ℕ
clause_count p = length p.init + length p.tr + length p.bad + length p.lemmas

-- 14: a text over 65,536 bytes; no latch, or more than 96; I + A over 320; other than one literal in outputs and bad literals together; over 128
-- lemmas; a lemma of more than 64 literals; over 4,096 clauses, counted as they are built
unfoldable pub over_limits : List ℕ → List ℕ → Circuit → List Clause → Bool
over_limits text lemma_text c lemmas =
    ltb file_most (length text) || ltb file_most (length lemma_text) || eqb (length c.latches) 0 || ltb n_most (length c.latches)
    || ltb m_most (length c.inputs + length c.gates) || not (eqb (length c.outputs + length c.bads) 1)
    || ltb lemmas_most (length lemmas) || any (λ (d : Clause). ltb literals_most (length d)) lemmas
    || ltb clauses_most (clause_count (built c lemmas))

-- 15: justice or fairness
unfoldable pub has_liveness : Circuit → Bool
has_liveness c = ltb 0 c.justice || ltb 0 c.fairness

unfoldable pub refusal_13 : ℕ → Reading
refusal_13 at = rejected (record { number = 13; place = at })

unfoldable pub refusal_14 : Reading
refusal_14 = rejected (record { number = 14; place = 0 })

unfoldable pub refusal_15 : Reading
refusal_15 = rejected (record { number = 15; place = 0 })

unfoldable pub on_lemmas : List ℕ → List ℕ → Circuit → Lemmas → Reading
on_lemmas text lemma_text c (LemmaText.wrong at) = refusal_13 at
on_lemmas text lemma_text c (LemmaText.right lemmas) =
    cond (has_liveness c) refusal_15 (cond (over_limits text lemma_text c lemmas) refusal_14 (accepted (built c lemmas)))

unfoldable pub on_circuit : List ℕ → List ℕ → Text → Reading
on_circuit text lemma_text (CircuitText.wrong at) = refusal_13 at
on_circuit text lemma_text (CircuitText.right c) = on_lemmas text lemma_text c (read_lemma_text (length c.latches) lemma_text)

-- what the two texts are read as: an accepted problem, or a refusal
unfoldable pub read_circuit : List ℕ → List ℕ → Reading
read_circuit text lemma_text = on_circuit text lemma_text (read_circuit_text text)

-- A program on circuits takes a circuit text, a lemma text, a budget and lent bytes.
abbrev pub CircuitProgram : Type 0
CircuitProgram = List ℕ → List ℕ → ℕ → List ℕ → Outcome

-- The problem file itself, written into the first of the lent bytes: its length in the place of rows, and n, m and k as a check gives them;
-- 12 where it does not fit.
unfoldable pub problem_job : Problem → List ℕ → Outcome
problem_job p lent =
    cond (ltb (length lent) (length (file_of p))) (refusal 12 0 0 0 lent)
    (record {
      report =
          record { number = 0; place = 0; decisions = 0; rows = length (file_of p); n = p.n; m = p.m; k = k p };
      lent = file_of p ++ drop (length (file_of p)) lent;
    })

-- The four calls, as programs
unfoldable pub circuit_check_call : CircuitProgram
circuit_check_call text lemma_text budget lent = on_reading (read_circuit text lemma_text) checked lent

unfoldable pub circuit_largest_call : CircuitProgram
circuit_largest_call text lemma_text budget lent = on_reading (read_circuit text lemma_text) (largest_job budget) lent

unfoldable pub circuit_one_call : CircuitProgram
circuit_one_call text lemma_text budget lent = on_reading (read_circuit text lemma_text) (one_job budget) lent

unfoldable pub circuit_list_call : CircuitProgram
circuit_list_call text lemma_text budget lent = on_reading (read_circuit text lemma_text) (list_job budget) lent

-- and the call that writes the problem file
unfoldable pub circuit_problem_call : CircuitProgram
circuit_problem_call text lemma_text budget lent = on_reading (read_circuit text lemma_text) problem_job lent

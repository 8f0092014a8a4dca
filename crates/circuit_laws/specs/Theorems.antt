-- What the reading of a circuit carries over, and what an answered call for one set proves of the circuit itself: no run of it reaches a bad
-- state.
use Rattle.std.specs.Prelude.{ℕ, ◌≡◌, ◌↔◌, ◌⊎◌, List}
use Rattle.std.proofs.Common.{sym, subst, inl, inr}
use Rattle.meaning.specs.Meaning.{Problem, k, State, InitState, BadState, Step, Run}
use Rattle.meaning.specs.File.{Reading, accepted}
use Rattle.meaning.specs.Rules.{asked, one}
use Rattle.meaning.specs.Calls.{Outcome, on_reading, refusal, one_job}
use Rattle.meaning.specs.Demands.{In, Answered, NoRunIsBad}
use Rattle.meaning.specs.Circuit.{Circuit, StartState, NextState, CircuitRun, CanBeBad}
use Rattle.meaning.specs.CircuitText
use Rattle.meaning.specs.CircuitText.{read_circuit_text}
use Rattle.meaning.specs.Circuits.{read_circuit, CircuitProgram, circuit_one_call}
use Rattle.laws.specs.Paper.{one_minimal}
use Rattle.laws.specs.Runs.{no_run_is_bad}
use Rattle.laws.specs.DemandsHold.{marking_answered}
use Rattle.circuit_laws.specs.Sane.{Sane}
use Rattle.circuit_laws.specs.Known.{bad_is_known}
use Rattle.circuit_laws.specs.Same.{same_start, same_step, same_bad, same_runs}
use Rattle.circuit_laws.specs.AcceptedTexts.{Refused, Accepted, reading_cases, accepted_texts, accepted_limits, accepted_sane, accepted_fits}

-- ---- what is carried over

-- a problem means the circuit of a text: it starts, steps, runs and is bad as the circuit
pub record Carries (text : List ℕ) (p : Problem) : Type 0 where
  pub circuit : Circuit
  pub reads : read_circuit_text text ≡ CircuitText.right circuit
  pub sane : Sane circuit
  pub start : (s : State) → StartState circuit s ↔ InitState p s
  pub step : (s t : State) → NextState circuit s t ↔ Step p s t
  pub runs : (ss : List State) → CircuitRun circuit ss ↔ Run p ss
  pub bad : (s : State) → CanBeBad circuit s ↔ BadState p s

-- every problem that two texts are accepted as carries the circuit
pub carries : (text lemma_text : List ℕ) (p : Problem) → read_circuit text lemma_text ≡ accepted p → Carries text p
carries text lemma_text p e =
    let t = accepted_texts text lemma_text p e in
    let c = t.circuit in
    let sane = accepted_sane text lemma_text p e in
    let bad_known = bad_is_known c sane (accepted_limits text lemma_text p e).one_bad in
    subst (Carries text) (sym t.is_built)
    (record {
      circuit = c;
      reads = t.circuit_read;
      sane = sane;
      start = same_start c sane t.lemmas;
      step = same_step c sane t.lemmas;
      runs = same_runs c sane t.lemmas;
      bad = same_bad c sane t.lemmas bad_known;
    })

-- ---- what an answered call proves

-- the circuit of a text is safe: no run reaches a state where for some inputs the bad literal and all constraints are 1 together
abbrev pub NeverBad : List ℕ → Type 0
NeverBad text =
    (c : Circuit) × (read_circuit_text text ≡ CircuitText.right c)
    × ((ss : List State) → CircuitRun c ss → (s : State) → In s ss → CanBeBad c s → ⊥)

carried_over : (text : List ℕ) (p : Problem) → Carries text p → NoRunIsBad p → NeverBad text
carried_over text p carried safe =
    (carried.circuit, carried.reads, λ ss run s i bad. safe ss ((carried.runs ss).0 run) s i ((carried.bad s).0 bad))

-- a call that is answered was on an accepted problem
answered_accepted : (text lemma_text : List ℕ) (job : Problem → List ℕ → Outcome) (lent : List ℕ)
    → Answered (on_reading (read_circuit text lemma_text) job lent)
    → (p : Problem) × (read_circuit text lemma_text ≡ accepted p) × Answered (job p lent)
unfolding on_reading refusal
answered_accepted text lemma_text job lent h = go (reading_cases text lemma_text)
  where
    go : Refused text lemma_text ⊎ Accepted text lemma_text
        → (p : Problem) × (read_circuit text lemma_text ≡ accepted p) × Answered (job p lent)
    go (inl (r, refused, number)) =
        absurd (number (subst (λ (a : Reading). Answered (on_reading a job lent)) refused h))
    go (inr (p, is, t)) = (p, is, subst (λ (a : Reading). Answered (on_reading a job lent)) is h)

-- Of any program that keeps the promise of the call for one set: if it is answered, no run of the circuit reaches a bad state.
pub answered_never_bad : (P : CircuitProgram)
    → ((text lemma_text : List ℕ) (budget : ℕ) (lent : List ℕ)
    → P text lemma_text budget lent ≡ circuit_one_call text lemma_text budget lent)
    → (text lemma_text : List ℕ) (budget : ℕ) (lent : List ℕ) → Answered (P text lemma_text budget lent) → NeverBad text
unfolding circuit_one_call one_job
answered_never_bad P fixed text lemma_text budget lent h =
    let (p, reads, answered) =
    answered_accepted text lemma_text (one_job budget) lent (subst Answered (fixed text lemma_text budget lent) h) in
    let found = one (asked p) (k p) in
    let (S, is, left) = marking_answered (k p) budget found.found found.count lent answered in
    let least = one_minimal p (accepted_fits text lemma_text p reads).0.named S is in
    carried_over text p (carries text lemma_text p reads) (no_run_is_bad p S least.1)

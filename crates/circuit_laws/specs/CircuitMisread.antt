-- Programs that misread circuits, each refuted by demand 2: one that leaves the gates out of Bad, one that leaves the constraints out of Tr, one
-- that leaves them out of Bad, one that reads 'starts at itself' as 0; and by demand 1: one that answers 14 before 13.
use Rattle.std.specs.Prelude.{ℕ, ◌≡◌, refl, true, cond, List, [], ◌∷◌, ◌++◌, map, length, eqb}
use Rattle.std.proofs.Common.{arith, sym, subst, ◌∙◌, inl}
use Rattle.std.proofs.Math.Path.{ap}
use Rattle.meaning.specs.Clauses
use Rattle.meaning.specs.Clauses.{neg, Values}
use Rattle.meaning.specs.Meaning
use Rattle.meaning.specs.Meaning.{Problem, k, State}
use Rattle.meaning.specs.File
use Rattle.meaning.specs.File.{Reading, accepted}
use Rattle.meaning.specs.Search
use Rattle.meaning.specs.Rules
use Rattle.meaning.specs.Calls
use Rattle.meaning.specs.Calls.{Outcome, refusal, answered, on_reading, checked, one_job}
use Rattle.meaning.specs.Demands.{Answered, one_count}
use Rattle.meaning.specs.Circuit
use Rattle.meaning.specs.Circuit.{Circuit, Latch, Start, at_0, at_1, at_either, bad_literal, CircuitRun, CanBeBad}
use Rattle.meaning.specs.Built
use Rattle.meaning.specs.Built.{gates_clauses, latches_clauses, start_clauses, one_clauses, built}
use Rattle.meaning.specs.Lines
use Rattle.meaning.specs.CircuitText
use Rattle.meaning.specs.CircuitText.{Text, read_circuit_text}
use Rattle.meaning.specs.LemmaText
use Rattle.meaning.specs.LemmaText.{read_lemma_text}
use Rattle.meaning.specs.Circuits
use Rattle.meaning.specs.Circuits.{over_limits, refusal_13, refusal_14, on_lemmas, read_circuit, CircuitProgram, circuit_check_call, circuit_largest_call, circuit_one_call, circuit_list_call}
use Rattle.laws.specs.Basics.{nonzero}
use Rattle.laws.specs.Useless.{answered_by}
use Rattle.circuit_laws.specs.CircuitDemands.{CircuitTrimmer, the_circuit_trimmer, CircuitDemand1, CircuitDemand2, circuit_demand_2}

-- ---- what they are tried on

-- aag 2 0 1 1 1, then 2 2, then 4, then 4 2 2: a latch that keeps its value, and a gate of it
abbrev gate_text : List ℕ
gate_text =
    97 ∷ 97 ∷ 103 ∷ 32 ∷ 50 ∷ 32 ∷ 48 ∷ 32 ∷ 49 ∷ 32 ∷ 49 ∷ 32 ∷ 49 ∷ 10 ∷ 50 ∷ 32 ∷ 50 ∷ 10 ∷ 52 ∷ 10 ∷ 52 ∷ 32 ∷ 50 ∷ 32 ∷ 50 ∷ 10 ∷ []

abbrev gate_circuit : Circuit
gate_circuit =
    record {
      inputs = [];
      latches = record { lit = 2; next = 2; start = at_0 } ∷ [];
      outputs = 4 ∷ [];
      bads = [];
      constraints = [];
      justice = 0;
      fairness = 0;
      gates = record { lit = 4; left = 2; right = 2 } ∷ [];
    }

-- aag 3 1 1 0 1 1 1, then 2, 4 2, 7, 3, 6 3 5: a latch that takes the input's value, bad where one of the two is 1, and an input that is never 1
abbrev guarded_text : List ℕ
guarded_text =
    97 ∷ 97 ∷ 103 ∷ 32 ∷ 51 ∷ 32 ∷ 49 ∷ 32 ∷ 49 ∷ 32 ∷ 48 ∷ 32 ∷ 49 ∷ 32 ∷ 49 ∷ 32 ∷ 49 ∷ 10 ∷ 50 ∷ 10 ∷
    52 ∷ 32 ∷ 50 ∷ 10 ∷ 55 ∷ 10 ∷ 51 ∷ 10 ∷ 54 ∷ 32 ∷ 51 ∷ 32 ∷ 53 ∷ 10 ∷ []

abbrev guarded_circuit : Circuit
guarded_circuit =
    record {
      inputs = 2 ∷ [];
      latches = record { lit = 4; next = 2; start = at_0 } ∷ [];
      outputs = [];
      bads = 7 ∷ [];
      constraints = 3 ∷ [];
      justice = 0;
      fairness = 0;
      gates = record { lit = 6; left = 3; right = 5 } ∷ [];
    }

-- aag 1 0 1 0 0 1, then 2 2 2, then 2: a latch that starts at either value and keeps it, bad at 1
abbrev either_text : List ℕ
either_text = 97 ∷ 97 ∷ 103 ∷ 32 ∷ 49 ∷ 32 ∷ 48 ∷ 32 ∷ 49 ∷ 32 ∷ 48 ∷ 32 ∷ 48 ∷ 32 ∷ 49 ∷ 10 ∷ 50 ∷ 32 ∷ 50 ∷ 32 ∷ 50 ∷ 10 ∷ 50 ∷ 10 ∷ []

abbrev either_circuit : Circuit
either_circuit =
    record {
      inputs = [];
      latches = record { lit = 2; next = 2; start = at_either } ∷ [];
      outputs = [];
      bads = 2 ∷ [];
      constraints = [];
      justice = 0;
      fairness = 0;
      gates = [];
    }

-- -1 0
abbrev one_lemma : List ℕ
one_lemma = 45 ∷ 49 ∷ 32 ∷ 48 ∷ 10 ∷ []

-- what a circuit and that lemma are accepted as
unfoldable of_lemma : Circuit → Problem
of_lemma c = built c ((neg 1 ∷ []) ∷ [])

-- a text is read as a circuit, and with the lemma accepted
abbrev ReadsAs : List ℕ → Circuit → Type 0
ReadsAs text c = (read_circuit_text text ≡ CircuitText.right c) × (read_circuit text one_lemma ≡ accepted (of_lemma c))

texts_read : ReadsAs gate_text gate_circuit × ReadsAs guarded_text guarded_circuit × ReadsAs either_text either_circuit
unfolding of_lemma read_circuit Circuits.on_circuit Circuits.on_lemmas Circuits.has_liveness Circuits.over_limits Circuits.clause_count CircuitText.read_circuit_text CircuitText.if_header CircuitText.after_header CircuitText.on_properties CircuitText.total CircuitText.used_of CircuitText.is_judged CircuitText.defined_in CircuitText.on_none CircuitText.on_lines CircuitText.uses_fault CircuitText.first_unknown CircuitText.or_else CircuitText.first_not CircuitText.gate_works CircuitText.worked_out CircuitText.given CircuitText.known CircuitText.circuit_of CircuitText.gate_of CircuitText.latch_of CircuitText.start_of CircuitText.at_number CircuitText.symbols_fault CircuitText.fault_unless CircuitText.unless_done CircuitText.section CircuitText.if_right CircuitText.line_and CircuitText.before_next CircuitText.line_right CircuitText.width_right CircuitText.start_right CircuitText.numbers_at CircuitText.literals_right CircuitText.defined_right CircuitText.used_right CircuitText.gate_form CircuitText.count_form CircuitText.used_form CircuitText.latch_form CircuitText.input_form CircuitText.header_right CircuitText.header_of CircuitText.number_in CircuitText.same_bytes Lines.of_numbers Lines.decimal Lines.decimal_on Lines.is_number Lines.is_digit Lines.is_empty Lines.words Lines.with_first Lines.next_line Lines.ended Lines.line_at Lines.until Built.built Built.one_clauses Built.start_clauses Built.start_clause Built.latches_clauses Built.next_clauses Built.gates_clauses Built.and_clauses Built.clause_if Built.opposite Built.edge Built.literal_if Built.number Built.helpers Built.n_of Built.position Built.among Circuit.variables Circuit.input_variables Circuit.gate_variables Circuit.latch_variables Circuit.bad_literal Circuit.negated Circuit.var LemmaText.read_lemma_text LemmaText.lemmas_from LemmaText.unless_end LemmaText.if_lemma LemmaText.lemma_and LemmaText.lemma_of LemmaText.latch_literal LemmaText.lemma_right LemmaText.is_zero LemmaText.latch_right LemmaText.unsigned LemmaText.has_minus Clauses.any Clauses.all Clauses.negation File.between Circuits.refusal_14
texts_read = ((refl, refl), (refl, refl), (refl, refl))

-- ---- programs that make another problem of the circuit

unfoldable pub remade : (Circuit → Problem → Problem) → Text → Problem → Problem
remade other (CircuitText.wrong at) p = p
remade other (CircuitText.right c) p = other c p

-- the call for one set, of that problem
unfoldable pub one_of : (Circuit → Problem → Problem) → CircuitProgram
one_of other text lemma_text budget lent =
    on_reading (read_circuit text lemma_text) (λ p left. one_job budget (remade other (read_circuit_text text) p) left) lent

-- Bad without the gates
unfoldable pub gateless : Circuit → Problem → Problem
gateless c p =
    record {
      n = p.n;
      m = p.m;
      init = p.init;
      tr = p.tr;
      bad = one_clauses c (bad_literal c ∷ c.constraints);
      lemmas = p.lemmas;
    }

-- Tr without the constraints
unfoldable pub free_steps : Circuit → Problem → Problem
free_steps c p =
    record {
      n = p.n;
      m = p.m;
      init = p.init;
      tr = gates_clauses c c.gates ++ latches_clauses c 1 c.latches;
      bad = p.bad;
      lemmas = p.lemmas;
    }

-- Bad without the constraints
unfoldable pub free_bad : Circuit → Problem → Problem
free_bad c p =
    record {
      n = p.n;
      m = p.m;
      init = p.init;
      tr = p.tr;
      bad = gates_clauses c c.gates ++ one_clauses c (bad_literal c ∷ []);
      lemmas = p.lemmas;
    }

-- 'starts at itself' read as 0
unfoldable pub settled : Start → Start
settled at_0 = at_0
settled at_1 = at_1
settled at_either = at_0

unfoldable pub from_zero : Circuit → Problem → Problem
from_zero c p =
    record {
      n = p.n;
      m = p.m;
      init = start_clauses 1 (map (λ (q : Latch). record { lit = q.lit; next = q.next; start = settled q.start }) c.latches);
      tr = p.tr;
      bad = p.bad;
      lemmas = p.lemmas;
    }

-- the programs
abbrev pub forgets_gates : CircuitProgram
forgets_gates = one_of gateless

abbrev pub forgets_constraints_in_tr : CircuitProgram
forgets_constraints_in_tr = one_of free_steps

abbrev pub forgets_constraints_in_bad : CircuitProgram
forgets_constraints_in_bad = one_of free_bad

abbrev pub starts_at_zero : CircuitProgram
starts_at_zero = one_of from_zero

-- ---- what they answer

-- the true call of a circuit marks the lemma
abbrev LemmaMarked : Circuit → Type 0
LemmaMarked c = (one_job 9 (of_lemma c) (7 ∷ []) ≡ answered 0 0 (1 ∷ [])) × (one_count (of_lemma c) ≡ 0) × (k (of_lemma c) ≡ 1)

calls : LemmaMarked gate_circuit × LemmaMarked guarded_circuit
    × (one_job 9 (gateless gate_circuit (of_lemma gate_circuit)) (7 ∷ []) ≡ refusal 11 0 0 0 (7 ∷ []))
    × (one_job 9 (free_steps guarded_circuit (of_lemma guarded_circuit)) (7 ∷ []) ≡ refusal 11 0 0 0 (7 ∷ []))
    × (one_job 9 (free_bad guarded_circuit (of_lemma guarded_circuit)) (7 ∷ []) ≡ refusal 11 0 0 0 (7 ∷ []))
    × (one_job 9 (from_zero either_circuit (of_lemma either_circuit)) (7 ∷ []) ≡ answered 0 0 (1 ∷ []))
unfolding of_lemma gateless free_steps free_bad settled from_zero one_count Built.built Built.one_clauses Built.start_clauses Built.start_clause Built.latches_clauses Built.next_clauses Built.gates_clauses Built.and_clauses Built.clause_if Built.opposite Built.edge Built.literal_if Built.number Built.helpers Built.n_of Built.position Built.among Circuit.input_variables Circuit.gate_variables Circuit.latch_variables Circuit.bad_literal Circuit.negated Circuit.var Clauses.variable Clauses.negation Clauses.is_true Clauses.any Clauses.all Clauses.holds Clauses.all_hold Meaning.k Meaning.moment Meaning.has Meaning.at_marks Meaning.lemmas_of Search.blank Search.flipped Search.value Search.with_literal Search.says_true Search.says_false Search.has_true Search.only_false Search.keep_unset Search.unset_places Search.only_place Search.forced_by Search.first_place Search.open_in Search.or_else Search.first_of Search.rule_d Search.rule_c Search.rule_b Search.rule_a Search.move Search.after Search.then_false Search.follow Search.search_from Search.searched Rules.denied Rules.next Rules.lemma Rules.clauses Rules.answer Rules.width Rules.asked Rules.plus Rules.each Rules.sum Rules.size Rules.without Rules.with_position Rules.contains Rules.counted_on Rules.unless Rules.or_then Rules.first_yes Rules.stays Rules.step_cost Rules.survivors Rules.round_cost Rules.removes Rules.until_none Rules.rounds_within Rules.rounds Rules.initial Rules.initial_cost Rules.largest Rules.largest_safety Rules.reduced Rules.reduced_safety Rules.becomes Rules.shrink_at Rules.shrink Rules.one_if Rules.one Calls.refusal Calls.answered Calls.on_reading Calls.mark Calls.written Calls.marked Calls.within Calls.with_room Calls.one_job
calls = ((refl, refl, refl), (refl, refl, refl), refl, refl, refl, refl)

-- ---- each in its job's place beside the true calls

abbrev pub in_place_of_circuit_one : CircuitProgram → CircuitTrimmer
in_place_of_circuit_one P =
    record { check = circuit_check_call; largest = circuit_largest_call; one = P; list = circuit_list_call }

abbrev pub in_place_of_circuit_check : CircuitProgram → CircuitTrimmer
in_place_of_circuit_check P =
    record { check = P; largest = circuit_largest_call; one = circuit_one_call; list = circuit_list_call }

-- what a job makes of a text that is read
on_read : (text : List ℕ) (c : Circuit) (job : Problem → List ℕ → Outcome) → ReadsAs text c
    → on_reading (read_circuit text one_lemma) job (7 ∷ []) ≡ job (of_lemma c) (7 ∷ [])
unfolding on_reading
on_read text c job reads = ap (λ (r : Reading). on_reading r job (7 ∷ [])) reads.1

module _ (other : Circuit → Problem → Problem) (text : List ℕ) (c : Circuit) (reads : ReadsAs text c) where
  -- the program answers for the other problem
  answers : one_of other text one_lemma 9 (7 ∷ []) ≡ one_job 9 (other c (of_lemma c)) (7 ∷ [])
  unfolding one_of remade
  answers =
      on_read text c (λ p left. one_job 9 (remade other (read_circuit_text text) p) left) reads
      ∙ ap (λ (t : Text). one_job 9 (remade other t (of_lemma c)) (7 ∷ [])) reads.0

  -- it is out where it refuses a circuit whose lemma is safe and inductive
  refuses_wrongly : LemmaMarked c → one_job 9 (other c (of_lemma c)) (7 ∷ []) ≡ refusal 11 0 0 0 (7 ∷ [])
      → CircuitDemand2 (in_place_of_circuit_one (one_of other)) → ⊥
  unfolding circuit_one_call the_circuit_trimmer refusal
  refuses_wrongly (marks, count, room) refused d =
      let is : circuit_one_call text one_lemma 9 (7 ∷ []) ≡ answered 0 0 (1 ∷ []) = on_read text c (one_job 9) reads ∙ marks in
      let least = circuit_demand_2.minimal text one_lemma (of_lemma c) 9 (7 ∷ []) reads.1 (answered_by 0 0 _ is) in
      (d.refused text one_lemma (of_lemma c) 9 (7 ∷ []) reads.1 (omega (arith, count)) (omega (arith, room))).0
      (λ e. nonzero 10 (subst Answered (answers ∙ refused) e)) (_, least.0, least.1)

pub forgets_gates_is_out : CircuitDemand2 (in_place_of_circuit_one forgets_gates) → ⊥
forgets_gates_is_out = refuses_wrongly gateless gate_text gate_circuit texts_read.0 calls.0 calls.2

pub forgets_constraints_in_tr_is_out : CircuitDemand2 (in_place_of_circuit_one forgets_constraints_in_tr) → ⊥
forgets_constraints_in_tr_is_out = refuses_wrongly free_steps guarded_text guarded_circuit texts_read.1 calls.1 calls.3

pub forgets_constraints_in_bad_is_out : CircuitDemand2 (in_place_of_circuit_one forgets_constraints_in_bad) → ⊥
forgets_constraints_in_bad_is_out = refuses_wrongly free_bad guarded_text guarded_circuit texts_read.1 calls.1 calls.4

-- the circuit of either-text starts where it is bad
starts_bad : (c : Circuit) → read_circuit_text either_text ≡ CircuitText.right c
    → (s : State) × CircuitRun c (s ∷ []) × CanBeBad c s
unfolding Circuit.var Circuit.negated Circuit.value bad_literal
starts_bad c reads =
    let same : either_circuit ≡ c = right_same either_circuit c (sym texts_read.2.0 ∙ reads) in
    let s : State = λ i. true in
    let v : Values = λ u. eqb u 1 in
    subst (λ (d : Circuit). (s : State) × CircuitRun d (s ∷ []) × CanBeBad d s) same
    (s, ((tt, tt), tt), (v, v, record { constant = refl; inputs = tt; latches = (refl, tt); gates = tt }, (refl, tt)))
  where
    right_same : (a b : Circuit) → CircuitText.right a ≡ CircuitText.right b → a ≡ b
    right_same a b e = cc

-- it marks the lemma of that circuit
pub starts_at_zero_is_out : CircuitDemand2 (in_place_of_circuit_one starts_at_zero) → ⊥
starts_at_zero_is_out d =
    let reads = texts_read.2 in
    let same = answers from_zero either_text either_circuit reads ∙ calls.5 in
    let (c, is, never) =
    d.no_run either_text one_lemma (of_lemma either_circuit) 9 (7 ∷ []) reads.1 (answered_by 0 0 _ same) in
    let (s, run, bad) = starts_bad c is in
    never (s ∷ []) run s (inl refl) bad

-- ---- one that answers 14 before 13

-- the limits of the circuit are looked at before the lemmas
unfoldable pub limits_first : List ℕ → List ℕ → Text → Reading
limits_first text lemma_text (CircuitText.wrong at) = refusal_13 at
limits_first text lemma_text (CircuitText.right c) =
    cond (over_limits text lemma_text c []) refusal_14
    (on_lemmas text lemma_text c (read_lemma_text (length c.latches) lemma_text))

unfoldable pub answers_14_first : CircuitProgram
answers_14_first text lemma_text budget lent = on_reading (limits_first text lemma_text (read_circuit_text text)) checked lent

-- aag 0 0 0 1 0, then 0: no latch, and an output that is 0
abbrev no_latch_text : List ℕ
no_latch_text = 97 ∷ 97 ∷ 103 ∷ 32 ∷ 48 ∷ 32 ∷ 48 ∷ 32 ∷ 48 ∷ 32 ∷ 49 ∷ 32 ∷ 48 ∷ 10 ∷ 48 ∷ 10 ∷ []

-- a lemma line that no newline ends
abbrev cut_lemmas : List ℕ
cut_lemmas = 48 ∷ []

no_latch_calls : ((circuit_check_call no_latch_text cut_lemmas 0 []).report.number ≡ 13)
    × ((answers_14_first no_latch_text cut_lemmas 0 []).report.number ≡ 14)
unfolding circuit_check_call answers_14_first limits_first refusal_13 Calls.refusal Calls.on_reading read_circuit Circuits.refusal_14 Circuits.on_circuit Circuits.on_lemmas Circuits.has_liveness Circuits.over_limits Circuits.clause_count CircuitText.read_circuit_text CircuitText.if_header CircuitText.after_header CircuitText.on_properties CircuitText.total CircuitText.used_of CircuitText.is_judged CircuitText.defined_in CircuitText.on_none CircuitText.on_lines CircuitText.uses_fault CircuitText.first_unknown CircuitText.or_else CircuitText.first_not CircuitText.gate_works CircuitText.worked_out CircuitText.given CircuitText.known CircuitText.circuit_of CircuitText.gate_of CircuitText.latch_of CircuitText.start_of CircuitText.at_number CircuitText.symbols_fault CircuitText.fault_unless CircuitText.unless_done CircuitText.section CircuitText.if_right CircuitText.line_and CircuitText.before_next CircuitText.line_right CircuitText.width_right CircuitText.start_right CircuitText.numbers_at CircuitText.literals_right CircuitText.defined_right CircuitText.used_right CircuitText.gate_form CircuitText.count_form CircuitText.used_form CircuitText.latch_form CircuitText.input_form CircuitText.header_right CircuitText.header_of CircuitText.number_in CircuitText.same_bytes Lines.of_numbers Lines.decimal Lines.decimal_on Lines.is_number Lines.is_digit Lines.is_empty Lines.words Lines.with_first Lines.next_line Lines.ended Lines.line_at Lines.until Built.built Built.one_clauses Built.start_clauses Built.start_clause Built.latches_clauses Built.next_clauses Built.gates_clauses Built.and_clauses Built.clause_if Built.opposite Built.edge Built.literal_if Built.number Built.helpers Built.n_of Built.position Built.among Circuit.variables Circuit.input_variables Circuit.gate_variables Circuit.latch_variables Circuit.bad_literal Circuit.negated Circuit.var LemmaText.read_lemma_text LemmaText.lemmas_from LemmaText.unless_end LemmaText.if_lemma LemmaText.lemma_and LemmaText.lemma_of LemmaText.latch_literal LemmaText.lemma_right LemmaText.is_zero LemmaText.latch_right LemmaText.unsigned LemmaText.has_minus Clauses.any Clauses.all Clauses.negation File.between
no_latch_calls = (refl, refl)

pub answers_14_first_is_out : CircuitDemand1 (in_place_of_circuit_check answers_14_first) → ⊥
answers_14_first_is_out d =
    let same = ap (λ (o : Outcome). o.report.number) (d.check no_latch_text cut_lemmas 0 []) in
    omega (arith, same, no_latch_calls.0, no_latch_calls.1)

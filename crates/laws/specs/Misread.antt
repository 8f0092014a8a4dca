-- Two programs that misread Bad where it looks at inputs (request 2026-01), each refuted by demand 2 on the small loader.
use Rattle.std.specs.Prelude.{ℕ, zero, suc, ◌+◌, ◌-◌, ◌≡◌, refl, Bool, true, false, ◌&&◌, cond, List, [], ◌∷◌, ◌++◌, map, replicate, ltb, eqb}
use Rattle.std.proofs.Common.{le_refl, ap, subst, ◌∙◌}
use Rattle.meaning.specs.Clauses
use Rattle.meaning.specs.Clauses.{Literal, Clause, variable, Values, is_true, any}
use Rattle.meaning.specs.Meaning
use Rattle.meaning.specs.Meaning.{Problem, k, Minimal}
use Rattle.meaning.specs.File.{read}
use Rattle.meaning.specs.Search
use Rattle.meaning.specs.Rules
use Rattle.meaning.specs.Calls
use Rattle.meaning.specs.Calls.{Outcome, Program, refusal, answered, on_reading, one_job, one_call}
use Rattle.meaning.specs.Demands
use Rattle.meaning.specs.Demands.{set_left, one_count, SomeSafeInductive, Demand2}
use Rattle.meaning.specs.Filed.{file_of}
use Rattle.meaning.specs.Cases
use Rattle.meaning.specs.Cases.{case_checksum, sevens, starred, line, run_line, outcome_of}
use Rattle.meaning.specs.Examples.{three, checksum_bad}
use Rattle.laws.specs.Basics.{nonzero}
use Rattle.laws.specs.Named.{accepted_well_formed}
use Rattle.laws.specs.Paper.{one_minimal}
use Rattle.laws.specs.DemandsHold.{one_left, on_accepted}
use Rattle.laws.specs.Useless.{reads, from_table, answered_by, in_place_of_one}

-- ---- one that calls a state bad only where all values of inputs and helpers satisfy Bad

-- a literal of an input or helper, and its value
unfoldable pub of_input : ℕ → Literal → Bool
of_input n l = ltb n (variable l)

unfoldable pub input_true : ℕ → Values → Literal → Bool
input_true n x l = of_input n l && is_true (λ v. x (v - (n + n))) l

unfoldable pub state_part : ℕ → Clause → Clause
state_part n [] = []
state_part n (l ∷ c) = cond (of_input n l) (state_part n c) (l ∷ state_part n c)

-- what Bad says of the state where inputs and helpers have these values: a true one drops its clause, a false one leaves it
unfoldable pub with_inputs : ℕ → Values → List Clause → List Clause
with_inputs n x [] = []
with_inputs n x (c ∷ cs) = cond (any (input_true n x) c) (with_inputs n x cs) (state_part n c ∷ with_inputs n x cs)

-- all values of so many inputs and helpers
unfoldable pub set_on : ℕ → Values → Values
set_on m x v = cond (eqb v m) true (x v)

unfoldable pub all_values : ℕ → List Values
all_values zero = (λ v. false) ∷ []
all_values (suc m) = map (set_on (suc m)) (all_values m) ++ all_values m

unfoldable pub bad_for : List Values → ℕ → List Clause → List Clause
bad_for [] n bad = []
bad_for (x ∷ xs) n bad = with_inputs n x bad ++ bad_for xs n bad

unfoldable pub for_all_inputs : Problem → Problem
for_all_inputs p =
    record {
      n = p.n;
      m = p.m;
      init = p.init;
      tr = p.tr;
      bad = bad_for (all_values p.m) p.n p.bad;
      lemmas = p.lemmas;
    }

unfoldable pub wants_all_inputs : Program
wants_all_inputs file budget lent = on_reading (read file) (λ p left. one_job budget (for_all_inputs p) left) lent

-- it finds no bad state in the loader, and so needs no lemma
picks_nothing : one_job 3 (for_all_inputs case_checksum) (sevens 6) ≡ answered 3 0 (0 ∷ 0 ∷ 0 ∷ 0 ∷ 0 ∷ 0 ∷ [])
unfolding of_input input_true state_part with_inputs set_on all_values bad_for for_all_inputs case_checksum Cases.applied_if Cases.held_if Cases.takes Cases.unit sevens Clauses.variable Clauses.negation Clauses.is_true Clauses.any Clauses.all Clauses.holds Clauses.all_hold Meaning.k Meaning.moment Meaning.has Meaning.at_marks Meaning.lemmas_of Search.blank Search.flipped Search.value Search.with_literal Search.says_true Search.says_false Search.has_true Search.only_false Search.keep_unset Search.unset_places Search.only_place Search.forced_by Search.first_place Search.open_in Search.or_else Search.first_of Search.rule_d Search.rule_c Search.rule_b Search.rule_a Search.move Search.after Search.then_false Search.follow Search.search_from Search.searched Rules.denied Rules.next Rules.lemma Rules.clauses Rules.answer Rules.width Rules.asked Rules.plus Rules.each Rules.sum Rules.size Rules.without Rules.with_position Rules.contains Rules.counted_on Rules.unless Rules.or_then Rules.first_yes Rules.no_rows Rules.later Rules.rows_after Rules.and_then Rules.pick Rules.lowest Rules.stays Rules.step_cost Rules.survivors Rules.round_cost Rules.removes Rules.until_none Rules.rounds_within Rules.rounds Rules.initial Rules.initial_cost Rules.largest Rules.largest_safety Rules.reduced Rules.reduced_safety Rules.becomes Rules.shrink_at Rules.shrink Rules.one_if Rules.one Rules.failing Rules.smaller_at Rules.smaller Rules.row_unless Rules.row_of Rules.node_unless Rules.node_if_safe Rules.exclude Rules.branch Rules.node_at Rules.node Rules.list_if Rules.listing Calls.refusal Calls.answered Calls.checked Calls.on_reading Calls.mark Calls.written Calls.marked Calls.within Calls.with_room Calls.row_or_stop Calls.cut Calls.listed Calls.largest_job Calls.one_job Calls.list_job Calls.check_call Calls.largest_call Calls.one_call Calls.list_call
picks_nothing = refl

pub wants_all_inputs_is_out : Demand2 (in_place_of_one wants_all_inputs) → ⊥
unfolding wants_all_inputs answered set_left Demands.marks_in case_checksum k Meaning.lemmas_of Meaning.at_marks Clauses.all_hold Clauses.all
wants_all_inputs_is_out d =
    let same =
    on_accepted (file_of case_checksum) case_checksum (λ p left. one_job 3 (for_all_inputs p) left) (sevens 6) reads.3
    ∙ picks_nothing in
    let least = d.minimal (file_of case_checksum) case_checksum 3 (sevens 6) reads.3 (answered_by 3 0 _ same) in
    let empty : Minimal case_checksum (replicate 6 false) = subst (Minimal case_checksum) (ap (set_left case_checksum) same) least in
    empty.1.0 (three true true true) refl checksum_bad

-- ---- one that still refuses every file whose Bad names another variable than those of the state

-- the loader has a safe inductive set
checksum_one : one_call (file_of case_checksum) 3 (sevens 7) ≡ answered 3 0 (0 ∷ 0 ∷ 0 ∷ 0 ∷ 1 ∷ 0 ∷ 7 ∷ [])
unfolding starred line run_line outcome_of
checksum_one = from_table 29

checksum_some : SomeSafeInductive case_checksum
checksum_some =
    let least =
    one_minimal case_checksum (accepted_well_formed (file_of case_checksum) case_checksum reads.3) _
    (one_left (file_of case_checksum) case_checksum 3 (sevens 7) reads.3 (answered_by 3 0 _ checksum_one)) in
    (_, least.0, least.1)

unfoldable pub beyond_state : Problem → Bool
beyond_state p = any (any (of_input p.n)) p.bad

unfoldable pub refuses_inputs : Program
refuses_inputs file budget lent =
    on_reading (read file) (λ p left. cond (beyond_state p) (refusal 6 0 0 0 left) (one_job budget p left)) lent

pub refuses_inputs_is_out : Demand2 (in_place_of_one refuses_inputs) → ⊥
unfolding refuses_inputs beyond_state of_input any variable refusal case_checksum Cases.applied_if Cases.unit k sevens
refuses_inputs_is_out d =
    let budget = one_count case_checksum in
    let job : Problem → List ℕ → Outcome =
    λ p left. cond (beyond_state p) (refusal 6 0 0 0 left) (one_job budget p left) in
    let same = on_accepted (file_of case_checksum) case_checksum job (sevens 6) reads.3 in
    (d.refused (file_of case_checksum) case_checksum budget (sevens 6) reads.3 (le_refl budget) (le_refl 6)).0
    (λ e. nonzero 5 (subst (λ (o : Outcome). o.report.number ≡ 0) same e)) checksum_some

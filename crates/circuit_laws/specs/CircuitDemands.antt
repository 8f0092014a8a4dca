-- The three demands of circuits, as predicates on any four programs over a circuit text and a lemma text; proved of the four calls of
-- `meaning`, and of whatever meets their promises.
use Rattle.std.specs.Prelude.{ℕ, ◌≤◌, ◌≡◌, refl, ◌↔◌, ◌⊎◌, List, [], ◌∷◌, ◌++◌, length}
use Rattle.std.proofs.Common.{sym, ap, subst, ◌∙◌}
use Rattle.std.proofs.Math.Path.{subst⁻¹, fun_ext}
use Rattle.meaning.specs.Meaning.{Problem, k, Marks, Minimal}
use Rattle.meaning.specs.File.{Reading, accepted, read}
use Rattle.meaning.specs.Calls.{Outcome, on_reading, checked, largest_job, one_job, list_job, check_call, largest_call, one_call, list_call}
use Rattle.meaning.specs.Filed.{file_of}
use Rattle.meaning.specs.Demands.{Answered, RefusedBy, set_left, rows_left, SomeSafeInductive, Complete, one_count, list_count, IsLargest, FirstRows, RowsFit}
use Rattle.meaning.specs.Circuits.{read_circuit, CircuitProgram, circuit_check_call, circuit_largest_call, circuit_one_call, circuit_list_call}
use Rattle.laws.specs.DemandsHold.{the_trimmer, demand_2, demand_3}
use Rattle.circuit_laws.specs.AcceptedTexts.{circuit_read_back}
use Rattle.circuit_laws.specs.Theorems.{NeverBad, answered_never_bad}

-- a program for each of the four jobs
pub record CircuitTrimmer : Type 0 where
  pub check : CircuitProgram
  pub largest : CircuitProgram
  pub one : CircuitProgram
  pub list : CircuitProgram

-- 1. The answer and the lent bytes after it are fixed by document 01, refusals too.
abbrev pub CircuitFixedBy : CircuitProgram → CircuitProgram → Type 0
CircuitFixedBy call P =
    (text lemma_text : List ℕ) (budget : ℕ) (lent : List ℕ) → P text lemma_text budget lent ≡ call text lemma_text budget lent

pub record CircuitDemand1 (t : CircuitTrimmer) : Type 0 where
  pub check : CircuitFixedBy circuit_check_call t.check
  pub largest : CircuitFixedBy circuit_largest_call t.largest
  pub one : CircuitFixedBy circuit_one_call t.one
  pub list : CircuitFixedBy circuit_list_call t.list

-- 2. Of the problem that is built from the circuit and its lemmas ..
pub record CircuitDemand2 (t : CircuitTrimmer) : Type 0 where
  -- .. the largest set is the one inductive set containing all others.
  pub largest : (text lemma_text : List ℕ) (p : Problem) (budget : ℕ) (lent : List ℕ) → read_circuit text lemma_text ≡ accepted p
      → Answered (t.largest text lemma_text budget lent) → IsLargest p (set_left p (t.largest text lemma_text budget lent))
  -- The single set is safe and inductive, and no proper part of it is safe and inductive ..
  pub minimal : (text lemma_text : List ℕ) (p : Problem) (budget : ℕ) (lent : List ℕ) → read_circuit text lemma_text ≡ accepted p
      → Answered (t.one text lemma_text budget lent) → Minimal p (set_left p (t.one text lemma_text budget lent))
  -- .. so no run of the circuit reaches a bad state.
  pub no_run : (text lemma_text : List ℕ) (p : Problem) (budget : ℕ) (lent : List ℕ) → read_circuit text lemma_text ≡ accepted p
      → Answered (t.one text lemma_text budget lent) → NeverBad text
  -- On accepted texts, when the budget suffices, a call for the single set with room for its marks is refused exactly if no subset of the
  -- candidates would do.
  pub refused : (text lemma_text : List ℕ) (p : Problem) (budget : ℕ) (lent : List ℕ) → read_circuit text lemma_text ≡ accepted p
      → one_count p ≤ budget → k p ≤ length lent
      → (Answered (t.one text lemma_text budget lent) → ⊥) ↔ (SomeSafeInductive p → ⊥)

pub record CircuitDemand3 (t : CircuitTrimmer) : Type 0 where
  -- 3. A listing that says complete holds every minimal safe inductive set, each once, ordered ..
  pub complete : (text lemma_text : List ℕ) (p : Problem) (budget : ℕ) (lent : List ℕ) → read_circuit text lemma_text ≡ accepted p
      → Answered (t.list text lemma_text budget lent) → Complete p (rows_left p (t.list text lemma_text budget lent))
  -- the single set, where it is given, is the last row.
  pub last : (text lemma_text : List ℕ) (p : Problem) (budget budget' : ℕ) (lent lent' : List ℕ) → read_circuit text lemma_text ≡ accepted p
      → Answered (t.list text lemma_text budget lent) → Answered (t.one text lemma_text budget' lent')
      → (front : List Marks)
      × (rows_left p (t.list text lemma_text budget lent) ≡ front ++ (set_left p (t.one text lemma_text budget' lent') ∷ []))
  -- A listing stopped by budget or room holds the first rows of that same list.
  pub stopped : (text lemma_text : List ℕ) (p : Problem) (budget : ℕ) (lent : List ℕ) → read_circuit text lemma_text ≡ accepted p
      → RefusedBy 10 (t.list text lemma_text budget lent) ⊎ RefusedBy 12 (t.list text lemma_text budget lent)
      → FirstRows p (rows_left p (t.list text lemma_text budget lent))
  -- On accepted texts it says complete exactly when some candidates form a safe inductive set, the counted decisions fit the budget and the
  -- rows fit the space.
  pub says_complete : (text lemma_text : List ℕ) (p : Problem) (budget : ℕ) (lent : List ℕ) → read_circuit text lemma_text ≡ accepted p
      → Answered (t.list text lemma_text budget lent)
      ↔ (SomeSafeInductive p × (list_count p ≤ budget) × RowsFit p (length lent))

-- ---- the four calls

-- the trimmer that document 01 fixes
unfoldable pub the_circuit_trimmer : CircuitTrimmer
the_circuit_trimmer =
    record { check = circuit_check_call; largest = circuit_largest_call; one = circuit_one_call; list = circuit_list_call }

pub circuit_demand_1 : CircuitDemand1 the_circuit_trimmer
unfolding the_circuit_trimmer
circuit_demand_1 =
    record {
      check = λ text lemma_text budget lent. refl;
      largest = λ text lemma_text budget lent. refl;
      one = λ text lemma_text budget lent. refl;
      list = λ text lemma_text budget lent. refl;
    }

-- a call on accepted texts is the call on the file of the problem that they are accepted as
module _ (text lemma_text : List ℕ) (p : Problem) (budget : ℕ) (lent : List ℕ) (e : read_circuit text lemma_text ≡ accepted p) where
  as_file : (job : Problem → List ℕ → Outcome)
      → on_reading (read_circuit text lemma_text) job lent ≡ on_reading (read (file_of p)) job lent
  as_file job = ap (λ (r : Reading). on_reading r job lent) (e ∙ sym (circuit_read_back text lemma_text p e))

  pub circuit_check_is : circuit_check_call text lemma_text budget lent ≡ check_call (file_of p) budget lent
  unfolding circuit_check_call check_call
  circuit_check_is = as_file checked

  pub circuit_largest_is : circuit_largest_call text lemma_text budget lent ≡ largest_call (file_of p) budget lent
  unfolding circuit_largest_call largest_call
  circuit_largest_is = as_file (largest_job budget)

  pub circuit_one_is : circuit_one_call text lemma_text budget lent ≡ one_call (file_of p) budget lent
  unfolding circuit_one_call one_call
  circuit_one_is = as_file (one_job budget)

  pub circuit_list_is : circuit_list_call text lemma_text budget lent ≡ list_call (file_of p) budget lent
  unfolding circuit_list_call list_call
  circuit_list_is = as_file (list_job budget)

pub circuit_demand_2 : CircuitDemand2 the_circuit_trimmer
unfolding the_circuit_trimmer the_trimmer
circuit_demand_2 =
    record {
      largest = λ text lemma_text p budget lent e h.
          let same = circuit_largest_is text lemma_text p budget lent e in
          subst⁻¹ (λ (o : Outcome). IsLargest p (set_left p o)) same
          (demand_2.largest (file_of p) p budget lent (circuit_read_back text lemma_text p e) (subst Answered same h));
      minimal = λ text lemma_text p budget lent e h.
          let same = circuit_one_is text lemma_text p budget lent e in
          subst⁻¹ (λ (o : Outcome). Minimal p (set_left p o)) same
          (demand_2.minimal (file_of p) p budget lent (circuit_read_back text lemma_text p e) (subst Answered same h));
      no_run = λ text lemma_text p budget lent e h.
          answered_never_bad circuit_one_call (λ text' lemma_text' budget' lent'. refl) text lemma_text budget lent h;
      refused = λ text lemma_text p budget lent e enough room.
          subst⁻¹ (λ (o : Outcome). (Answered o → ⊥) ↔ (SomeSafeInductive p → ⊥)) (circuit_one_is text lemma_text p budget lent e)
          (demand_2.refused (file_of p) p budget lent (circuit_read_back text lemma_text p e) enough room);
    }

pub circuit_demand_3 : CircuitDemand3 the_circuit_trimmer
unfolding the_circuit_trimmer the_trimmer
circuit_demand_3 =
    record {
      complete = λ text lemma_text p budget lent e h.
          let same = circuit_list_is text lemma_text p budget lent e in
          subst⁻¹ (λ (o : Outcome). Complete p (rows_left p o)) same
          (demand_3.complete (file_of p) p budget lent (circuit_read_back text lemma_text p e) (subst Answered same h));
      last = λ text lemma_text p budget budget' lent lent' e h h'.
          let same = circuit_list_is text lemma_text p budget lent e in
          let same' = circuit_one_is text lemma_text p budget' lent' e in
          let found =
          demand_3.last (file_of p) p budget budget' lent lent' (circuit_read_back text lemma_text p e) (subst Answered same h)
          (subst Answered same' h') in (
            found.0,
            ap (rows_left p) same ∙ found.1 ∙ ap (λ (o : Outcome). found.0 ++ (set_left p o ∷ [])) (sym same'),
          );
      stopped = λ text lemma_text p budget lent e h.
          let same = circuit_list_is text lemma_text p budget lent e in
          subst⁻¹ (λ (o : Outcome). FirstRows p (rows_left p o)) same
          (demand_3.stopped (file_of p) p budget lent (circuit_read_back text lemma_text p e)
          (subst (λ (o : Outcome). RefusedBy 10 o ⊎ RefusedBy 12 o) same h));
      says_complete = λ text lemma_text p budget lent e.
          subst⁻¹ (λ (o : Outcome). Answered o ↔ (SomeSafeInductive p × (list_count p ≤ budget) × RowsFit p (length lent)))
          (circuit_list_is text lemma_text p budget lent e)
          (demand_3.says_complete (file_of p) p budget lent (circuit_read_back text lemma_text p e));
    }

-- ---- whatever meets the promises

-- two programs that meet a job's promise are equal
pub circuit_promise_unique : (call P Q : CircuitProgram) → CircuitFixedBy call P → CircuitFixedBy call Q
    → (text lemma_text : List ℕ) (budget : ℕ) (lent : List ℕ) → P text lemma_text budget lent ≡ Q text lemma_text budget lent
circuit_promise_unique call P Q p q text lemma_text budget lent = p text lemma_text budget lent ∙ sym (q text lemma_text budget lent)

-- a program that meets a job's promise is that job's call
pub circuit_fixed_is : (call P : CircuitProgram) → CircuitFixedBy call P → P ≡ call
circuit_fixed_is call P fixed =
    fun_ext (λ text. fun_ext (λ lemma_text. fun_ext (λ budget. fun_ext (λ lent. fixed text lemma_text budget lent))))

-- four programs that meet the promises are the trimmer that document 01 fixes
pub circuit_promised_is : (t : CircuitTrimmer) → CircuitDemand1 t → t ≡ the_circuit_trimmer
unfolding the_circuit_trimmer
circuit_promised_is t d =
    λ i.
    record {
      check = circuit_fixed_is circuit_check_call t.check d.check i;
      largest = circuit_fixed_is circuit_largest_call t.largest d.largest i;
      one = circuit_fixed_is circuit_one_call t.one d.one i;
      list = circuit_fixed_is circuit_list_call t.list d.list i;
    }

pub circuit_promises_meet_2 : (t : CircuitTrimmer) → CircuitDemand1 t → CircuitDemand2 t
circuit_promises_meet_2 t d = subst⁻¹ CircuitDemand2 (circuit_promised_is t d) circuit_demand_2

pub circuit_promises_meet_3 : (t : CircuitTrimmer) → CircuitDemand1 t → CircuitDemand3 t
circuit_promises_meet_3 t d = subst⁻¹ CircuitDemand3 (circuit_promised_is t d) circuit_demand_3

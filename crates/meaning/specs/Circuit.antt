-- A circuit by itself, in the words of the AIGER format, both editions: the value of a literal, start states, next states, runs, and bad
-- states. An older circuit is one whose latches all start at 0 and that has no constraints. Nothing here speaks of clauses or of problem files.
use Rattle.std.specs.Prelude.{ℕ, suc, ◌/◌, ◌%◌, ◌≡◌, Bool, true, false, not, ◌&&◌, cond, List, [], ◌∷◌, ◌++◌, map, get_or, eqb}
use Rattle.meaning.specs.Clauses.{Values}
use Rattle.meaning.specs.Meaning.{State}

-- A literal is a number: 2v is variable v, and 2v+1 its negation. Variable 0 is false, so literal 0 is false and literal 1 is true.
unfoldable pub var : ℕ → ℕ
var l = l / 2

unfoldable pub negated : ℕ → Bool
negated l = eqb (l % 2) 1

-- where a latch starts: at 0, at 1, or at either value
pub data Start : Type 0 where
  at_0 : Start
  at_1 : Start
  at_either : Start

-- a latch: its literal, the literal of its next value, and where it starts
pub record Latch : Type 0 where
  pub lit : ℕ
  pub next : ℕ
  pub start : Start

-- a gate: its literal, and the two literals whose conjunction it is
pub record Gate : Type 0 where
  pub lit : ℕ
  pub left : ℕ
  pub right : ℕ

-- inputs, latches, outputs, bad literals, constraints and gates, each in line order; and how many justice properties and fairness constraints
-- it has, of which nothing more is asked
pub record Circuit : Type 0 where
  pub inputs : List ℕ
  pub latches : List Latch
  pub outputs : List ℕ
  pub bads : List ℕ
  pub constraints : List ℕ
  pub justice : ℕ
  pub fairness : ℕ
  pub gates : List Gate

-- the bad literal or, where there is none, the single output
unfoldable pub bad_literal : Circuit → ℕ
bad_literal c = get_or (c.bads ++ c.outputs) 0 0

-- the value of a literal, where v gives each variable a value
unfoldable pub value : Values → ℕ → Bool
value v l = cond (negated l) (not (v (var l))) (v (var l))

-- the inputs, by line order from i on, have the values that x gives
abbrev pub InputsAre : Values → Values → ℕ → List ℕ → Type 0
InputsAre v x i [] = Unit {0}
InputsAre v x i (l ∷ ls) = (v (var l) ≡ x i) × InputsAre v x (suc i) ls

-- the latches, by line order from i on, have the values of the state s
abbrev pub LatchesAre : Values → State → ℕ → List Latch → Type 0
LatchesAre v s i [] = Unit {0}
LatchesAre v s i (q ∷ qs) = (v (var q.lit) ≡ s i) × LatchesAre v s (suc i) qs

-- each gate has the conjunction of its two literals' values
abbrev pub GatesAre : Values → List Gate → Type 0
GatesAre v [] = Unit {0}
GatesAre v (g ∷ gs) = (v (var g.lit) ≡ (value v g.left && value v g.right)) × GatesAre v gs

-- v is what each variable is worth at a state s, latch i standing at s i, and at inputs x, input i standing at x i (both counted from 1). That
-- there is such a v for every state and inputs, and but one, is proved of every circuit that is read.
pub record Worth (c : Circuit) (s : State) (x v : Values) : Type 0 where
  pub constant : v 0 ≡ false
  pub inputs : InputsAre v x 1 c.inputs
  pub latches : LatchesAre v s 1 c.latches
  pub gates : GatesAre v c.gates

-- a latch may start with this value
abbrev pub StartsWith : Start → Bool → Type 0
StartsWith at_0 b = b ≡ false
StartsWith at_1 b = b ≡ true
StartsWith at_either b = Unit {0}

-- every latch has a value that it may start with
abbrev pub AllStart : State → ℕ → List Latch → Type 0
AllStart s i [] = Unit {0}
AllStart s i (q ∷ qs) = StartsWith q.start (s i) × AllStart s (suc i) qs

abbrev pub StartState : Circuit → State → Type 0
StartState c s = AllStart s 1 c.latches

-- all these literals are 1
abbrev pub AllOne : Values → List ℕ → Type 0
AllOne v [] = Unit {0}
AllOne v (l ∷ ls) = (value v l ≡ true) × AllOne v ls

-- in the state t every latch has the value that its next literal had
abbrev pub AllNext : Values → State → ℕ → List Latch → Type 0
AllNext v t i [] = Unit {0}
AllNext v t i (q ∷ qs) = (t i ≡ value v q.next) × AllNext v t (suc i) qs

-- t is a next state of s: for some inputs at which every constraint holds before the step
abbrev pub NextState : Circuit → State → State → Type 0
NextState c s t = (x v : Values) × Worth c s x v × AllNext v t 1 c.latches × AllOne v c.constraints

-- each state of the list is a next state of the one before it, the first of s
abbrev pub NextStates : Circuit → State → List State → Type 0
NextStates c s [] = Unit {0}
NextStates c s (t ∷ ts) = NextState c s t × NextStates c t ts

-- a run of the circuit: a list of states whose first is a start state, and each other a next state of the one before it
abbrev pub CircuitRun : Circuit → List State → Type 0
CircuitRun c [] = ⊥
CircuitRun c (s ∷ ts) = StartState c s × NextStates c s ts

-- a state is bad if for some inputs the bad literal and all constraints are 1 together
abbrev pub CanBeBad : Circuit → State → Type 0
CanBeBad c s = (x v : Values) × Worth c s x v × AllOne v (bad_literal c ∷ c.constraints)

-- the variables that lines define, in the order inputs, latches, gates
unfoldable pub latch_variables : Circuit → List ℕ
latch_variables c = map (λ (q : Latch). var q.lit) c.latches

unfoldable pub gate_variables : Circuit → List ℕ
gate_variables c = map (λ (g : Gate). var g.lit) c.gates

unfoldable pub input_variables : Circuit → List ℕ
input_variables c = map var c.inputs

unfoldable pub variables : Circuit → List ℕ
variables c = input_variables c ++ (latch_variables c ++ gate_variables c)

-- A problem, its states, steps and runs; sets of lemmas; initiation, inductive, safe, minimal.
use Rattle.std.specs.Prelude.{ℕ, ◌+◌, ◌-◌, ◌≡◌, Bool, true, false, cond, List, [], ◌∷◌, length, get_or, leb}
use Rattle.meaning.specs.Clauses.{Clause, Values, all_hold}

-- n state variables, m inputs and helpers, and the four clause lists in file order
pub record Problem : Type 0 where
  pub n : ℕ
  pub m : ℕ
  pub init : List Clause
  pub tr : List Clause
  pub bad : List Clause
  pub lemmas : List Clause

-- k is the number of lemmas
unfoldable pub k : Problem → ℕ
k p = length p.lemmas

-- A state gives each of 1..n a value.
abbrev pub State : Type 0
State = ℕ → Bool

-- Variable v in 1..n is current state, n+v is its next value, 2n+1..2n+m are inputs and helpers: the values of a
-- state s, a next state t, and inputs and helpers x counted from 1
unfoldable pub moment : ℕ → State → State → Values → Values
moment n s t x v = cond (leb v n) (s v) (cond (leb v (n + n)) (t (v - n)) (x (v - (n + n))))

-- an Init state is one where all Init clauses hold
abbrev pub InitState : Problem → State → Type 0
InitState p s = all_hold s p.init ≡ true

-- A state is bad if some values of inputs and helpers satisfy all Bad clauses. Bad names no next value, so which state stands for the next
-- one is nothing to it (`bad-any-next` in `laws`); here it is the state itself.
abbrev pub BadState : Problem → State → Type 0
BadState p s = (x : Values) × (all_hold (moment p.n s s x) p.bad ≡ true)

-- A step goes from one state to a next one, itself included, if some values of inputs and helpers satisfy all Tr clauses.
abbrev pub Step : Problem → State → State → Type 0
Step p s t = (x : Values) × (all_hold (moment p.n s t x) p.tr ≡ true)

-- each state of the list is a step on from the one before it, the first from s
abbrev pub StepsFrom : Problem → State → List State → Type 0
StepsFrom p s [] = Unit {0}
StepsFrom p s (t ∷ ts) = Step p s t × StepsFrom p t ts

-- A run is a list of states whose first is an Init state and whose neighbours are steps.
abbrev pub Run : Problem → List State → Type 0
Run p [] = ⊥
Run p (s ∷ ts) = InitState p s × StepsFrom p s ts

-- A set of positions, as a mark for each position: true for in, false for out
abbrev pub Marks : Type 0
Marks = List Bool

-- whether position q is in S
unfoldable pub has : Marks → ℕ → Bool
has S q = get_or S q false

-- S is a set of positions of p: one mark for each lemma
abbrev pub SetOf : Problem → Marks → Type 0
SetOf p S = length S ≡ k p

-- the clauses at the positions of S, by position
unfoldable pub at_marks : Marks → List Clause → List Clause
at_marks [] cs = []
at_marks (b ∷ S) [] = []
at_marks (true ∷ S) (c ∷ cs) = c ∷ at_marks S cs
at_marks (false ∷ S) (c ∷ cs) = at_marks S cs

-- the lemmas of S by position
unfoldable pub lemmas_of : Problem → Marks → List Clause
lemmas_of p S = at_marks S p.lemmas

-- all of S hold in the state s
abbrev pub AllOf : Problem → Marks → State → Type 0
AllOf p S s = all_hold s (lemmas_of p S) ≡ true

-- S satisfies initiation if each of its lemmas holds in every Init state
abbrev pub Initiation : Problem → Marks → Type 0
Initiation p S = (s : State) → InitState p s → AllOf p S s

-- S is inductive if it satisfies initiation and, for every step from a state where all of S hold, all of S hold afterwards
abbrev pub Inductive : Problem → Marks → Type 0
Inductive p S = Initiation p S × ((s t : State) → Step p s t → AllOf p S s → AllOf p S t)

-- S is safe if no state where all of S hold is bad
abbrev pub Safe : Problem → Marks → Type 0
Safe p S = (s : State) → AllOf p S s → BadState p s → ⊥

abbrev pub SafeInductive : Problem → Marks → Type 0
SafeInductive p S = Safe p S × Inductive p S

-- every position of S is one of T
abbrev pub Part : Marks → Marks → Type 0
Part S T = (q : ℕ) → has S q ≡ true → has T q ≡ true

-- a proper subset lacks some position
abbrev pub ProperPart : Marks → Marks → Type 0
ProperPart S T = Part S T × ((q : ℕ) × (has T q ≡ true) × (has S q ≡ false))

-- S is minimal if it is safe and inductive and no proper subset of its positions is
abbrev pub Minimal : Problem → Marks → Type 0
Minimal p S = SetOf p S × SafeInductive p S × ((T : Marks) → SetOf p T → ProperPart T S → SafeInductive p T → ⊥)

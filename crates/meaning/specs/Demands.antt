-- The three demands, as predicates on any four programs: any functions from a file, a budget and lent bytes to an outcome.
use Rattle.std.specs.Prelude.{ℕ, zero, suc, ◌*◌, ◌≤◌, ◌<◌, ◌≡◌, ◌↔◌, ◌⊎◌, true, false, List, [], ◌∷◌, ◌++◌, map, length, take, drop, eqb}
use Rattle.meaning.specs.Meaning.{Problem, k, State, BadState, Run, Marks, has, SetOf, Inductive, SafeInductive, Part, Minimal}
use Rattle.meaning.specs.File.{accepted, read}
use Rattle.meaning.specs.Rules.{asked, one, listing}
use Rattle.meaning.specs.Calls.{Outcome, Program, check_call, largest_call, one_call, list_call}

-- a program for each of the four jobs
pub record Trimmer : Type 0 where
  pub check : Program
  pub largest : Program
  pub one : Program
  pub list : Program

-- an element of a list
abbrev pub In : {A : Type 0} → A → List A → Type 0
In a [] = ⊥
In a (b ∷ bs) = (a ≡ b) ⊎ In a bs

-- the call was answered, and not refused
abbrev pub Answered : Outcome → Type 0
Answered o = o.report.number ≡ 0

-- the call was refused by this number
abbrev pub RefusedBy : ℕ → Outcome → Type 0
RefusedBy number o = o.report.number ≡ number

-- the set that the first k bytes mark
unfoldable pub marks_in : ℕ → List ℕ → Marks
marks_in k lent = map (λ b. eqb b 1) (take k lent)

-- so many rows of k marks, from the first byte on
unfoldable pub rows_in : ℕ → ℕ → List ℕ → List Marks
rows_in k zero lent = []
rows_in k (suc rows) lent = marks_in k lent ∷ rows_in k rows (drop k lent)

-- the set that a marking call leaves, and the rows that a listing leaves
unfoldable pub set_left : Problem → Outcome → Marks
set_left p o = marks_in (k p) o.lent

unfoldable pub rows_left : Problem → Outcome → List Marks
rows_left p o = rows_in (k p) o.report.rows o.lent

-- no run of the loader from a start state reaches a bad state
abbrev pub NoRunIsBad : Problem → Type 0
NoRunIsBad p = (ss : List State) → Run p ss → (s : State) → In s ss → BadState p s → ⊥

-- some candidates form a safe inductive set
abbrev pub SomeSafeInductive : Problem → Type 0
SomeSafeInductive p = (S : Marks) × SetOf p S × SafeInductive p S

-- at the first candidate where the two differ, S has it
abbrev pub Before : Marks → Marks → Type 0
Before S T = (q : ℕ) × (has S q ≡ true) × (has T q ≡ false) × ((r : ℕ) → r < q → has S r ≡ has T r)

abbrev pub BeforeAll : Marks → List Marks → Type 0
BeforeAll S [] = Unit {0}
BeforeAll S (T ∷ Ts) = Before S T × BeforeAll S Ts

-- each row comes before all later ones
abbrev pub Ordered : List Marks → Type 0
Ordered [] = Unit {0}
Ordered (S ∷ Ts) = BeforeAll S Ts × Ordered Ts

-- no set stands in two places
abbrev pub EachOnce : List Marks → Type 0
EachOnce [] = Unit {0}
EachOnce (S ∷ Ts) = (In S Ts → ⊥) × EachOnce Ts

-- every minimal safe inductive set, each once, ordered so that at the first candidate where two differ, the one with it comes first
pub record Complete (p : Problem) (rows : List Marks) : Type 0 where
  pub minimal : (S : Marks) → In S rows → Minimal p S
  pub every : (S : Marks) → Minimal p S → In S rows
  pub once : EachOnce rows
  pub ordered : Ordered rows

-- the counted decisions of a call for the single set, or for the listing
unfoldable pub one_count : Problem → ℕ
one_count p = (one (asked p) (k p)).count

unfoldable pub list_count : Problem → ℕ
list_count p = (listing (asked p) (k p)).count

-- 1. Each call ends with an answer or a numbered refusal, asks no prior check of its caller, and both the answer and the lent bytes after
-- it are fixed by document 01, refusals too.
abbrev pub FixedBy : Program → Program → Type 0
FixedBy call P = (file : List ℕ) (budget : ℕ) (lent : List ℕ) → P file budget lent ≡ call file budget lent

pub record Demand1 (t : Trimmer) : Type 0 where
  pub check : FixedBy check_call t.check
  pub largest : FixedBy largest_call t.largest
  pub one : FixedBy one_call t.one
  pub list : FixedBy list_call t.list

-- the largest set is the one inductive set containing all others
abbrev pub IsLargest : Problem → Marks → Type 0
IsLargest p L = SetOf p L × Inductive p L × ((S : Marks) → SetOf p S → Inductive p S → Part S L)

-- 2. By the published definitions of initiation, induction and safety ..
pub record Demand2 (t : Trimmer) : Type 0 where
  -- .. the largest set is the one inductive set containing all others.
  pub largest : (file : List ℕ) (p : Problem) (budget : ℕ) (lent : List ℕ) → read file ≡ accepted p
      → Answered (t.largest file budget lent) → IsLargest p (set_left p (t.largest file budget lent))
  -- The single set is safe and inductive, and no proper part of it is safe and inductive ..
  pub minimal : (file : List ℕ) (p : Problem) (budget : ℕ) (lent : List ℕ) → read file ≡ accepted p
      → Answered (t.one file budget lent) → Minimal p (set_left p (t.one file budget lent))
  -- .. so no run of the loader from a start state reaches a bad state.
  pub no_run : (file : List ℕ) (p : Problem) (budget : ℕ) (lent : List ℕ) → read file ≡ accepted p
      → Answered (t.one file budget lent) → NoRunIsBad p
  -- On an accepted file, when the budget suffices, a call for the single set with room for its marks is refused exactly if no subset of
  -- the candidates would do.
  pub refused : (file : List ℕ) (p : Problem) (budget : ℕ) (lent : List ℕ) → read file ≡ accepted p
      → one_count p ≤ budget → k p ≤ length lent
      → (Answered (t.one file budget lent) → ⊥) ↔ (SomeSafeInductive p → ⊥)

-- the rows are the first of the complete list
abbrev pub FirstRows : Problem → List Marks → Type 0
FirstRows p rows = (all_rows : List Marks) × Complete p all_rows × (rows ≡ take (length rows) all_rows)

-- the rows fit the space
abbrev pub RowsFit : Problem → ℕ → Type 0
RowsFit p space = (all_rows : List Marks) × Complete p all_rows × (length all_rows * k p ≤ space)

pub record Demand3 (t : Trimmer) : Type 0 where
  -- 3. A listing that says complete holds every minimal safe inductive set, each once, ordered ..
  pub complete : (file : List ℕ) (p : Problem) (budget : ℕ) (lent : List ℕ) → read file ≡ accepted p
      → Answered (t.list file budget lent) → Complete p (rows_left p (t.list file budget lent))
  -- the single set, where it is given, is the last row.
  pub last : (file : List ℕ) (p : Problem) (budget budget' : ℕ) (lent lent' : List ℕ) → read file ≡ accepted p
      → Answered (t.list file budget lent) → Answered (t.one file budget' lent')
      → (front : List Marks) × (rows_left p (t.list file budget lent) ≡ front ++ (set_left p (t.one file budget' lent') ∷ []))
  -- A listing stopped by budget or room holds the first rows of that same list.
  pub stopped : (file : List ℕ) (p : Problem) (budget : ℕ) (lent : List ℕ) → read file ≡ accepted p
      → RefusedBy 10 (t.list file budget lent) ⊎ RefusedBy 12 (t.list file budget lent)
      → FirstRows p (rows_left p (t.list file budget lent))
  -- On an accepted file it says complete exactly when some candidates form a safe inductive set, the counted decisions fit the budget
  -- and the rows fit the space.
  pub says_complete : (file : List ℕ) (p : Problem) (budget : ℕ) (lent : List ℕ) → read file ≡ accepted p
      → Answered (t.list file budget lent)
      ↔ (SomeSafeInductive p × (list_count p ≤ budget) × RowsFit p (length lent))

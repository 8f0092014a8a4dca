-- The three questions, and Rounds, Largest set, One set and Listing over any way to ask them. No budget stands here: each question has its
-- answer and its count, and `Calls` cuts the result by the budget and the space.
use Rattle.std.specs.Prelude.{ℕ, zero, suc, ◌+◌, Bool, true, false, not, ◌&&◌, ◌||◌, cond, List, [], ◌∷◌, ◌++◌, map, get_or, set, replicate}
use Rattle.std.proofs.Math.Option.{Option, none, some}
use Rattle.meaning.specs.Clauses.{Literal, pos, neg, Clause, negation, any, all}
use Rattle.meaning.specs.Meaning.{Problem, Marks, has, lemmas_of, k}
use Rattle.meaning.specs.Search.{Ending, can, cannot, lost, searched}

-- A question asks whether a clause list can be satisfied. Three kinds: of a set S, the initiation of d, the step of d, and the safety.
pub data Question : Type 0 where
  initiation step : ℕ → Question
  safety : Question

-- each literal of a clause, negated, as a one-literal clause
unfoldable pub denied : Clause → List Clause
denied c = map (λ l. negation l ∷ []) c

-- a literal with n added to its variable
unfoldable pub next : ℕ → Literal → Literal
next n (pos v) = pos (n + v)
next n (neg v) = neg (n + v)

unfoldable pub lemma : Problem → ℕ → Clause
lemma p d = get_or p.lemmas d []

-- initiation of d: Init, then the negation of each literal of d as a one-literal clause;
-- step of S and d: Tr, the lemmas of S by position, then the negated literals of d with n added to each variable;
-- safety of S: the lemmas of S by position, then Bad
unfoldable pub clauses : Problem → Marks → Question → List Clause
clauses p S (initiation d) = p.init ++ denied (lemma p d)
clauses p S (step d) = p.tr ++ (lemmas_of p S ++ denied (map (next p.n) (lemma p d)))
clauses p S safety = lemmas_of p S ++ p.bad

-- whether a question is satisfiable, and the decisions that it took
pub record Answer : Type 0 where
  pub sat : Bool
  pub count : ℕ

unfoldable pub answer : Ending → Answer
answer (can v d) = record { sat = true; count = d }
answer (cannot d) = record { sat = false; count = d }
answer lost = record { sat = false; count = 0 }

-- the number of variables of a problem
unfoldable pub width : Problem → ℕ
width p = p.n + p.n + p.m

-- every question of a call is asked here
unfoldable pub asked : Problem → Marks → Question → Answer
asked p S q = answer (searched (width p) (clauses p S q))

-- a set, and the decisions that it took
pub record Counted : Type 0 where
  pub marks : Marks
  pub count : ℕ

unfoldable pub plus : ℕ → Counted → Counted
plus d r = record { marks = r.marks; count = d + r.count }

-- f of each position, from q on, and its mark
unfoldable pub each : {A : Type 0} → (ℕ → Bool → A) → ℕ → Marks → List A
each f q [] = []
each f q (b ∷ S) = f q b ∷ each f (suc q) S

unfoldable pub sum : List ℕ → ℕ
sum [] = 0
sum (d ∷ ds) = d + sum ds

-- how many positions are in S
unfoldable pub size : Marks → ℕ
size [] = 0
size (true ∷ S) = suc (size S)
size (false ∷ S) = size S

-- S without the position q, and with it
unfoldable pub without : ℕ → Marks → Marks
without q S = set S q false

unfoldable pub with_position : ℕ → Marks → Marks
with_position q S = set S q true

-- S contains T
unfoldable pub contains : Marks → Marks → Bool
contains S T = all (λ b. b) (each (λ q b. not b || has S q) 0 T)

-- an answer with d decisions more
unfoldable pub counted_on : ℕ → Answer → Answer
counted_on d a = record { sat = a.sat; count = d + a.count }

unfoldable pub unless : Bool → ℕ → Answer → Answer
unless true d other = record { sat = true; count = d }
unless false d other = counted_on d other

-- the answer, or, if it is unsatisfiable, the other one after it
unfoldable pub or_then : Answer → Answer → Answer
or_then a other = unless a.sat a.count other

-- a question for each position that is in, by position from q on, up to the first satisfiable
unfoldable pub first_yes : (ℕ → Answer) → ℕ → Marks → Answer
first_yes ask_at q [] = record { sat = false; count = 0 }
first_yes ask_at q (false ∷ S) = first_yes ask_at (suc q) S
first_yes ask_at q (true ∷ S) = or_then (ask_at q) (first_yes ask_at (suc q) S)

-- A row, with the count at which it was found
pub record Row : Type 0 where
  pub marks : Marks
  pub found_at : ℕ

-- the rows that were found, in order, and the decisions of it all
pub record Rows : Type 0 where
  pub rows : List Row
  pub count : ℕ

unfoldable pub no_rows : Rows
no_rows = record { rows = []; count = 0 }

unfoldable pub later : ℕ → Row → Row
later d r = record { marks = r.marks; found_at = d + r.found_at }

-- rows found after d decisions
unfoldable pub rows_after : ℕ → Rows → Rows
rows_after d r = record { rows = map (later d) r.rows; count = d + r.count }

-- some rows, and then others
unfoldable pub and_then : Rows → Rows → Rows
and_then r s = record { rows = r.rows ++ (rows_after r.count s).rows; count = r.count + s.count }

unfoldable pub pick : Bool → ℕ → Option ℕ → Option ℕ
pick true q other = some q
pick false q other = other

-- the lowest position, from q on, that is in A and not in K
unfoldable pub lowest : ℕ → Marks → Marks → Option ℕ
lowest q [] K = none
lowest q (a ∷ A) K = pick (a && not (has K q)) q (lowest (suc q) A K)

-- the single set, if there is one, and the decisions of the call
pub record Single : Type 0 where
  pub found : Option Marks
  pub count : ℕ

-- whether the largest set is safe, the rows, and the decisions of the call
pub record Listing : Type 0 where
  pub safe : Bool
  pub rows : List Row
  pub count : ℕ

module _ (ask : Marks → Question → Answer) where
  -- the mark of d after a round: in, if it was in and its step question was not satisfiable
  unfoldable pub stays : Marks → ℕ → Bool → Bool
  stays S d b = b && not (ask S (step d)).sat

  -- the decisions of the step question of d, which is asked if d is in
  unfoldable pub step_cost : Marks → ℕ → Bool → ℕ
  step_cost S d b = cond b (ask S (step d)).count 0

  -- ask step(S, d) for every d of S by position; remove together all that are satisfiable
  unfoldable pub survivors : Marks → Marks
  survivors S = each (stays S) 0 S

  unfoldable pub round_cost : Marks → ℕ
  round_cost S = sum (each (step_cost S) 0 S)

  -- the round removes some
  unfoldable pub removes : Marks → Bool
  removes S = any (λ b. b) (each (λ d b. b && (ask S (step d)).sat) 0 S)

  unfoldable pub until_none : Bool → (Marks → Counted) → Marks → Counted
  until_none true again S = plus (round_cost S) (again (survivors S))
  until_none false again S = record { marks = S; count = round_cost S }

  unfoldable pub rounds_within : ℕ → Marks → Counted
  rounds_within zero S = record { marks = S; count = 0 }
  rounds_within (suc fuel) S = until_none (removes S) (rounds_within fuel) S

  -- Rounds of S: repeat until a round removes none (each but the last removes one at least, so there are at most size S and one)
  unfoldable pub rounds : Marks → Counted
  rounds S = rounds_within (suc (size S)) S

  -- ask initiation for every position, drop the satisfiable ones
  unfoldable pub initial : Marks → Marks
  initial S = each (λ d b. b && not (ask S (initiation d)).sat) 0 S

  unfoldable pub initial_cost : Marks → ℕ
  initial_cost S = sum (each (λ d b. cond b (ask S (initiation d)).count 0) 0 S)

  -- Largest set, of so many lemmas: ask initiation for every position, drop the satisfiable ones, then Rounds
  unfoldable pub largest : ℕ → Counted
  largest k = plus (initial_cost (replicate k true)) (rounds (initial (replicate k true)))

  -- the largest set; ask its safety
  unfoldable pub largest_safety : ℕ → Answer
  largest_safety k = counted_on (largest k).count (ask (largest k).marks safety)

  -- X is Rounds of S without q
  unfoldable pub reduced : ℕ → Marks → Counted
  reduced q S = rounds (without q S)

  -- and the safety of X, with the decisions of both
  unfoldable pub reduced_safety : ℕ → Marks → Answer
  reduced_safety q S = counted_on (reduced q S).count (ask (reduced q S).marks safety)

  unfoldable pub becomes : Bool → Marks → Marks → Marks
  becomes true S X = S
  becomes false S X = X

  unfoldable pub shrink_at : Bool → (Marks → Counted) → ℕ → Marks → Counted
  shrink_at false on q S = on S
  shrink_at true on q S =
      plus (reduced_safety q S).count (on (becomes (reduced_safety q S).sat S (reduced q S).marks))

  -- for each of the positions q and so many after it, by rising number, still in S: X is Rounds of S without q; ask safety of X; if
  -- unsatisfiable, S becomes X
  unfoldable pub shrink : ℕ → ℕ → Marks → Counted
  shrink zero q S = record { marks = S; count = 0 }
  shrink (suc more) q S = shrink_at (has S q) (shrink more (suc q)) q S

  unfoldable pub one_if : Bool → ℕ → Counted → Single
  one_if true d r = record { found = none; count = d }
  one_if false d r = record { found = some r.marks; count = d + r.count }

  -- One set: the largest set; ask its safety; satisfiable is refusal 11. Else S is that set, and shrinks
  unfoldable pub one : ℕ → Single
  one k = one_if (largest_safety k).sat (largest_safety k).count (shrink k 0 (largest k).marks)

  -- ask step(K, d) for d of K by position up to the first satisfiable, then, if none, safety of K
  unfoldable pub failing : Marks → Answer
  failing K = or_then (first_yes (λ d. ask K (step d)) 0 K) (ask K safety)

  -- Rounds of K without q and the safety of the result, read the other way round: yes where it is unsatisfiable
  unfoldable pub smaller_at : Marks → ℕ → Answer
  smaller_at K q = record { sat = not (reduced_safety q K).sat; count = (reduced_safety q K).count }

  -- for each q of K by position ask that, up to the first unsatisfiable
  unfoldable pub smaller : Marks → Answer
  smaller K = first_yes (smaller_at K) 0 K

  unfoldable pub row_unless : Bool → Marks → List Row
  row_unless true K = []
  row_unless false K = record { marks = K; found_at = 0 } ∷ []

  -- if there was none, K is the next row; the node is done
  unfoldable pub row_of : Marks → Rows
  row_of K = rows_after (smaller K).count (record { rows = row_unless (smaller K).sat K; count = 0 })

  unfoldable pub node_unless : Bool → (Marks → Marks → Rows) → Marks → Marks → Rows
  node_unless true do_node K X = no_rows
  node_unless false do_node K X = do_node K X

  -- ask the safety of X, and if that is unsatisfiable do the node (K, X)
  unfoldable pub node_if_safe : Bool → (Marks → Marks → Rows) → Marks → Marks → Rows
  node_if_safe false do_node K X = no_rows
  node_if_safe true do_node K X = rows_after (ask X safety).count (node_unless (ask X safety).sat do_node K X)

  -- X is Rounds of A without q; if X contains K, ask its safety, and if that is unsatisfiable do the node (K, X)
  unfoldable pub exclude : ℕ → (Marks → Marks → Rows) → Marks → Marks → Rows
  exclude q do_node K A =
      rows_after (reduced q A).count
      (node_if_safe (contains (reduced q A).marks K) do_node K (reduced q A).marks)

  -- q is the lowest position in A and not in K: do the node (K with q, A), then the other
  unfoldable pub branch : Option ℕ → (Marks → Marks → Rows) → Marks → Marks → Rows
  branch none do_node K A = no_rows
  branch (some q) do_node K A = and_then (do_node (with_position q K) A) (exclude q do_node K A)

  unfoldable pub node_at : Bool → (Marks → Marks → Rows) → Marks → Marks → Rows
  node_at false do_node K A = row_of K
  node_at true do_node K A = branch (lowest 0 A K) do_node K A

  -- A node (K, A): the questions of K; if all are unsatisfiable, perhaps a row; otherwise the two nodes below. Each of those has one
  -- position less in A and not in K, which the fuel counts
  unfoldable pub node : ℕ → Marks → Marks → Rows
  node zero K A = no_rows
  node (suc fuel) K A = rows_after (failing K).count (node_at (failing K).sat (node fuel) K A)

  unfoldable pub list_if : Bool → ℕ → Rows → Listing
  list_if true d r = record { safe = false; rows = []; count = d }
  list_if false d r = record { safe = true; rows = (rows_after d r).rows; count = d + r.count }

  -- Listing: the largest set and its safety as above, then the node (empty, largest set)
  unfoldable pub listing : ℕ → Listing
  listing k =
      list_if (largest_safety k).sat (largest_safety k).count
      (node (suc (size (largest k).marks)) (replicate k false) (largest k).marks)

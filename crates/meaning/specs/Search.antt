-- The search with its count of decisions: rules (a) to (d), at a partial setting.
use Rattle.std.specs.Prelude.{ℕ, zero, suc, ◌+◌, Bool, true, false, not, List, [], ◌∷◌, get_or, set, replicate}
use Rattle.std.proofs.Math.Option.{Option, none, some}
use Rattle.meaning.specs.Clauses.{Literal, pos, neg, Clause, negation, any, all}

-- A partial setting: by variable number (0 stands idle), a value, or none where the variable is unset
abbrev pub Setting : Type 0
Setting = List (Option Bool)

-- the setting in which 0..n are all unset
unfoldable pub blank : ℕ → Setting
blank n = replicate (suc n) none

unfoldable pub flipped : Option Bool → Option Bool
flipped none = none
flipped (some b) = some (not b)

-- the value of a literal at a setting
unfoldable pub value : Setting → Literal → Option Bool
value v (pos x) = get_or v x none
value v (neg x) = flipped (get_or v x none)

-- the setting with a literal set true
unfoldable pub with_literal : Setting → Literal → Setting
with_literal v (pos x) = set v x (some true)
with_literal v (neg x) = set v x (some false)

unfoldable pub says_true : Option Bool → Bool
says_true (some true) = true
says_true (some false) = false
says_true none = false

unfoldable pub says_false : Option Bool → Bool
says_false (some true) = false
says_false (some false) = true
says_false none = false

-- the clause has a true literal
unfoldable pub has_true : Setting → Clause → Bool
has_true v c = any (λ l. says_true (value v l)) c

-- the clause has only false literals
unfoldable pub only_false : Setting → Clause → Bool
only_false v c = all (λ l. says_false (value v l)) c

unfoldable pub keep_unset : Option Bool → Literal → List Literal → List Literal
keep_unset none l ls = l ∷ ls
keep_unset (some b) l ls = ls

-- what stands at the places of the clause that hold an unset literal, place by place
unfoldable pub unset_places : Setting → Clause → List Literal
unset_places v [] = []
unset_places v (l ∷ c) = keep_unset (value v l) l (unset_places v c)

unfoldable pub only_place : Bool → List Literal → Option Literal
only_place true ls = none
only_place false [] = none
only_place false (l ∷ []) = some l
only_place false (l ∷ l' ∷ ls) = none

-- the literal of a clause with no true literal and exactly one place holding an unset literal
unfoldable pub forced_by : Setting → Clause → Option Literal
forced_by v c = only_place (has_true v c) (unset_places v c)

unfoldable pub first_place : Bool → List Literal → Option Literal
first_place true ls = none
first_place false [] = none
first_place false (l ∷ ls) = some l

-- the first unset literal of a clause without a true one
unfoldable pub open_in : Setting → Clause → Option Literal
open_in v c = first_place (has_true v c) (unset_places v c)

unfoldable pub or_else : Option Literal → Option Literal → Option Literal
or_else (some l) other = some l
or_else none other = other

-- what the test finds in the first clause where it finds something
unfoldable pub first_of : (Clause → Option Literal) → List Clause → Option Literal
first_of find [] = none
first_of find (c ∷ cs) = or_else (find c) (first_of find cs)

pub data Move : Type 0 where
  closed satisfied : Move
  force try : Literal → Move

-- rule (d): else the first unset literal of the first clause without a true one (there is one where (a) and (b) do not serve)
unfoldable pub rule_d : Option Literal → Move
rule_d (some l) = try l
rule_d none = closed

-- rule (c): else the first clause with no true literal and exactly one place holding an unset literal
unfoldable pub rule_c : Option Literal → Move → Move
rule_c (some l) other = force l
rule_c none other = other

-- rule (b): else every clause has a true literal
unfoldable pub rule_b : Bool → Move → Move
rule_b true other = satisfied
rule_b false other = other

-- rule (a): some clause has only false literals
unfoldable pub rule_a : Bool → Move → Move
rule_a true other = closed
rule_a false other = other

-- what the rules do at a setting
unfoldable pub move : List Clause → Setting → Move
move cs v =
    rule_a (any (only_false v) cs)
    (rule_b (all (has_true v) cs)
    (rule_c (first_of (forced_by v) cs)
    (rule_d (first_of (open_in v) cs))))

-- How a search ends: satisfiable, with the setting it ended with and the decisions counted; unsatisfiable, with the
-- decisions counted; or lost, where its fuel is used up (`laws` shows that this is never so).
pub data Ending : Type 0 where
  can : Setting → ℕ → Ending
  cannot : ℕ → Ending
  lost : Ending

-- an ending after some decisions more
unfoldable pub after : ℕ → Ending → Ending
after d (can v e) = can v (d + e)
after d (cannot e) = cannot (d + e)
after d lost = lost

-- The try of l true has ended so. If that branch closed, try it false, from the setting as it stood before. Each try is one decision.
unfoldable pub then_false : (Setting → Ending) → Setting → Literal → Ending → Ending
then_false again v l (can w d) = can w (1 + d)
then_false again v l (cannot d) = after (2 + d) (again (with_literal v (negation l)))
then_false again v l lost = lost

-- one move at the setting v; `again` is the search from another setting
unfoldable pub follow : (Setting → Ending) → Setting → Move → Ending
follow again v closed = cannot 0
follow again v satisfied = can v 0
follow again v (force l) = again (with_literal v l)
follow again v (try l) = then_false again v l (again (with_literal v l))

-- the search of a clause list from a setting, with fuel for so many literals set
unfoldable pub search_from : ℕ → List Clause → Setting → Ending
search_from zero cs v = follow (λ w. lost) v (move cs v)
search_from (suc fuel) cs v = follow (search_from fuel cs) v (move cs v)

-- the search of a clause list over the variables 1..n
unfoldable pub searched : ℕ → List Clause → Ending
searched n cs = search_from (suc n) cs (blank n)

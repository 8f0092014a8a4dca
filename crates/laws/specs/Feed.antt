-- A listing as it is done, row by row: what stands after each row or count, and that this is the listing cut by budget and space.
use Rattle.std.specs.Prelude.{ℕ, suc, ◌+◌, ◌*◌, ◌<◌, ◌≡◌, refl, Bool, true, false, cond, List, [], ◌∷◌, ◌++◌, map, length, ltb}
use Rattle.std.proofs.Common.{ap, arith, add_assoc, lt-ltb, ltb-true}
use Rattle.meaning.specs.Rules.{Row, Rows, later, rows_after, and_then, no_rows}
use Rattle.meaning.specs.Calls.{Outcome, refusal, answered, written, row_or_stop, cut, listed}

-- rows written, decisions used and the lent bytes so far; or how the call ended
pub data Progress : Type 0 where
  going : ℕ → ℕ → List ℕ → Progress
  stopped : Outcome → Progress

unfoldable pub stop_or : Bool → Bool → Outcome → Outcome → Progress → Progress
stop_or true full spent room on = stopped spent
stop_or false true spent room on = stopped room
stop_or false false spent room on = on

-- d decisions more
unfoldable pub advance : ℕ → ℕ → Progress → Progress
advance budget d (going r used lent) =
    cond (ltb budget (used + d)) (stopped (refusal 10 0 budget r lent)) (going r (used + d) lent)
advance budget d (stopped o) = stopped o

-- rows found after `used` decisions, and the count of them all
unfoldable pub feed_rows : ℕ → ℕ → ℕ → List Row → ℕ → ℕ → List ℕ → Progress
feed_rows k budget used [] count r lent = advance budget count (going r used lent)
feed_rows k budget used (row ∷ rest) count r lent =
    stop_or (ltb budget (used + row.found_at)) (ltb (length lent) (r * k + k))
    (refusal 10 0 budget r lent)
    (refusal 12 0 (used + row.found_at) r lent)
    (feed_rows k budget used rest count (suc r) (written (r * k) row.marks lent))

unfoldable pub feed : ℕ → ℕ → Rows → Progress → Progress
feed k budget R (going r used lent) = feed_rows k budget used R.rows R.count r lent
feed k budget R (stopped o) = stopped o

unfoldable pub finish : Progress → Outcome
finish (going r used lent) = answered used r lent
finish (stopped o) = o

-- the listing cut by budget and space is what is left when its rows were fed
pub cut_is_feed : (k budget used : ℕ) (rows : List Row) (count r : ℕ) (lent : List ℕ)
    → cut k budget r (map (later used) rows) (used + count) lent ≡ finish (feed_rows k budget used rows count r lent)
unfolding cut feed_rows advance finish later row_or_stop stop_or
cut_is_feed k budget used [] count r lent = go (ltb budget (used + count))
  where
    go : (b : Bool) → cond b (refusal 10 0 budget r lent) (answered (used + count) r lent)
        ≡ finish (cond b (stopped (refusal 10 0 budget r lent)) (going r (used + count) lent))
    go true = refl
    go false = refl
cut_is_feed k budget used (row ∷ rest) count r lent =
    go (ltb budget (used + row.found_at)) (ltb (length lent) (r * k + k)) _ _
    (cut_is_feed k budget used rest count (suc r) (written (r * k) row.marks lent))
  where
    spent : Outcome
    spent = refusal 10 0 budget r lent

    room : Outcome
    room = refusal 12 0 (used + row.found_at) r lent

    go : (over full : Bool) (o : Outcome) (u : Progress) → o ≡ finish u
        → row_or_stop over full spent room o ≡ finish (stop_or over full spent room u)
    go true full o u e = refl
    go false true o u e = refl
    go false false o u e = e

-- past the budget nothing is done
over_stops : (k budget used d : ℕ) (rows : List Row) (count r : ℕ) (lent : List ℕ) → budget < used + d
    → feed_rows k budget used (map (later d) rows) (d + count) r lent ≡ stopped (refusal 10 0 budget r lent)
unfolding feed_rows advance later stop_or
over_stops k budget used d [] count r lent h = rw (lt-ltb budget (used + (d + count)) (omega arith))
over_stops k budget used d (row ∷ rest) count r lent h = rw (lt-ltb budget (used + (d + row.found_at)) (omega arith))

moved_on : (k budget used d : ℕ) (rows : List Row) (count r : ℕ) (lent : List ℕ)
    → feed_rows k budget used (map (later d) rows) (d + count) r lent ≡ feed_rows k budget (used + d) rows count r lent
unfolding feed_rows advance later
moved_on k budget used d [] count r lent = rw (add_assoc used d count)
moved_on k budget used d (row ∷ rest) count r lent =
    rw (add_assoc used d row.found_at)
    (ap (stop_or (ltb budget (used + (d + row.found_at))) (ltb (length lent) (r * k + k)) (refusal 10 0 budget r lent) (refusal 12 0 (used + (d + row.found_at)) r lent))
    (moved_on k budget used d rest count (suc r) (written (r * k) row.marks lent)))

-- rows after d decisions more
pub feed_after : (k budget d : ℕ) (R : Rows) (u : Progress) → feed k budget (rows_after d R) u ≡ feed k budget R (advance budget d u)
unfolding feed rows_after advance
feed_after k budget d R (stopped o) = refl
feed_after k budget d R (going r used lent) = go (ltb budget (used + d)) refl
  where
    go : (b : Bool) → ltb budget (used + d) ≡ b
        → feed_rows k budget used (map (later d) R.rows) (d + R.count) r lent
        ≡ feed k budget R (cond b (stopped (refusal 10 0 budget r lent)) (going r (used + d) lent))
    go true t = over_stops k budget used d R.rows R.count r lent (ltb-true budget (used + d) t)
    go false t = moved_on k budget used d R.rows R.count r lent

-- some rows, and then others
rows_then : (k budget used : ℕ) (rows : List Row) (count : ℕ) (S : Rows) (r : ℕ) (lent : List ℕ)
    → feed_rows k budget used (rows ++ (rows_after count S).rows) (count + S.count) r lent
    ≡ feed k budget S (feed_rows k budget used rows count r lent)
unfolding feed_rows feed rows_after stop_or
rows_then k budget used [] count S r lent = feed_after k budget count S (going r used lent)
rows_then k budget used (row ∷ rest) count S r lent =
    go (ltb budget (used + row.found_at)) (ltb (length lent) (r * k + k)) _ _
    (rows_then k budget used rest count S (suc r) (written (r * k) row.marks lent))
  where
    spent : Outcome
    spent = refusal 10 0 budget r lent

    room : Outcome
    room = refusal 12 0 (used + row.found_at) r lent

    go : (over full : Bool) (u v : Progress) → u ≡ feed k budget S v
        → stop_or over full spent room u ≡ feed k budget S (stop_or over full spent room v)
    go true full u v e = refl
    go false true u v e = refl
    go false false u v e = e

pub feed_then : (k budget : ℕ) (R S : Rows) (u : Progress) → feed k budget (and_then R S) u ≡ feed k budget S (feed k budget R u)
unfolding feed and_then
feed_then k budget R S (stopped o) = refl
feed_then k budget R S (going r used lent) = rows_then k budget used R.rows R.count S r lent

pub feed_none : (k budget : ℕ) (u : Progress) → feed k budget no_rows u ≡ advance budget 0 u
unfolding feed no_rows feed_rows advance
feed_none k budget (going r used lent) = refl
feed_none k budget (stopped o) = refl

-- a count over the budget stops the call before any row
pub feed_over : (k budget : ℕ) (R : Rows) (r used : ℕ) (lent : List ℕ) → budget < used
    → feed k budget R (going r used lent) ≡ stopped (refusal 10 0 budget r lent)
unfolding feed feed_rows advance stop_or
feed_over k budget R r used lent h = go R.rows R.count
  where
    go : (rows : List Row) (count : ℕ) → feed_rows k budget used rows count r lent ≡ stopped (refusal 10 0 budget r lent)
    go [] count = rw (lt-ltb budget (used + count) (omega arith))
    go (row ∷ rest) count = rw (lt-ltb budget (used + row.found_at) (omega arith))

-- the listing of a call: refused by 10 or 11 where the largest set isn't safe, and else the rows of its first node, fed
pub listed_unsafe : (k budget d : ℕ) (lent : List ℕ)
    → listed k budget (record { safe = false; rows = []; count = d }) lent
    ≡ cond (ltb budget d) (refusal 10 0 budget 0 lent) (refusal 11 0 d 0 lent)
unfolding listed
listed_unsafe k budget d lent = refl

pub listed_safe : (k budget d : ℕ) (R : Rows) (lent : List ℕ)
    → listed k budget (record { safe = true; rows = (rows_after d R).rows; count = d + R.count }) lent
    ≡ finish (feed k budget R (going 0 d lent))
unfolding listed feed rows_after
listed_safe k budget d R lent = cut_is_feed k budget d R.rows R.count 0 lent

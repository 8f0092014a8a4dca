-- Every row of a listing was found at or before its count.
use Prim.Native.Nat.{ℕ, zero, suc, ◌+◌, ◌≤◌}
use Rattle.std.specs.Prelude.{Bool, List, [], ◌∷◌, ◌++◌, map, replicate}
use Rattle.std.proofs.Math.Bool.{true, false}
use Rattle.std.proofs.Math.Option.{Option, none, some}
use native.Mathlib.Omega.{arith}
use Rattle.std.proofs.Common.{le_trans}
use Rattle.meaning.specs.Meaning.{Marks}
use Rattle.meaning.specs.Rules.{Question, Answer, safety, Row, Rows, no_rows, later, rows_after, and_then, smaller, reduced, contains, failing, row_unless, row_of, node_unless, node_if_safe, exclude, branch, node_at, node, list_if, listing, largest_safety, largest, with_position, lowest, size}
use Rattle.laws.specs.Budget.{AllFound}

found_later : (d c : ℕ) (rows : List Row) → AllFound c rows → AllFound (d + c) (map (later d) rows)
unfolding later
found_later d c [] h = tt
found_later d c (r ∷ rs) h = (omega (arith, h.0), found_later d c rs h.1)

found_weaker : {c d : ℕ} (rows : List Row) → c ≤ d → AllFound c rows → AllFound d rows
found_weaker [] le h = tt
found_weaker (r ∷ rs) le h = (le_trans h.0 le, found_weaker rs le h.1)

found_append : (c : ℕ) (rows rows' : List Row) → AllFound c rows → AllFound c rows' → AllFound c (rows ++ rows')
found_append c [] rows' h h' = h'
found_append c (r ∷ rs) rows' h h' = (h.0, found_append c rs rows' h.1 h')

-- every row was found at or before the count of it all
abbrev Found : Rows → Type 0
Found r = AllFound r.count r.rows

after_found : (d : ℕ) (r : Rows) → Found r → Found (rows_after d r)
unfolding rows_after
after_found d r h = found_later d r.count r.rows h

then_found : (r s : Rows) → Found r → Found s → Found (and_then r s)
unfolding and_then rows_after
then_found r s h h' =
    found_append (r.count + s.count) r.rows (map (later r.count) s.rows)
    (found_weaker r.rows (omega arith) h)
    (found_later r.count s.count s.rows h')

none_found : Found no_rows
unfolding no_rows
none_found = tt

module _ (ask : Marks → Question → Answer) where
  row_found : (K : Marks) → Found (row_of ask K)
  unfolding row_of row_unless
  row_found K = after_found (smaller ask K).count _ (go (smaller ask K).sat)
    where
      go : (b : Bool) → AllFound 0 (row_unless ask b K)
      go true = tt
      go false = (omega arith, tt)

  module _ (do_node : Marks → Marks → Rows) (done : (K A : Marks) → Found (do_node K A)) where
    unless_found : (b : Bool) (K X : Marks) → Found (node_unless ask b do_node K X)
    unfolding node_unless
    unless_found true K X = none_found
    unless_found false K X = done K X

    safe_found : (b : Bool) (K X : Marks) → Found (node_if_safe ask b do_node K X)
    unfolding node_if_safe
    safe_found false K X = none_found
    safe_found true K X = after_found (ask X safety).count _ (unless_found (ask X safety).sat K X)

    branch_found : (o : Option ℕ) (K A : Marks) → Found (branch ask o do_node K A)
    unfolding branch exclude
    branch_found none K A = none_found
    branch_found (some q) K A =
        then_found (do_node (with_position q K) A) _ (done (with_position q K) A)
        (after_found (reduced ask q A).count _
        (safe_found (contains (reduced ask q A).marks K) K (reduced ask q A).marks))

    at_found : (b : Bool) (K A : Marks) → Found (node_at ask b do_node K A)
    unfolding node_at
    at_found false K A = row_found K
    at_found true K A = branch_found (lowest 0 A K) K A

  node_found : (fuel : ℕ) (K A : Marks) → Found (node ask fuel K A)
  unfolding node
  node_found zero K A = none_found
  node_found (suc fuel) K A =
      after_found (failing ask K).count _
      (at_found (node ask fuel) (λ K' A'. node_found fuel K' A') (failing ask K).sat K A)

  pub listing_found : (k : ℕ) → AllFound (listing ask k).count (listing ask k).rows
  unfolding listing list_if rows_after
  listing_found k = go (largest_safety ask k).sat
    where
      nodes : Rows
      nodes = node ask (suc (size (largest ask k).marks)) (replicate k false) (largest ask k).marks

      go : (b : Bool)
          → AllFound (list_if ask b (largest_safety ask k).count nodes).count (list_if ask b (largest_safety ask k).count nodes).rows
      go true = tt
      go false = after_found (largest_safety ask k).count nodes (node_found (suc (size (largest ask k).marks)) (replicate k false) (largest ask k).marks)

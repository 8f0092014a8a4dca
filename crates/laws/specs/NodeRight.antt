-- A node (K, A) of the listing gives the least safe inductive sets between K and A, in order.
use Prim.Native.Nat.{ℕ, zero, suc, ◌+◌, ◌<◌}
use Rattle.std.specs.Prelude.{◌≡◌, ◌⊎◌, Bool, length}
use Rattle.std.proofs.Math.Path.{refl, sym, subst}
use Rattle.std.proofs.Common.{◌∙◌, inl, inr, arith}
use Rattle.std.proofs.Math.Bool.{true, false}
use Rattle.std.proofs.Math.Option.{Option, none, some}
use mathlib.Core.List.{List, [], ◌∷◌, ◌++◌, map, map-map, map-append}
use Rattle.std.proofs.Math.ListN.{length-set}
use Rattle.meaning.specs.Meaning.{Marks, has, Part}
use Rattle.meaning.specs.Demands.{In, Before, Ordered}
use Rattle.meaning.specs.Rules.{Question, safety, Answer, size, with_position, contains}
use Rattle.meaning.specs.Rules.{Row, Rows, no_rows, later, rows_after, and_then, lowest, reduced, failing, smaller}
use Rattle.meaning.specs.Rules.{row_unless, row_of, node_unless, node_if_safe, exclude, branch, node_at, node}
use Rattle.laws.specs.Basics.{bool_cases, not_both}
use Rattle.laws.specs.Basics.{in_append_left, in_append_right, in_append_cases}
use Rattle.laws.specs.Sets.{has_range, has_with, part_trans, part_lacks, part_with, with_part}
use Rattle.laws.specs.Sets.{equal_by_parts, contains_part, part_contains, size_part, size_proper, Lowest, lowest_is}
use Rattle.laws.specs.RowOrder.{ordered_append}
use Rattle.laws.specs.RoundsLargest.{Closed, SafeSet, Ind, Least, Monotone, initial_inherited}
use Rattle.laws.specs.RoundsLargest.{reduced_part, reduced_lacks, reduced_ind, reduced_contains}
use Rattle.laws.specs.NodeQuestions.{not_failing, never_failing, some_smaller, no_smaller}

-- the sets of rows, without their counts

abbrev pub sets_of : List Row → List Marks
sets_of rows = map (λ r. r.marks) rows

pub sets_later : (d : ℕ) (rows : List Row) → sets_of (map (later d) rows) ≡ sets_of rows
unfolding later
sets_later d rows = map-map (λ r. r.marks) (later d) rows

-- M is a least set between K and A
abbrev pub Between : (Marks → Question → Answer) → ℕ → Marks → Marks → Marks → Type 0
Between ask k K A M = Least ask k M × Part K M × Part M A

-- the list holds the least sets between K and A, in order
pub record Exactly (ask : Marks → Question → Answer) (k : ℕ) (K A : Marks) (l : List Marks) : Type 0 where
  pub only : (M : Marks) → In M l → Between ask k K A M
  pub every : (M : Marks) → Between ask k K A M → In M l
  pub ordered : Ordered l

-- what a node (K, A) is begun with
pub record Begun (ask : Marks → Question → Answer) (k : ℕ) (K A : Marks) : Type 0 where
  pub part : Part K A
  pub positions : length K ≡ k
  pub ind : Ind ask k A
  pub safe : SafeSet ask A

-- the rows of a node (K, A) are right
abbrev pub Right : (Marks → Question → Answer) → ℕ → Marks → Marks → Rows → Type 0
Right ask k K A r = Exactly ask k K A (sets_of r.rows)

-- so with this fuel, wherever it exceeds the positions in A and not in K
abbrev pub NodesRight : (Marks → Question → Answer) → ℕ → ℕ → Type 0
NodesRight ask k fuel = (K A : Marks) → Begun ask k K A → size A < fuel + size K → Right ask k K A (node ask fuel K A)

module _ (ask : Marks → Question → Answer) (k : ℕ) where
  -- a least set above a safe inductive one is that one
  least_above : (K M : Marks) → Ind ask k K → SafeSet ask K → Least ask k M → Part K M → M ≡ K
  least_above K M i safe least f =
      equal_by_parts M K (least.0.0 ∙ sym i.0) (λ q h. at q h (bool_cases (has K q))) f
    where
      at : (q : ℕ) → has M q ≡ true → (has K q ≡ true) ⊎ (has K q ≡ false) → has K q ≡ true
      at q h (inl e) = e
      at q h (inr e) = absurd (least.2 K i.0 (f, (q, h, e)) i safe)

  pub exactly_none : (K A : Marks) → ((M : Marks) → Between ask k K A M → ⊥) → Exactly ask k K A []
  exactly_none K A none_between = record { only = λ M h. absurd h; every = λ M m. none_between M m; ordered = tt }

  exactly_one : (K A S : Marks) → Between ask k K A S → ((M : Marks) → Between ask k K A M → M ≡ S) → Exactly ask k K A (S ∷ [])
  exactly_one K A S between same = record { only = only_it; every = λ M m. inl (same M m); ordered = (tt, tt) }
    where
      only_it : (M : Marks) → In M (S ∷ []) → Between ask k K A M
      only_it M (inl e) = subst (λ (X : Marks). Between ask k K A X) (sym e) between
      only_it M (inr h) = absurd h

  pub right_after : (K A : Marks) (d : ℕ) (r : Rows) → Right ask k K A r → Right ask k K A (rows_after d r)
  unfolding rows_after
  right_after K A d r h = subst (λ (l : List Marks). Exactly ask k K A l) (sym (sets_later d r.rows)) h

module _ (ask : Marks → Question → Answer) (mono : Monotone ask) (k : ℕ) where
  -- K is safe and inductive: it is the row, unless there is a smaller set
  row_right : (K A : Marks) → Ind ask k K → SafeSet ask K → Part K A → Right ask k K A (row_of ask K)
  unfolding row_of row_unless
  row_right K A i safe f =
      right_after ask k K A (smaller ask K).count (record { rows = row_unless ask (smaller ask K).sat K; count = 0 })
      (by_smaller (smaller ask K).sat refl)
    where
      by_smaller : (b : Bool) → (smaller ask K).sat ≡ b → Exactly ask k K A (sets_of (row_unless ask b K))
      by_smaller true e =
          exactly_none ask k K A
          (λ M m. some_smaller ask k K i e (subst (λ (X : Marks). Least ask k X) (least_above ask k K M i safe m.0 m.1) m.0))
      by_smaller false e =
          exactly_one ask k K A K (no_smaller ask mono k K i safe e, λ q h. h, f) (λ M m. least_above ask k K M i safe m.0 m.1)

  -- q is the lowest in A and not in K: the least sets between K with q and A, then those between K and Rounds of A without q
  module _ (q : ℕ) (K A : Marks) (begun : Begun ask k K A) (found : Lowest A K (some q)) where
    in_range : q < length K
    in_range = omega (arith, has_range A q found.0, begun.ind.0, begun.positions)

    -- two sets between K and A agree on what is lower
    agree : (S T : Marks) → Between ask k K A S → Between ask k K A T → (r : ℕ) → r < q → has S r ≡ has T r
    agree S T s t r l = by_mark (bool_cases (has A r))
      where
        by_mark : (has A r ≡ true) ⊎ (has A r ≡ false) → has S r ≡ has T r
        by_mark (inl h) = let low : has K r ≡ true = found.2 r l h in s.1 r low ∙ sym (t.1 r low)
        by_mark (inr h) = part_lacks S A s.2 r h ∙ sym (part_lacks T A t.2 r h)

    both_right : (l m : List Marks) → Exactly ask k (with_position q K) A l
        → Exactly ask k K (reduced ask q A).marks m → Exactly ask k K A (l ++ m)
    both_right l m with_q without_q = record {
      only = λ M h. only_between M (in_append_cases M l m h);
      every = λ M t. by_mark M t (bool_cases (has M q));
      ordered = ordered_append l m with_q.ordered without_q.ordered in_order;
    }
      where
        X : Marks
        X = (reduced ask q A).marks

        K' : Marks
        K' = with_position q K

        from_left : (M : Marks) → In M l → Between ask k K A M
        from_left M h = let t = with_q.only M h in (t.0, part_trans K K' M (part_with K q) t.1, t.2)

        from_right : (M : Marks) → In M m → Between ask k K A M
        from_right M h = let t = without_q.only M h in (t.0, t.1, part_trans M X A t.2 (reduced_part ask q A))

        only_between : (M : Marks) → In M l ⊎ In M m → Between ask k K A M
        only_between M (inl h) = from_left M h
        only_between M (inr h) = from_right M h

        by_mark : (M : Marks) → Between ask k K A M → (has M q ≡ true) ⊎ (has M q ≡ false) → In M (l ++ m)
        by_mark M t (inl h) = in_append_left M l m (with_q.every M (t.0, with_part K M q t.1 h, t.2))
        by_mark M t (inr h) =
            in_append_right M l m (without_q.every M (t.0, t.1, reduced_contains ask mono q A M t.2 h t.0.0.2))

        in_order : (S T : Marks) → In S l → In T m → Before S T
        in_order S T hs ht = (
          q,
          (with_q.only S hs).1 q (has_with K q in_range),
          part_lacks T X (without_q.only T ht).2 q (reduced_lacks ask q A),
          agree S T (from_left S hs) (from_right T ht),
        )

    include_begun : Begun ask k (with_position q K) A
    unfolding with_position
    include_begun = record {
      part = with_part K A q begun.part found.0;
      positions = length-set K q true ∙ begun.positions;
      ind = begun.ind;
      safe = begun.safe;
    }

    include_larger : size K < size (with_position q K)
    include_larger = size_proper K (with_position q K) (part_with K q) q (has_with K q in_range) found.1

    exclude_smaller : size (reduced ask q A).marks < size A
    exclude_smaller =
        size_proper (reduced ask q A).marks A (reduced_part ask q A) q found.0 (reduced_lacks ask q A)

    exclude_right : (do_node : Marks → Marks → Rows)
        → (Begun ask k K (reduced ask q A).marks → Right ask k K (reduced ask q A).marks (do_node K (reduced ask q A).marks))
        → Right ask k K (reduced ask q A).marks (exclude ask q do_node K A)
    unfolding exclude node_if_safe node_unless no_rows
    exclude_right do_node done =
        right_after ask k K X (reduced ask q A).count (node_if_safe ask (contains X K) do_node K X) (by_part (contains X K) refl)
      where
        X : Marks
        X = (reduced ask q A).marks

        by_safety : (b : Bool) → (ask X safety).sat ≡ b → Part K X → Right ask k K X (node_unless ask b do_node K X)
        by_safety true e f = exactly_none ask k K X (λ M m. not_both e (mono.mono_safety M X m.2 m.0.1))
        by_safety false e f = done (record {
          part = f;
          positions = begun.positions;
          ind = reduced_ind ask k q A begun.ind;
          safe = e;
        })

        by_part : (b : Bool) → contains X K ≡ b → Right ask k K X (node_if_safe ask b do_node K X)
        by_part false e = exactly_none ask k K X (λ M m. not_both (part_contains X K (part_trans K M X m.1 m.2)) e)
        by_part true e =
            right_after ask k K X (ask X safety).count (node_unless ask (ask X safety).sat do_node K X)
            (by_safety (ask X safety).sat refl (contains_part X K e))

    joined_right : (r s : Rows) → Right ask k (with_position q K) A r → Right ask k K (reduced ask q A).marks s
        → Right ask k K A (and_then r s)
    unfolding and_then
    joined_right r s with_q without_q =
        subst (λ (l : List Marks). Exactly ask k K A l)
        (sym (map-append (λ x. x.marks) r.rows (rows_after r.count s).rows))
        (both_right (sets_of r.rows) (sets_of (rows_after r.count s).rows) with_q
        (right_after ask k K (reduced ask q A).marks r.count s without_q))

  branch_right : (fuel : ℕ) → NodesRight ask k fuel → (K A : Marks) → Begun ask k K A → size A < suc fuel + size K
      → (failing ask K).sat ≡ true → (o : Option ℕ) → Lowest A K o → Right ask k K A (branch ask o (node ask fuel) K A)
  unfolding branch
  branch_right fuel below K A begun enough fails none all_in =
      absurd (never_failing ask K (subst (λ (X : Marks). Closed ask X) same begun.ind.2)
      (subst (λ (X : Marks). SafeSet ask X) same begun.safe) fails)
    where
      same : A ≡ K
      same = equal_by_parts A K (begun.ind.0 ∙ sym begun.positions) all_in begun.part
  branch_right fuel below K A begun enough fails (some q) found =
      joined_right q K A begun found (node ask fuel (with_position q K) A) (exclude ask q (node ask fuel) K A)
      (below (with_position q K) A (include_begun q K A begun found) (omega (arith, include_larger q K A begun found)))
      (exclude_right q K A begun found (node ask fuel)
      (λ x. below K (reduced ask q A).marks x (omega (arith, exclude_smaller q K A begun found))))

  pub node_right : (fuel : ℕ) → NodesRight ask k fuel
  unfolding node node_at
  node_right zero K A begun enough = absurd (omega (arith, size_part K A begun.part))
  node_right (suc fuel) K A begun enough =
      right_after ask k K A (failing ask K).count (node_at ask (failing ask K).sat (node ask fuel) K A)
      (by_questions (failing ask K).sat refl (node_right fuel))
    where
      by_questions : (b : Bool) → (failing ask K).sat ≡ b → NodesRight ask k fuel
          → Right ask k K A (node_at ask b (node ask fuel) K A)
      by_questions true e below = branch_right fuel below K A begun enough e (lowest 0 A K) (lowest_is A K)
      by_questions false e below =
          let passes = not_failing ask K e in
          let starts = initial_inherited ask k K A begun.part begun.ind.1 in
          row_right K A (begun.positions, starts, passes.0) passes.1 begun.part

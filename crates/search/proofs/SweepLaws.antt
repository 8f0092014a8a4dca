-- What a pass says of the search: a forced literal may be set in any order, and a pass that sets none shows rule (a), (b) or (d).
use Prim.Native.Nat.{ℕ, suc, ◌+◌, ◌≤◌, ◌<◌}
use native.Mathlib.Nat.{le_refl}
use native.Mathlib.Omega.{arith}
use mathlib.Core.Path.{◌≡◌, refl, sym, ap, ◌∙◌, subst}
use mathlib.Core.Logic.{◌⊎◌, inl, inr}
use mathlib.Core.Bool.{Bool, true, false}
use mathlib.Core.Option.{Option, none, some, none-ne-some}
use mathlib.Core.List.{List, [], ◌∷◌}
use lib.ListN.{length}
use Rattle.meaning.specs.Clauses.{Literal, Clause, variable, negation, any, all}
use Rattle.meaning.specs.Demands.{In}
use Rattle.meaning.specs.Search.{Setting, with_literal, has_true, only_false, unset_places, only_place, forced_by, first_place, open_in, or_else, first_of, Ending, can, cannot, lost, after, then_false, search_from}
use Rattle.laws.specs.Basics.{bool_cases, not_true_is_false, all_at}
use Rattle.laws.specs.Within.{Within}
use Rattle.laws.specs.Setting.{unset_count, variable_negation, unset_both, length_with, unset_fewer}
use Rattle.laws.specs.Moves
use Rattle.laws.specs.Moves.{UnsetIn, first_at, forced_unset, open_unset, unset_in_range, some_open, false_at}
use Rattle.laws.specs.Forced.{forced_any, forced_closed, all_satisfied, decided, true_not_only_false}
use Rattle.passes.specs.Sweep
use Rattle.passes.specs.Sweep.{met, failed, one, more, status, Next, satisfied, forced, try, Pass, closed, passed, opened, met_by, meet, sweep}
use Rattle.search.specs.Engine.{search_at, tried, Ready}
use Rattle.passes.proofs.StatusLaws.{Means, status_means}
use Rattle.passes.proofs.PassLaws.{sweep_closed}

-- what a pass has forced counts for one, so that it leaves fewer unset
unfoldable extra : Next → ℕ
extra satisfied = 0
extra forced = 1
extra (try l) = 0

extra_opened : (n : Next) (l : Literal) → extra (opened n l) ≡ extra n
unfolding extra opened
extra_opened satisfied l = refl
extra_opened forced l = refl
extra_opened (try k) l = refl

-- what a pass from v keeps of the search, where so many are unset at the most
abbrev Kept : List Clause → Setting → ℕ → Pass → Type 0
Kept cs v k closed = search_at cs v ≡ cannot 0
Kept cs v k (passed u n) = (search_at cs v ≡ search_at cs u) × (unset_count u + extra n ≤ k) × (length u ≡ length v)

kept_before : (cs : List Clause) (v u : Setting) (k j : ℕ) (p : Pass) → search_at cs v ≡ search_at cs u → j ≤ k
    → length u ≡ length v → Kept cs u j p → Kept cs v k p
kept_before cs v u k j closed e i s h = e ∙ h
kept_before cs v u k j (passed w n) e i s h = (e ∙ h.0, omega (arith, h.1), h.2 ∙ s)

-- once a literal was forced, a pass ends so or is closed
abbrev Held : Pass → Type 0
Held closed = Unit {0}
Held (passed u satisfied) = ⊥
Held (passed u forced) = Unit {0}
Held (passed u (try l)) = ⊥

held : (ds : List Clause) (v : Setting) → Held (sweep ds (passed v forced))
unfolding sweep meet met_by opened
held [] v = tt
held (c ∷ ds) v = go (status v c) (held ds)
  where
    go : (s : Sweep.Status) → ((u : Setting) → Held (sweep ds (passed u forced))) → Held (sweep ds (met_by s v forced))
    go met rest = rest v
    go failed rest = subst Held (sym (sweep_closed ds)) tt
    go (one l) rest = rest (with_literal v l)
    go (more l) rest = rest v

module _ (most : ℕ) (cs : List Clause) (within : Within most cs) where
  swept_kept : (ds : List Clause) → ((c : Clause) → In c ds → In c cs) → (v : Setting) (n : Next) → length v ≡ suc most
      → Kept cs v (unset_count v + extra n) (sweep ds (passed v n))
  unfolding sweep meet met_by search_at extra
  swept_kept [] part v n e = (refl, le_refl (unset_count v + extra n), refl)
  swept_kept (c ∷ ds) part v n e = go (status v c) (status_means v c) (swept_kept ds (λ d i. part d (inr i)))
    where
      go : (s : Sweep.Status) → Means v c s
          → ((u : Setting) (k : Next) → length u ≡ suc most → Kept cs u (unset_count u + extra k) (sweep ds (passed u k)))
          → Kept cs v (unset_count v + extra n) (sweep ds (met_by s v n))
      go met t rest = rest v n e
      go failed t rest =
          subst (Kept cs v (unset_count v + extra n)) (sym (sweep_closed ds))
          (forced_closed (unset_count v) cs v c (part c (inl refl)) t)
      go (one l) t rest =
          let f : Moves.Forced cs v l = (c, part c (inl refl), t) in
          let u : UnsetIn cs v l = forced_unset cs v l f in
          let fewer : unset_count v ≡ suc (unset_count (with_literal v l)) =
          unset_fewer v l (unset_in_range most cs v l within e u) u.3 in
          kept_before cs v (with_literal v l) (unset_count v + extra n) (unset_count (with_literal v l) + 1)
          (sweep ds (passed (with_literal v l) forced)) (forced_any most cs within v l e f)
          (omega arith) (length_with v l) (rest (with_literal v l) forced (length_with v l ∙ e))
      go (more l) t rest =
          subst (λ (x : ℕ). Kept cs v (unset_count v + x) (sweep ds (passed v (opened n l)))) (extra_opened n l)
          (rest v (opened n l) e)

-- the tests of rules (a) and (c) fail at every clause
abbrev Quiet : Setting → List Clause → Type 0
Quiet v ds = (any (only_false v) ds ≡ false) × (first_of (forced_by v) ds ≡ none)

unfoldable picked : Next → Option Literal → Next
picked satisfied (some l) = try l
picked satisfied none = satisfied
picked forced o = forced
picked (try k) o = try k

picked_none : (n : Next) → n ≡ picked n none
unfolding picked
picked_none satisfied = refl
picked_none forced = refl
picked_none (try l) = refl

picked_more : (n : Next) (l : Literal) (o : Option Literal) → picked (opened n l) o ≡ picked n (some l)
unfolding picked opened
picked_more satisfied l o = refl
picked_more forced l o = refl
picked_more (try k) l o = refl

open_not_false : (v : Setting) (c : Clause) (l : Literal) → open_in v c ≡ some l → only_false v c ≡ false
unfolding first_of or_else
open_not_false v c l e = not_true_is_false (λ f. at_place f (open_unset (c ∷ []) v l (ap (λ (o : Option Literal). or_else o none) e)))
  where
    at_place : only_false v c ≡ true → UnsetIn (c ∷ []) v l → ⊥
    at_place f (d, inr x4, i, u) = elim x4 [ ]
    at_place f (d, inl same, i, u) =
        none-ne-some false (sym u ∙ false_at v c l f (subst (λ (x : Clause). In l x) same i))

-- a pass finds all clauses quiet and picks the literal of rule (d), or it sets literals or is closed
quiet_or_held : (ds : List Clause) (v : Setting) (n : Next)
    → (Quiet v ds × (sweep ds (passed v n) ≡ passed v (picked n (first_of (open_in v) ds)))) ⊎ Held (sweep ds (passed v n))
unfolding sweep meet met_by any first_of or_else forced_by only_place open_in first_place
quiet_or_held [] v n = inl ((refl, refl), ap (passed v) (picked_none n))
quiet_or_held (c ∷ ds) v n = go (status v c) (status_means v c) (quiet_or_held ds v)
  where
    Ends : List Clause → Next → Pass → Type 0
    Ends es k p = (Quiet v es × (p ≡ passed v (picked k (first_of (open_in v) es)))) ⊎ Held p

    and_quiet : (k : Next) (p : Pass) → only_false v c ≡ false → forced_by v c ≡ none
        → picked k (first_of (open_in v) ds) ≡ picked n (or_else (open_in v c) (first_of (open_in v) ds)) → Ends ds k p → Ends (c ∷ ds) n p
    and_quiet k p a b e (inl (q, h)) = inl ((cc, cc), h ∙ ap (passed v) e)
    and_quiet k p a b e (inr h) = inr h

    go : (s : Sweep.Status) → Means v c s → ((k : Next) → Ends ds k (sweep ds (passed v k))) → Ends (c ∷ ds) n (sweep ds (met_by s v n))
    go met t rest =
        and_quiet n (sweep ds (passed v n)) (not_true_is_false (true_not_only_false v c t))
        (ap (λ (b : Bool). only_place b (unset_places v c)) t)
        (ap (λ (b : Bool). picked n (or_else (first_place b (unset_places v c)) (first_of (open_in v) ds))) (sym t)) (rest n)
    go failed t rest = inr (subst Held (sym (sweep_closed ds)) tt)
    go (one l) t rest = inr (held ds (with_literal v l))
    go (more l) t rest =
        and_quiet (opened n l) (sweep ds (passed v (opened n l))) (open_not_false v c l t.2) t.1
        (picked_more n l (first_of (open_in v) ds)
        ∙ ap (λ (o : Option Literal). picked n (or_else o (first_of (open_in v) ds))) (sym t.2)) (rest (opened n l))

-- what a pass says of the search from v: it goes on where literals were forced, and is ready otherwise
abbrev pub Turned : List Clause → Setting → Pass → Type 0
Turned cs v closed = Ready cs v closed
Turned cs v (passed u satisfied) = Ready cs v (passed u satisfied)
Turned cs v (passed u forced) = (search_at cs v ≡ search_at cs u) × (unset_count u < unset_count v) × (length u ≡ length v)
Turned cs v (passed u (try l)) = Ready cs v (passed u (try l))

then_same : (again on : Setting → Ending) (v : Setting) (l : Literal) (r : Ending)
    → again (with_literal v (negation l)) ≡ on (with_literal v (negation l)) → then_false again v l r ≡ then_false on v l r
unfolding then_false
then_same again on v l (can u d) e = refl
then_same again on v l (cannot d) e = ap (after (2 + d)) e
then_same again on v l lost e = refl

module _ (most : ℕ) (cs : List Clause) (within : Within most cs) (v : Setting) (sized : length v ≡ suc most) where
  -- rule (d), where all clauses are quiet and one is without a true literal
  quiet_try : (l : Literal) → Quiet v cs → first_of (open_in v) cs ≡ some l → Ready cs v (passed v (try l))
  unfolding search_at tried open_in first_place
  quiet_try l q e = (same, range, omega (arith, fewer), omega (arith, fewer_denied), refl)
    where
      u : UnsetIn cs v l
      u = open_unset cs v l e

      range : variable l < length v
      range = unset_in_range most cs v l within sized u

      fewer : unset_count v ≡ suc (unset_count (with_literal v l))
      fewer = unset_fewer v l range u.3

      fewer_denied : unset_count v ≡ suc (unset_count (with_literal v (negation l)))
      fewer_denied =
          unset_fewer v (negation l) (subst (λ (x : ℕ). x < length v) (sym (variable_negation l)) range)
          (unset_both v l (negation l) (sym (variable_negation l)) u.3)

      not_all : all (has_true v) cs ≡ true → ⊥
      not_all t = at_clause (first_at (open_in v) cs l e)
        where
          at_clause : ((c : Clause) × In c cs × (open_in v c ≡ some l)) → ⊥
          at_clause (c, i, o) =
              none-ne-some l
              (ap (λ (b : Bool). first_place b (unset_places v c)) (sym (all_at (has_true v) c cs t i)) ∙ o)

      same : search_from (unset_count v) cs v ≡ then_false (search_at cs) v l (search_at cs (with_literal v l))
      same =
          ap (λ (f : ℕ). search_from f cs v) fewer
          ∙ decided (unset_count (with_literal v l)) cs v l q.0 (not_true_is_false not_all) q.1 e
          ∙ then_same (search_from (unset_count (with_literal v l)) cs) (search_at cs) v l (search_at cs (with_literal v l))
          (ap (λ (f : ℕ). search_from f cs (with_literal v (negation l))) (omega (arith, fewer, fewer_denied)))

  quiet_satisfied : Quiet v cs → first_of (open_in v) cs ≡ none → search_at cs v ≡ can v 0
  unfolding search_at
  quiet_satisfied q e = go (bool_cases (all (has_true v) cs))
    where
      go : (all (has_true v) cs ≡ true) ⊎ (all (has_true v) cs ≡ false) → search_from (unset_count v) cs v ≡ can v 0
      go (inl t) = all_satisfied (unset_count v) cs v t
      go (inr f) = absurd (some_open cs v q.0 f e)

  -- what a pass over all clauses says of the search
  pub swept : Turned cs v (sweep cs (passed v satisfied))
  unfolding picked extra
  swept = go (sweep cs (passed v satisfied)) (quiet_or_held cs v satisfied) (swept_kept most cs within cs (λ c i. i) v satisfied sized)
    where
      quiet : (o : Option Literal) → Quiet v cs → first_of (open_in v) cs ≡ o → Turned cs v (passed v (picked satisfied o))
      quiet none q e = quiet_satisfied q e
      quiet (some l) q e = quiet_try l q e

      go : (p : Pass) → (Quiet v cs × (p ≡ passed v (picked satisfied (first_of (open_in v) cs)))) ⊎ Held p
          → Kept cs v (unset_count v + 0) p → Turned cs v p
      go p (inl (q, e)) k = subst (Turned cs v) (sym e) (quiet (first_of (open_in v) cs) q refl)
      go closed (inr h) k = k
      go (passed u satisfied) (inr h) k = absurd h
      go (passed u forced) (inr h) k = (k.0, omega (arith, k.1), k.2)
      go (passed u (try l)) (inr h) k = absurd h

-- what holds of the search from u holds from v, where the two are the same
pub ready_before : (cs : List Clause) (v u : Setting) (p : Pass) → search_at cs v ≡ search_at cs u → unset_count u ≤ unset_count v
    → length u ≡ length v → Ready cs u p → Ready cs v p
ready_before cs v u closed e i s h = e ∙ h
ready_before cs v u (passed w satisfied) e i s h = e ∙ h
ready_before cs v u (passed w forced) e i s h = h
ready_before cs v u (passed w (try l)) e i s h = (e ∙ h.0, h.1, omega (arith, h.2), omega (arith, h.3), h.4 ∙ s)

-- Where clauses hold: only the variables that they name count, a denied clause fails, and what a moment gives each variable.
use Rattle.std.specs.Prelude.{ℕ, ◌+◌, ◌-◌, ◌≤◌, ◌<◌, ◌≡◌, ◌⊎◌, Bool, true, false, ◌&&◌, ◌||◌, leb}
use Rattle.std.proofs.Common.{arith, inl, inr, le-leb, leb-false}
use Rattle.std.proofs.Math.Path.{refl, ap}
use Rattle.std.proofs.Math.Bool.{not}
use mathlib.Core.List.{List, [], ◌∷◌, map}
use Rattle.std.proofs.lemmas.Bool.{lt-leb}
use Rattle.meaning.specs.Clauses.{Literal, pos, neg, Clause, variable, negation, Values, is_true, any, all, holds, all_hold}
use Rattle.meaning.specs.Meaning.{State, moment}
use Rattle.meaning.specs.Rules.{denied, next}
use Rattle.laws.specs.Basics.{bool_cases}
use Rattle.laws.specs.Within.{ClauseOf, ClausesOf, UpTo, Present}
use Rattle.laws.specs.Setting.{is_true_negation}

-- two values for each variable agree on those of a sort
abbrev pub Agree : (ℕ → Type 0) → Values → Values → Type 0
Agree P u w = (x : ℕ) → P x → u x ≡ w x

module _ (P : ℕ → Type 0) (u w : Values) (agree : Agree P u w) where
  pub literal_agree : (l : Literal) → P (variable l) → is_true u l ≡ is_true w l
  unfolding is_true variable
  literal_agree (pos x) g = agree x g
  literal_agree (neg x) g = ap not (agree x g)

  pub clause_agree : (c : Clause) → ClauseOf P c → holds u c ≡ holds w c
  unfolding holds any
  clause_agree [] h = refl
  clause_agree (l ∷ c) h = cc (literal_agree l h.0, clause_agree c h.1)

  pub all_agree : (cs : List Clause) → ClausesOf P cs → all_hold u cs ≡ all_hold w cs
  unfolding all_hold all
  all_agree [] h = refl
  all_agree (c ∷ cs) h = cc (clause_agree c h.0, all_agree cs h.1)

-- the negated literals of a clause all hold exactly where the clause does not
pub denied_fails : (w : Values) (c : Clause) → all_hold w (denied c) ≡ not (holds w c)
unfolding all_hold all holds any denied
denied_fails w [] = refl
denied_fails w (l ∷ c) = go (is_true w l) (is_true w (negation l)) (is_true_negation w l) (denied_fails w c)
  where
    go : (a b : Bool) → b ≡ not a → all_hold w (denied c) ≡ not (holds w c)
        → ((b || false) && all_hold w (denied c)) ≡ not (a || holds w c)
    go true b e h = cc
    go false b e h = cc

pub holds_next : (n : ℕ) (w : Values) (c : Clause) → holds w (map (next n) c) ≡ holds (λ x. w (n + x)) c
unfolding holds any is_true next
holds_next n w [] = refl
holds_next n w (l ∷ c) = cc (literal l, holds_next n w c)
  where
    literal : (l : Literal) → is_true w (next n l) ≡ is_true (λ x. w (n + x)) l
    literal (pos x) = refl
    literal (neg x) = refl

pub moment_now : (n : ℕ) (s t : State) (x : Values) → Agree (UpTo n) (moment n s t x) s
unfolding moment
moment_now n s t x v g = cc (le-leb v n g.1)

pub moment_next : (n : ℕ) (s t : State) (x : Values) → Agree (UpTo n) (λ v. moment n s t x (n + v)) t
unfolding moment
moment_next n s t x v g =
    let low = g.0 in
    let high = g.1 in
    let past : n < n + v = omega arith in
    let up_to : n + v ≤ n + n = omega arith in
    let back : n + v - n ≡ v = omega arith in
    cc (lt-leb (n + v) n past, le-leb (n + v) (n + n) up_to)

-- any values are the moment of their own parts
pub moment_of : (n : ℕ) (w : Values) (v : ℕ) → moment n w (λ y. w (n + y)) (λ y. w (n + n + y)) v ≡ w v
unfolding moment
moment_of n w v = go (bool_cases (leb v n)) (bool_cases (leb v (n + n)))
  where
    go : (leb v n ≡ true) ⊎ (leb v n ≡ false) → (leb v (n + n) ≡ true) ⊎ (leb v (n + n) ≡ false)
        → moment n w (λ y. w (n + y)) (λ y. w (n + n + y)) v ≡ w v
    go (inl a) b = cc
    go (inr a) (inl b) = let up : n + (v - n) ≡ v = omega (arith, leb-false v n a) in cc
    go (inr a) (inr b) = let up : n + n + (v - (n + n)) ≡ v = omega (arith, leb-false v (n + n) b) in cc

-- whichever the next state is, a variable of the present moment has the same value
pub moment_present : (n m : ℕ) (s t t' : State) (x : Values) → Agree (Present n m) (moment n s t x) (moment n s t' x)
unfolding moment
moment_present n m s t t' x v (inl g) = cc (le-leb v n g.1)
moment_present n m s t t' x v (inr g) =
    let low = g.0 in
    let past_state : n < v = omega arith in
    let past_next : n + n < v = omega arith in
    cc (lt-leb v n past_state, lt-leb v (n + n) past_next)

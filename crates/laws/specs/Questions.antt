-- What an unsatisfiable question means, for a problem whose clauses name the variables of their kind, and that a larger set keeps it unsatisfiable.
use Rattle.std.specs.Prelude.{ℕ, zero, suc, ◌+◌, ◌≤◌, ◌≡◌, refl, ◌↔◌, Bool, true, false, List, [], ◌∷◌, ◌++◌, map, get_or}
use Rattle.std.proofs.Common.{arith, sym, ap, ◌∙◌}
use Rattle.std.proofs.Math.Path.{fun_ext}
use Rattle.std.proofs.Math.Logic.Iff as Iff
use Rattle.meaning.specs.Clauses.{Literal, pos, neg, Clause, variable, Values, all, holds, all_hold}
use Rattle.meaning.specs.Meaning.{Problem, State, moment, InitState, Step, Marks, at_marks, lemmas_of, AllOf, BadState, Safe, Part}
use Rattle.meaning.specs.Rules.{Question, initiation, step, safety, denied, next, lemma, clauses, width, asked}
use Rattle.laws.specs.Basics.{not_both, not_of_false, false_of_not, and_left, and_right, and_both, all_append}
use Rattle.laws.specs.Within.{UpTo, ClauseWithin, Within, WellFormed}
use Rattle.laws.specs.Range.{within_wider, present_within, of_append}
use Rattle.laws.specs.Setting.{variable_negation}
use Rattle.laws.specs.Marked.{marks_within, all_of_part}
use Rattle.laws.specs.SearchRight.{searched_no}
use Rattle.laws.specs.Moment.{clause_agree, all_agree, denied_fails, holds_next, moment_now, moment_next, moment_of}
use Rattle.laws.specs.BadStates.{bad_any_next}

-- the clauses of a question name variables in 1..2n+m

pub denied_within : (most : ℕ) (c : Clause) → ClauseWithin most c → Within most (denied c)
unfolding denied
denied_within most [] h = tt
denied_within most (l ∷ c) h = (((rw variable_negation h.0.0, rw variable_negation h.0.1), tt), denied_within most c h.1)

pub next_within : (n : ℕ) (c : Clause) → ClauseWithin n c → ClauseWithin (n + n) (map (next n) c)
unfolding variable next
next_within n [] h = tt
next_within n (l ∷ c) h =
    let e : variable (next n l) ≡ n + variable l = shifted l in
    let low : 1 ≤ variable l = h.0.0 in
    let high : variable l ≤ n = h.0.1 in
    ((omega arith, omega arith), next_within n c h.1)
  where
    shifted : (l : Literal) → variable (next n l) ≡ n + variable l
    shifted (pos x) = refl
    shifted (neg x) = refl

get_or_within : (most : ℕ) (cs : List Clause) → Within most cs → (d : ℕ) → ClauseWithin most (get_or cs d [])
get_or_within most [] h d = tt
get_or_within most (c ∷ cs) h zero = h.0
get_or_within most (c ∷ cs) h (suc d) = get_or_within most cs h.1 d

pub lemma_within : (p : Problem) → WellFormed p → (d : ℕ) → ClauseWithin p.n (lemma p d)
unfolding lemma
lemma_within p f d = get_or_within p.n p.lemmas f.lemmas d

pub clauses_within : (p : Problem) → WellFormed p → (S : Marks) (q : Question) → Within (width p) (clauses p S q)
unfolding clauses width lemmas_of
clauses_within p f S q = go q
  where
    most : ℕ
    most = p.n + p.n + p.m

    of_state : (cs : List Clause) → Within p.n cs → Within most cs
    of_state = within_wider p.n most (omega arith)

    set : Within most (at_marks S p.lemmas)
    set = of_state (at_marks S p.lemmas) (marks_within p.n S p.lemmas f.lemmas)

    go : (q : Question) → Within most (clauses p S q)
    go (initiation d) =
        of_append (UpTo most) p.init (denied (lemma p d)) (of_state p.init f.init)
        (of_state (denied (lemma p d)) (denied_within p.n (lemma p d) (lemma_within p f d)))
    go (step d) =
        let after : Clause = map (next p.n) (lemma p d) in
        of_append (UpTo most) p.tr (at_marks S p.lemmas ++ denied after) f.tr
        (of_append (UpTo most) (at_marks S p.lemmas) (denied after) set
        (within_wider (p.n + p.n) most (omega arith) (denied after)
        (denied_within (p.n + p.n) after (next_within p.n (lemma p d) (lemma_within p f d)))))
    go safety = of_append (UpTo most) (at_marks S p.lemmas) p.bad set (present_within p.n p.m p.bad f.bad)

-- no values satisfy the clauses of an unsatisfiable question

pub asked_no : (p : Problem) → WellFormed p → (S : Marks) (q : Question)
    → ((asked p S q).sat ≡ false) ↔ ((w : Values) → all_hold w (clauses p S q) ≡ true → ⊥)
unfolding asked
asked_no p f S q = searched_no (width p) (clauses p S q) (clauses_within p f S q)

pub append_holds : (w : Values) (cs ds : List Clause)
    → (all_hold w (cs ++ ds) ≡ true) ↔ ((all_hold w cs ≡ true) × (all_hold w ds ≡ true))
unfolding all_hold
append_holds w cs ds = (
  λ h.
      let e = sym (all_append (holds w) cs ds) ∙ h in
      (and_left (all (holds w) cs) (all (holds w) ds) e, and_right (all (holds w) cs) (all (holds w) ds) e),
  λ h. all_append (holds w) cs ds ∙ and_both (all (holds w) cs) (all (holds w) ds) h.0 h.1,
)

pub denied_holds : (w : Values) (c : Clause) → (all_hold w (denied c) ≡ true) ↔ (holds w c ≡ false)
denied_holds w c = (λ h. false_of_not (holds w c) (sym (denied_fails w c) ∙ h), λ h. denied_fails w c ∙ not_of_false h)

true_unless : (b : Bool) → (b ≡ false → ⊥) → b ≡ true
true_unless true f = refl
true_unless false f = absurd (f refl)

-- the meanings of the three questions

pub initiation_means : (p : Problem) → WellFormed p → (S : Marks) (d : ℕ)
    → ((asked p S (initiation d)).sat ≡ false) ↔ ((s : State) → InitState p s → holds s (lemma p d) ≡ true)
unfolding clauses
initiation_means p f S d = Iff.trans (asked_no p f S (initiation d)) (forth, back)
  where
    c : Clause
    c = lemma p d

    forth : ((w : Values) → all_hold w (p.init ++ denied c) ≡ true → ⊥) → (s : State) → InitState p s → holds s c ≡ true
    forth g s i = true_unless (holds s c) (λ fails. g s ((append_holds s p.init (denied c)).1 (i, (denied_holds s c).1 fails)))

    back : ((s : State) → InitState p s → holds s c ≡ true) → (w : Values) → all_hold w (p.init ++ denied c) ≡ true → ⊥
    back g w h =
        let both = (append_holds w p.init (denied c)).0 h in
        not_both (g w both.0) ((denied_holds w c).0 both.1)

-- of a set the question of initiation takes nothing
pub initiation_any : (p : Problem) (S T : Marks) (d : ℕ) → asked p S (initiation d) ≡ asked p T (initiation d)
unfolding asked clauses
initiation_any p S T d = refl

pub step_means : (p : Problem) → WellFormed p → (S : Marks) (d : ℕ)
    → ((asked p S (step d)).sat ≡ false) ↔ ((s t : State) → Step p s t → AllOf p S s → holds t (lemma p d) ≡ true)
unfolding clauses lemmas_of
step_means p f S d = Iff.trans (asked_no p f S (step d)) (forth, back)
  where
    c : Clause
    c = lemma p d

    after : Clause
    after = map (next p.n) c

    set : List Clause
    set = at_marks S p.lemmas

    None : Values → Type 0
    None w = all_hold w (p.tr ++ (set ++ denied after)) ≡ true → ⊥

    forth : ((w : Values) → None w) → (s t : State) → Step p s t → all_hold s set ≡ true → holds t c ≡ true
    forth g s t (x, steps) a = true_unless (holds t c) (λ fails. g w ((append_holds w p.tr (set ++ denied after)).1 (steps, set_first fails)))
      where
        w : Values
        w = moment p.n s t x

        same_after : holds w after ≡ holds t c
        same_after =
            holds_next p.n w c
            ∙ clause_agree (UpTo p.n) (λ v. w (p.n + v)) t (moment_next p.n s t x) c (lemma_within p f d)

        set_now : all_hold w set ≡ true
        set_now = all_agree (UpTo p.n) w s (moment_now p.n s t x) set (marks_within p.n S p.lemmas f.lemmas) ∙ a

        set_first : holds t c ≡ false → all_hold w (set ++ denied after) ≡ true
        set_first fails = (append_holds w set (denied after)).1 (set_now, (denied_holds w after).1 (same_after ∙ fails))

    back : ((s t : State) → Step p s t → all_hold s set ≡ true → holds t c ≡ true) → (w : Values) → None w
    back g w h =
        let first = (append_holds w p.tr (set ++ denied after)).0 h in
        let then = (append_holds w set (denied after)).0 first.1 in
        not_both (g w t (x, same ∙ first.0) then.0) (sym (holds_next p.n w c) ∙ (denied_holds w after).0 then.1)
      where
        t : State
        t v = w (p.n + v)

        x : Values
        x v = w (p.n + p.n + v)

        same : all_hold (moment p.n w t x) p.tr ≡ all_hold w p.tr
        same = ap (λ (u : Values). all_hold u p.tr) (fun_ext (moment_of p.n w))

pub safety_means : (p : Problem) → WellFormed p → (S : Marks) → ((asked p S safety).sat ≡ false) ↔ Safe p S
unfolding clauses lemmas_of
safety_means p f S = Iff.trans (asked_no p f S safety) (forth, back)
  where
    set : List Clause
    set = at_marks S p.lemmas

    None : Values → Type 0
    None w = all_hold w (set ++ p.bad) ≡ true → ⊥

    forth : ((w : Values) → None w) → (s : State) → all_hold s set ≡ true → BadState p s → ⊥
    forth g s a (x, bad) = g w ((append_holds w set p.bad).1 (set_now, bad))
      where
        w : Values
        w = moment p.n s s x

        set_now : all_hold w set ≡ true
        set_now = all_agree (UpTo p.n) w s (moment_now p.n s s x) set (marks_within p.n S p.lemmas f.lemmas) ∙ a

    back : ((s : State) → all_hold s set ≡ true → BadState p s → ⊥) → (w : Values) → None w
    back g w h = let both = (append_holds w set p.bad).0 h in g w both.0 (x, same ∙ both.1)
      where
        x : Values
        x v = w (p.n + p.n + v)

        same : all_hold (moment p.n w w x) p.bad ≡ all_hold w p.bad
        same =
            bad_any_next p f w w (λ v. w (p.n + v)) x
            ∙ ap (λ (u : Values). all_hold u p.bad) (fun_ext (moment_of p.n w))

-- a question that is unsatisfiable for a set is so for a larger one

pub step_monotone : (p : Problem) → WellFormed p → (S T : Marks) → Part S T → (d : ℕ) → (asked p S (step d)).sat ≡ false
    → (asked p T (step d)).sat ≡ false
step_monotone p f S T part d unsat =
    (step_means p f T d).1 (λ s t st a. (step_means p f S d).0 unsat s t st (all_of_part p S T part s a))

pub safety_monotone : (p : Problem) → WellFormed p → (S T : Marks) → Part S T → (asked p S safety).sat ≡ false
    → (asked p T safety).sat ≡ false
safety_monotone p f S T part unsat =
    (safety_means p f T).1 (λ s a b. (safety_means p f S).0 unsat s (all_of_part p S T part s a) b)

-- Bad states, for a problem whose clauses name the variables of their kind alone: Bad looks at the present moment, with any inputs and helpers.
use Rattle.std.specs.Prelude.{◌≡◌, ◌↔◌, true, false, []}
use Rattle.std.proofs.Common.{sym, ap, ◌∙◌}
use Rattle.meaning.specs.Clauses.{Values, all, all_hold}
use Rattle.meaning.specs.Meaning.{Problem, State, moment, BadState}
use Rattle.laws.specs.Within.{UpTo, Within, Present, WellFormed}
use Rattle.laws.specs.Moment.{all_agree, moment_now, moment_present}

-- whichever the next state is, all Bad clauses hold or do not
pub bad_any_next : (p : Problem) → WellFormed p → (s t t' : State) (x : Values)
    → all_hold (moment p.n s t x) p.bad ≡ all_hold (moment p.n s t' x) p.bad
bad_any_next p f s t t' x =
    all_agree (Present p.n p.m) (moment p.n s t x) (moment p.n s t' x) (moment_present p.n p.m s t t' x) p.bad f.bad

-- where Bad speaks of the state alone, a state is bad exactly if all Bad clauses hold there
pub bad_of_state : (p : Problem) → Within p.n p.bad → (s : State) → BadState p s ↔ (all_hold s p.bad ≡ true)
bad_of_state p f s = (λ (x, bad). sym (same x) ∙ bad, λ bad. ((λ v. false), same (λ v. false) ∙ bad))
  where
    same : (x : Values) → all_hold (moment p.n s s x) p.bad ≡ all_hold s p.bad
    same x = all_agree (UpTo p.n) (moment p.n s s x) s (moment_now p.n s s x) p.bad f

-- no Bad clause makes every state bad
pub no_clause_bad : (p : Problem) → p.bad ≡ [] → (s : State) → BadState p s
unfolding all_hold all
no_clause_bad p none s = ((λ v. false), ap (all_hold (moment p.n s s (λ v. false))) none)

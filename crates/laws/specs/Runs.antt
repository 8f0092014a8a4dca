-- From a safe inductive set: no state of any run is bad.
use Rattle.std.specs.Prelude.{◌≡◌, ◌⊎◌, List, [], ◌∷◌}
use Rattle.std.proofs.Math.Path.{subst⁻¹}
use Rattle.std.proofs.Common.{inl, inr}
use Rattle.meaning.specs.Meaning.{Problem, State, StepsFrom, Run, Marks, AllOf, Inductive, SafeInductive}
use Rattle.meaning.specs.Demands.{In, NoRunIsBad}

-- all of an inductive set hold in every state that steps lead to
along : (p : Problem) (S : Marks) → Inductive p S → (s : State) (ts : List State) → AllOf p S s → StepsFrom p s ts → (t : State)
    → In t ts → AllOf p S t
along p S ind s [] h steps t at = elim at [ ]
along p S ind s (u ∷ ts) h steps t at =
    here_or (ind.1 s u steps.0 h) (λ later. along p S ind u ts (ind.1 s u steps.0 h) steps.1 t later) at
  where
    here_or : AllOf p S u → (In t ts → AllOf p S t) → (t ≡ u) ⊎ In t ts → AllOf p S t
    here_or now on (inl e) = subst⁻¹ (AllOf p S) e now
    here_or now on (inr later) = on later

-- and so in every state of a run
pub run_holds : (p : Problem) (S : Marks) → Inductive p S → (ss : List State) → Run p ss → (s : State) → In s ss → AllOf p S s
run_holds p S ind [] run t _ = elim run [ ]
run_holds p S ind (s ∷ ts) run t (inl e) = subst⁻¹ (AllOf p S) e (ind.0 s run.0)
run_holds p S ind (s ∷ ts) run t (inr at) = along p S ind s ts (ind.0 s run.0) run.1 t at

pub no_run_is_bad : (p : Problem) (S : Marks) → SafeInductive p S → NoRunIsBad p
no_run_is_bad p S both ss run s at = both.0 s (run_holds p S both.1 ss run s at)

-- From the jobs' promises to the demands: whatever meets the promise of each job, for every file, budget and lent bytes, meets all three. The
-- code's contracts are these promises (`FixedBy`), so demands 2 and 3 hold of the functions that a user calls.
use Rattle.std.specs.Prelude.{◌≡◌}
use Rattle.std.proofs.Math.Path.{fun_ext, subst⁻¹}
use Rattle.meaning.specs.Calls.{Program, check_call, largest_call, one_call, list_call}
use Rattle.meaning.specs.Demands.{Trimmer, FixedBy, Demand1, Demand2, Demand3}
use Rattle.laws.specs.DemandsHold.{the_trimmer, demand_2, demand_3}

-- a program that meets a job's promise is that job's call
pub fixed_is : (call P : Program) → FixedBy call P → P ≡ call
fixed_is call P fixed = fun_ext (λ file. fun_ext (λ budget. fun_ext (λ lent. fixed file budget lent)))

-- four programs that meet the promises are the trimmer that document 01 fixes
pub promised_is : (t : Trimmer) → Demand1 t → t ≡ the_trimmer
unfolding the_trimmer
promised_is t d =
    λ i.
    record {
      check = fixed_is check_call t.check d.check i;
      largest = fixed_is largest_call t.largest d.largest i;
      one = fixed_is one_call t.one d.one i;
      list = fixed_is list_call t.list d.list i;
    }

pub promises_meet_2 : (t : Trimmer) → Demand1 t → Demand2 t
promises_meet_2 t d = subst⁻¹ Demand2 (promised_is t d) demand_2

pub promises_meet_3 : (t : Trimmer) → Demand1 t → Demand3 t
promises_meet_3 t d = subst⁻¹ Demand3 (promised_is t d) demand_3

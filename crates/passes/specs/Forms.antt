-- What the code's types stand for: the entries of a setting, what a clause comes to, and passes.
use Rattle.std.specs.Prelude.{ℕ, zero, suc, Bool, true, false, List, map}
use Rattle.std.proofs.Math.Option.{Option, none, some}
use Rattle.meaning.specs.Search
use Rattle.format.specs.Forms.{literal_of}
use Rattle.passes.specs.Sweep as spec
use Rattle.passes.specs.declared.Status.{Status}
use Rattle.passes.specs.declared.Status.TheVariants.{Holds, Fails, One, More}
use Rattle.passes.specs.declared.Tally.{Tally}
use Rattle.passes.specs.declared.Tally.TheVariants.{Satisfied, Forced, Closed, Try}

-- an entry of a setting: 0 unset, 1 true, 2 false
unfoldable pub entry : ℕ → Option Bool
entry zero = none
entry (suc zero) = some true
entry (suc (suc x)) = some false

unfoldable pub entries : List ℕ → Search.Setting
entries xs = map entry xs

abbrev pub status_of : Status → spec.Status
status_of Holds = spec.met
status_of Fails = spec.failed
status_of (One l) = spec.one (literal_of l)
status_of (More l) = spec.more (literal_of l)

-- a pass so far, at the setting where it stands
abbrev pub tally_at : Tally → Search.Setting → spec.Pass
tally_at Satisfied v = spec.passed v spec.satisfied
tally_at Forced v = spec.passed v spec.forced
tally_at Closed v = spec.closed
tally_at (Try l) v = spec.passed v (spec.try (literal_of l))

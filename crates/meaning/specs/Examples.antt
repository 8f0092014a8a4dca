-- Which states of the small loader are bad, so that a change of that definition is noticed. The tables of `Cases` compute, and these do not:
-- they speak of every input.
use Rattle.std.specs.Prelude.{zero, suc, ◌≡◌, refl, Bool, true, false, not, ◌&&◌, ◌||◌}
use Rattle.std.proofs.Common.{sym, true≢false}
use Rattle.meaning.specs.Clauses
use Rattle.meaning.specs.Clauses.{Values, all_hold}
use Rattle.meaning.specs.Meaning
use Rattle.meaning.specs.Meaning.{State, moment, Marks, BadState, has, Part, Safe, Inductive, Minimal}
use Rattle.meaning.specs.Cases
use Rattle.meaning.specs.Cases.{case_a, case_b, case_j, case_checksum}

-- a state of three variables
unfoldable pub three : Bool → Bool → Bool → State
three a b c zero = false
three a b c (suc zero) = a
three a b c (suc (suc zero)) = b
three a b c (suc (suc (suc v))) = c

-- The small loader holds a file with both keys on: bad, since the checksum line may be low and the file is applied then. Some value of the
-- line is enough: with a high one not all Bad clauses hold.
pub checksum_bad : BadState case_checksum (three true true true)
unfolding three case_checksum Cases.applied_if Cases.unit Meaning.moment Clauses.all_hold Clauses.holds Clauses.any Clauses.all Clauses.is_true
checksum_bad = (three false false true, refl)

pub checksum_not_for_all : ((x : Values) → all_hold (moment 3 (three true true true) (three true true true) x) case_checksum.bad ≡ true) → ⊥
unfolding three case_checksum Cases.applied_if Cases.unit moment all_hold Clauses.holds Clauses.any Clauses.all Clauses.is_true
checksum_not_for_all every = true≢false (sym (every (three true false true)))

-- with a key off it is not bad, whatever the inputs are
pub checksum_not_bad : BadState case_checksum (three true true false) → ⊥
unfolding three case_checksum Cases.applied_if Cases.unit Meaning.moment Clauses.all_hold Clauses.holds Clauses.any Clauses.all Clauses.is_true
checksum_not_bad (x, bad) = go (x 1) (x 3) bad
  where
    go : (line applied : Bool)
        → (not applied || true) && ((not applied || (line || true)) && ((not applied || (line || false)) && ((applied || (false || (not line || false))) && ((applied || (false || (false || true))) && ((applied || false) && ((not line || false) && true)))))) ≡ true
        → ⊥
    go true true h = true≢false (sym h)
    go true false h = true≢false (sym h)
    go false true h = true≢false (sym h)
    go false false h = true≢false (sym h)

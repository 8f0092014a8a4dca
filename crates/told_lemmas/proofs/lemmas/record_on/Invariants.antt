-- `told_lemmas::lemmas::record_on` meets its contract: what is left to walk ends at the same lemma. Assumes nothing.
use Rattle.std.proofs.Common.{◌-◌, ◌≡◌, suc, [], get_or}
use Rattle.format.specs.Section.{section, Inside}
use Rattle.told_lemmas.proofs.lemmas.record_on.Given as goal

abbrev pub invariant-loop-passed : goal.invariant-loop-passed
invariant-loop-passed l =
    Inside l.file l.at (suc (l.position - l._passed))
    × (get_or (section l.file l.start (suc l.position)) l.position [] ≡ get_or (section l.file l.at (suc (l.position - l._passed))) (l.position - l._passed) [])

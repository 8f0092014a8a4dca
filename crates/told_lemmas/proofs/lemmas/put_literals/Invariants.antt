-- `told_lemmas::lemmas::put_literals` meets its contract: the literals from the next place on are left to write.
use Rattle.std.proofs.Common.{◌+◌, ◌*◌, ◌-◌}
use Rattle.meaning.specs.File.{literals}
use Rattle.text.specs.Pages.{Left}
use Rattle.told_lemmas.specs.Lemmas.{literals_text}
use Rattle.told_lemmas.proofs.lemmas.put_literals.Given as goal

abbrev pub invariant-loop-i : goal.invariant-loop-i
invariant-loop-i l =
    Left (literals_text (literals l.file l.from l.count)) l.initial.page (literals_text (literals l.file (l.from + 2 * l.i) (l.count - l.i))) l.page

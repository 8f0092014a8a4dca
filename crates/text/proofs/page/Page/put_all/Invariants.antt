use Rattle.std.proofs.Common.{take}
use Rattle.text.specs.Pages.{Puts}
use Rattle.text.proofs.page.Page.put_all.Given as goal

abbrev pub invariant-loop-byte : goal.invariant-loop-byte
invariant-loop-byte l = Puts (take l.byte-index l.bytes) l.initial.self l.self

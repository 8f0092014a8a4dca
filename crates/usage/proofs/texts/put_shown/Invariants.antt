-- `usage::texts::put_shown` meets its contract: the bytes before this one are written.
use Rattle.std.proofs.Common.{map, take}
use Rattle.text.specs.Pages.{Puts}
use Rattle.usage.specs.Texts.{shown_byte}
use Rattle.usage.proofs.texts.put_shown.Given as goal

abbrev pub invariant-loop-byte : goal.invariant-loop-byte
invariant-loop-byte l = Puts (map shown_byte (take l.byte-index l.bytes)) l.initial.page l.page

use mathlib.Core.Path.{sym}
use native.Mathlib.Omega.{arith}
use Rattle.symbols.specs.Walk.{is_closed, is_open}
use Rattle.symbols.proofs.line.line_from.Goals as goal

pub returns-then-text-end-clause-is_ended : goal.returns-then-text-end-clause-is_ended
returns-then-text-end-clause-is_ended c = sym (is_open _ _ _ c.line_end-end.ensures (omega arith))

pub returns-clause-is_ended : goal.returns-clause-is_ended
returns-clause-is_ended c = sym (is_closed _ _ _ c.line_end-end.ensures (omega arith))

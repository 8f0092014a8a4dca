-- `symbols::symbol::Line::named_before` meets its contract. The loop's invariant: no line so far names the position, so the lines from here on decide. Assumes
-- nothing.
use Prim.Native.Nat.{◌-◌}
use Rattle.symbols.specs.Symbols.{symbol}
use Rattle.symbols.specs.Before.{Walked}
use Rattle.symbols.proofs.line.Line.named_before.Given as goal

abbrev pub invariant-loop-p : goal.invariant-loop-p
invariant-loop-p l = Walked l.self.text.now (symbol l.named.letter l.named.place) l.first l.p l.self.at

abbrev pub decreases-loop-p : goal.decreases-loop-p
decreases-loop-p l = l.self.at - l.p

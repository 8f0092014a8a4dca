-- `lines::literal::is_even` meets its contract: the last digit says it. Assumes nothing.
use Prim.Native.Nat.{ℕ}
use mathlib.Core.Path.{sym, ap}
use lib.Dec.{eqb}
use Rattle.lines.specs.Numbers.{worth}
use Rattle.lines.specs.Literals.{last_digit}
use Rattle.lines.proofs.literal.is_even.Goals as goal

pub returns : goal.returns
unfolding worth
returns c = ap (λ (d : ℕ). eqb d 0) (sym (last_digit _ c.args.x.now.digital c.requires))

use mathlib.Core.Path.{sym, ◌∙◌}
use Rattle.uses.specs.Solve.{after_step}
use Rattle.uses.proofs.gates.Gates.step.Goals as goal

pub returns-then-is_ready : goal.returns-then-is_ready
unfolding after_step
returns-then-is_ready c = let is = sym c.is_ready.ensures ∙ c.if-is_ready.true in (sym (rw is), sym (rw is))

pub returns : goal.returns
unfolding after_step
returns c = let is = sym c.is_ready.ensures ∙ c.if-is_ready.false in (sym (rw is), sym (rw is))

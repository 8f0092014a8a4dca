-- `symbols::symbol::positions` meets its contract. Assumes nothing.
use native.Mathlib.Omega.{arith}
use borrow.Author.Tests.{ne_eqb}
use Rattle.meaning.specs.CircuitText.{positions}
use Rattle.symbols.specs.Symbols.{header_from}
use Rattle.symbols.proofs.symbol.positions.Goals as goal

pub returns-in-105 : goal.returns-in-105
unfolding positions header_from
returns-in-105 c = (rw c.in-105.is, c.requires.inputs)

pub returns-in-108 : goal.returns-in-108
unfolding positions header_from
returns-in-108 c = (rw c.in-108.is, c.requires.latches)

pub returns-in-111 : goal.returns-in-111
unfolding positions header_from
returns-in-111 c = (rw c.in-111.is, c.requires.outputs)

pub returns-in-98 : goal.returns-in-98
unfolding positions header_from
returns-in-98 c = (rw c.in-98.is, c.requires.bads)

pub returns-in-99 : goal.returns-in-99
unfolding positions header_from
returns-in-99 c = (rw c.in-99.is, c.requires.constraints)

pub returns-in-106 : goal.returns-in-106
unfolding positions header_from
returns-in-106 c = (rw c.in-106.is, c.requires.justice)

pub returns-in-102 : goal.returns-in-102
unfolding positions header_from
returns-in-102 c = (rw c.in-102.is, c.requires.fairness)

pub returns-in_default : goal.returns-in_default
unfolding positions header_from
returns-in_default c = (
  rw (
    ne_eqb c.args.letter 105 (λ e. omega (arith, e)),
    ne_eqb c.args.letter 108 (λ e. omega (arith, e)),
    ne_eqb c.args.letter 111 (λ e. omega (arith, e)),
    ne_eqb c.args.letter 98 (λ e. omega (arith, e)),
    ne_eqb c.args.letter 99 (λ e. omega (arith, e)),
    ne_eqb c.args.letter 106 (λ e. omega (arith, e)),
    ne_eqb c.args.letter 102 (λ e. omega (arith, e)),
  ),
  omega arith,
)

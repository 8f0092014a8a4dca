-- `faults::wrong::literal_fault` meets its contract: the variable, and the kind of the record around it. Assumes nothing.
use Prim.Native.Nat.{ℕ}
use mathlib.Core.Path.{◌≡◌, ap, ◌∙◌}
use borrow.Author.Tests.{eq-eqb, ne_eqb}
use Rattle.meaning.specs.Clauses.{variable}
use Rattle.meaning.specs.File.{literal_at, signed}
use Rattle.faults.specs.Faults.{literal_fault}
use Rattle.faults.proofs.wrong.literal_fault.Goals.{After-variable_of-v}
use Rattle.faults.proofs.wrong.literal_fault.Goals as goal

-- the literal's variable
its_variable : (c : After-variable_of-v)
    → c.variable_of-v.result ≡ variable (literal_at c.args.file.now c.args.place)
unfolding literal_at
its_variable c = c.variable_of-v.ensures ∙ ap (λ (u : ℕ). variable (signed u)) c.word_at.ensures.0

pub returns-then-v-eq0 : goal.returns-then-v-eq0
unfolding literal_fault
returns-then-v-eq0 c = rw (← its_variable (goal.at.returns-then-v-eq0 c).After-variable_of-v, eq-eqb c.variable_of-v.result 0 c.if-v-eq0.true)

pub returns : goal.returns
unfolding literal_fault
returns c =
    let found = c.around-s in
    let v = c in
    rw (
      ← its_variable (goal.at.returns c).After-variable_of-v,
      ← found.ensures,
      ← c.word_at-n.ensures.0,
      ← c.word_at-m.ensures.0,
      ← c.class_there.ensures,
      ne_eqb v.variable_of-v.result 0 c.if-v-eq0.false,
    )
    c.unnamed.ensures

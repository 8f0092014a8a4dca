-- `told_lemmas::lemmas::put_literal` meets its contract: by the sign. Assumes nothing.
use Rattle.told_lemmas.specs.Lemmas.{literal_text}
use Rattle.told_lemmas.proofs.lemmas.put_literal.Goals as goal

pub returns-in-Pos : goal.returns-in-Pos
unfolding literal_text
returns-in-Pos c = rw c.in-Pos.is c.put_filled.ensures

pub returns-in-Neg : goal.returns-in-Neg
unfolding literal_text
returns-in-Neg c = rw c.in-Neg.is c.put_filled-in-Neg.ensures

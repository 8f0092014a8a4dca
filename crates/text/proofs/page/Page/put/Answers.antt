-- A byte that fits, or one that doesn't.
use Rattle.std.proofs.Common.{refl}
use Rattle.text.specs.PageLaws.{byte_fits, byte_over}
use Rattle.text.proofs.page.Page.put.Goals as goal

pub returns-then-self : goal.returns-then-self
returns-then-self c = record { bytes = λ page text was. byte_fits _ page text _ _ was c.if-self.true; lent = refl }

pub returns-else-self : goal.returns-else-self
returns-else-self c = record { bytes = λ page text was. byte_over _ page text _ _ was c.if-self.false; lent = refl }

-- `clause_count::count::unless` meets its contract. Assumes nothing.
use native.Mathlib.Omega.{arith}
use mathlib.Core.Path.{◌≡◌, refl, ap, ◌∙◌}
use mathlib.Core.Bool.{Bool, true, false, not, beq}
use mathlib.Core.List.{List, [], ◌∷◌}
use mir.Val.{bool_byte}
use Rattle.std.specs.List.{list_any}
use Rattle.meaning.specs.Clauses.{any}
use Rattle.clause_count.specs.Lengths.{unless, unless_any, unless_most}
use Rattle.clause_count.proofs.count.unless.Goals as goal

any_is : (bs : List Bool) → list_any (λ y. beq y true) bs ≡ any (λ (b : Bool). b) bs
unfolding any
any_is [] = refl
any_is (true ∷ bs) = refl
any_is (false ∷ bs) = any_is bs

counted : (b : Bool) → bool_byte (not b) ≡ unless b
unfolding unless
counted true = refl
counted false = refl

pub returns : goal.returns
unfolding unless_any
returns g c =
    let there : c.contains.result ≡ any (λ (b : Bool). b) c.args.literals = c.contains.ensures.value ∙ any_is c.args.literals in
    let said = c.from.ensures ∙ counted c.contains.result ∙ ap unless there in
    (said, omega (arith, said, unless_most (any (λ (b : Bool). b) c.args.literals)))

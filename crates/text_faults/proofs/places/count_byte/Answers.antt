-- `text_faults::places::count_byte` is the library's count. Assumes nothing.
use mathlib.Core.Path.{◌≡◌, ◌∙◌}
use native.Mathlib.Omega.{arith}
use Prim.Native.Nat.{ℕ}
use lib.Dec.{eqb}
use Rattle.std.proofs.Common.{rules}
use Rattle.std.specs.List.{count_by}
use Rattle.std.proofs.lemmas.List.Sums.{count_by-le-length}
use Rattle.text_faults.specs.Places.{counted_is}
use Rattle.text_faults.proofs.places.count_byte.Goals as goal

pub returns : goal.returns
returns c =
    let bytes = c.args.bytes.now in
    let is : c.count.result ≡ count_by (λ (a : ℕ). eqb a c.args.b) bytes = search rules in
    (is ∙ counted_is c.args.b bytes, omega (arith, is, count_by-le-length (λ (a : ℕ). eqb a c.args.b) bytes))

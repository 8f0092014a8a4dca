-- Which line of a circuit text a line is, by its number: the header, then inputs, latches, outputs, bad literals, constraints, the counts of the
-- justice properties, their literals, fairness literals and gates, then symbols.
use Rattle.std.specs.Prelude.{ℕ, ◌-◌, cond, ltb}
use Rattle.text_faults.specs.declared.sizes.Sizes.{Sizes}
use Rattle.text_faults.specs.declared.kind.Kind.{Kind}
use Rattle.text_faults.specs.declared.kind.Kind.TheVariants.{Header as HeaderLine, Input, Latch, Output, Bad, Constraint, Count, Justice, Fairness, Gate, Symbol}

-- so many lines after the first count
unfoldable pub last_kind : Sizes → ℕ → Kind
last_kind s left =
    cond (ltb left s.counts) Count
    (cond (ltb (left - s.counts) s.justice) Justice
    (cond (ltb (left - s.counts - s.justice) s.fairness) Fairness
    (cond (ltb (left - s.counts - s.justice - s.fairness) s.gates) Gate Symbol)))

-- so many lines after the first output
unfoldable pub property_kind : Sizes → ℕ → Kind
property_kind s left =
    cond (ltb left s.outputs) Output
    (cond (ltb (left - s.outputs) s.bads) Bad
    (cond (ltb (left - s.outputs - s.bads) s.constraints) Constraint (last_kind s (left - s.outputs - s.bads - s.constraints))))

-- the line of this number, counted from 1
unfoldable pub kind_of : Sizes → ℕ → Kind
kind_of s number =
    cond (ltb number 2) HeaderLine
    (cond (ltb (number - 2) s.inputs) Input
    (cond (ltb (number - 2 - s.inputs) s.latches) Latch (property_kind s (number - 2 - s.inputs - s.latches))))

-- What is wrong with the line of a circuit text at a place: which line it is, and why it is refused.
use Rattle.std.specs.Prelude.{ℕ, true, false, cond, List, length, ltb, leb, eqb}
use Rattle.meaning.specs.Lines.{line_at, ended, next_line}
use Rattle.meaning.specs.CircuitText.{Header, header_of}
use Rattle.lines.specs.Numbers.{capped}
use Rattle.symbols.specs.declared.Counts.{Counts}
use Rattle.symbols.specs.Symbols.{header_from, named_right}
use Rattle.circuit_text.specs.Header.{header_test}
use Rattle.text_faults.specs.declared.sizes.Sizes.{Sizes}
use Rattle.text_faults.specs.declared.kind.Kind.{Kind}
use Rattle.text_faults.specs.declared.kind.Kind.TheVariants.{Header as HeaderLine, Input, Latch, Output, Bad, Constraint, Count, Justice, Fairness, Gate, Symbol}
use Rattle.text_faults.specs.declared.cause.Cause.{Cause}
use Rattle.text_faults.specs.declared.cause.Cause.TheVariants.{Missing, Open, Stuck, SymbolForm, SymbolRange, SymbolTwice}
use Rattle.text_faults.specs.declared.circuit.Fault.{Fault}
use Rattle.text_faults.specs.Places.{line_number}
use Rattle.text_faults.specs.Sizes.{sizes_of}
use Rattle.text_faults.specs.Kinds.{kind_of}
use Rattle.text_faults.specs.Definers.{places_of}
use Rattle.text_faults.specs.Causes.{header_cause, form_cause, count_cause}
use Rattle.text_faults.specs.Latches.{latch_cause}

-- counts as they are compared: no text has so many lines
unfoldable pub below_huge : ℕ → ℕ
below_huge n = cond (ltb n 18446744073709551609) n 18446744073709551609

-- every letter has that many positions
abbrev pub any_count : Counts
any_count =
    record {
      i = 18446744073709551609;
      l = 18446744073709551609;
      o = 18446744073709551609;
      b = 18446744073709551609;
      c = 18446744073709551609;
      j = 18446744073709551609;
      f = 18446744073709551609;
    }

unfoldable pub counts_of : Sizes → Counts
counts_of s =
    record {
      i = below_huge s.inputs;
      l = below_huge s.latches;
      o = below_huge s.outputs;
      b = below_huge s.bads;
      c = below_huge s.constraints;
      j = below_huge s.counts;
      f = below_huge s.fairness;
    }

-- a symbol line: its form, whatever the counts; its position, by the header; or else the position was named before
unfoldable pub symbol_cause : List ℕ → ℕ → Sizes → Cause
symbol_cause text at s =
    cond (named_right (header_from any_count) (line_at text at))
    (cond (named_right (header_from (counts_of s)) (line_at text at)) SymbolTwice SymbolRange)
    SymbolForm

abbrev pub closed_cause : List ℕ → ℕ → Kind → Header → Sizes → ℕ → Cause
closed_cause text at HeaderLine h s next = Stuck
closed_cause text at Input h s next = form_cause text at 1 true h.m (places_of text s next)
closed_cause text at Latch h s next = latch_cause text at h.newer h.m (places_of text s next)
closed_cause text at Output h s next = form_cause text at 1 false h.m (places_of text s next)
closed_cause text at Bad h s next = form_cause text at 1 false h.m (places_of text s next)
closed_cause text at Constraint h s next = form_cause text at 1 false h.m (places_of text s next)
closed_cause text at Count h s next = count_cause text at
closed_cause text at Justice h s next = form_cause text at 1 false h.m (places_of text s next)
closed_cause text at Fairness h s next = form_cause text at 1 false h.m (places_of text s next)
closed_cause text at Gate h s next = form_cause text at 3 true h.m (places_of text s next)
closed_cause text at Symbol h s next = symbol_cause text at s

unfoldable pub line_cause : List ℕ → ℕ → Kind → Header → Sizes → ℕ → Cause
line_cause text at kind h s next =
    cond (leb (length text) at) Missing (cond (ended text at) (closed_cause text at kind h s next) Open)

unfoldable pub header_fault : List ℕ → Fault
header_fault text =
    record { kind = HeaderLine; cause = cond (eqb (length text) 0) Missing (header_cause text) }

-- the line at a place, by its number under the header
abbrev pub line_fault : List ℕ → ℕ → Header → Sizes → Fault
line_fault text at h s =
    record {
      kind = kind_of s (line_number text at);
      cause = line_cause text at (kind_of s (line_number text at)) h s (next_line text 0);
    }

unfoldable pub circuit_fault : List ℕ → ℕ → Fault
circuit_fault text at =
    cond (header_test text)
    (line_fault text at (header_of (line_at text 0)) (sizes_of text (header_of (line_at text 0)) (next_line text 0)))
    (header_fault text)

-- how many latches a header has; none, where it is not right
unfoldable pub latches_of : List ℕ → ℕ
latches_of text = cond (header_test text) (below_huge (capped (header_of (line_at text 0)).l)) 0

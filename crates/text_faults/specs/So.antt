-- What is told of a circuit text's line is so: for each cause, what holds of the text and the place.
use Rattle.std.specs.Prelude.{ℕ, zero, suc, ◌+◌, ◌-◌, ◌≤◌, ◌<◌, ◌%◌, min, ◌≡◌, refl, ◌⊎◌, Bool, not, cond, List, length, get_or, ltb, leb, eqb}
use Rattle.std.proofs.Common.{sym, ap, ◌∙◌, inl, inr, true≢false, arith}
use Rattle.std.proofs.Math.Bool.{true, false}
use borrow.Author.Tests.{ltb-true, leb-true, leb-false, eqb-true}
use Rattle.meaning.specs.Circuit.{var}
use Rattle.meaning.specs.Lines.{line_at, ended, next_line, of_numbers}
use Rattle.meaning.specs.CircuitText.{Header, header_of, used_right, latch_form, start_right, numbers_at}
use Rattle.laws.specs.Basics.{and_right, bool_cases}
use Rattle.symbols.specs.Symbols.{header_from, named_right}
use Rattle.circuit_text.specs.Header.{starts, header_test, test_is}
use Rattle.text_faults.specs.declared.kind.Kind.{Kind}
use Rattle.text_faults.specs.declared.kind.Kind.TheVariants.{Header as HeaderLine, Input, Latch, Output, Bad, Constraint, Count, Justice, Fairness, Gate, Symbol}
use Rattle.text_faults.specs.declared.sizes.Sizes.{Sizes}
use Rattle.text_faults.specs.declared.definers.Places.{Places}
use Rattle.text_faults.specs.declared.cause.Cause.{Cause}
use Rattle.text_faults.specs.declared.cause.Cause.TheVariants.{Missing, Open, NoAag, HeaderNumbers, HeaderSum, Numbers, LatchNumbers, Reset, Start, Odd, Small, Range, Twice, Undefined, Stuck, SymbolForm, SymbolRange, SymbolTwice}
use Rattle.text_faults.specs.Places.{line_number, after_line, first_number}
use Rattle.text_faults.specs.Sizes.{sizes_of}
use Rattle.text_faults.specs.Kinds.{kind_of}
use Rattle.text_faults.specs.Definers.{places_of, known_here, definer, earlier_by, earlier}
use Rattle.text_faults.specs.Causes.{numbered, five_to_nine, header_cause, out, unknown_at, later_cause, uses_cause, twice_cause, after_ranges, range_cause, defined_cause, literals_cause, form_cause, count_cause}
use Rattle.text_faults.specs.Latches.{start_cause, third_cause, latch_numbers, latch_cause}
use Rattle.text_faults.specs.Circuits.{any_count, counts_of, symbol_cause, closed_cause, line_cause, header_fault, circuit_fault}

-- the header of a text, how many lines of each kind it should have, and number j of a line, counted from 1
abbrev pub header : List ℕ → Header
header text = header_of (line_at text 0)

abbrev pub sizes : List ℕ → Sizes
sizes text = sizes_of text (header text) (next_line text 0)

abbrev pub number : List ℕ → ℕ → ℕ → ℕ
number text at j = get_or (numbers_at text at) (j - 1) 0

-- what each cause says
abbrev pub So : List ℕ → ℕ → Cause → Type 0
So text at Missing = length text ≤ at
So text at Open = ended text at ≡ false
So text at NoAag = starts text ≡ false
So text at HeaderNumbers = five_to_nine text ≡ false
So text at HeaderSum = (header text).m < (header text).i + (header text).l + (header text).a
So text at (Numbers width) = numbered width text at ≡ false
So text at LatchNumbers = (numbered 2 text at ≡ false) × (numbered 3 text at ≡ false)
So text at Reset = (of_numbers 3 (line_at text at) ≡ true) × ((header text).newer ≡ false)
So text at Start = (of_numbers 3 (line_at text at) ≡ true) × (start_right (latch_form true) (numbers_at text at) ≡ false)
So text at Odd = eqb (number text at 1 % 2) 0 ≡ false
So text at Small = number text at 1 < 2
So text at (Range j) = used_right (header text).m (number text at j) ≡ false
So text at (Twice p) = (p < at) × (var (number text at 1) ≡ var (first_number text p))
So text at (Undefined j) = known_here text (places_of text (sizes text) (next_line text 0)) (number text at j) ≡ false
So text at Stuck = Unit {0}
So text at SymbolForm = named_right (header_from any_count) (line_at text at) ≡ false
So text at SymbolRange = named_right (header_from (counts_of (sizes text))) (line_at text at) ≡ false
So text at SymbolTwice = named_right (header_from (counts_of (sizes text))) (line_at text at) ≡ true

-- ---- the walk

numbers_of : (width : ℕ) (text : List ℕ) (at : ℕ) → numbered width text at ≡ true → of_numbers width (line_at text at) ≡ true
unfolding numbered
numbers_of width text at h = and_right (ended text at) (of_numbers width (line_at text at)) h

-- a line that the walk finds has the variable
found_so : (n : ℕ) (text : List ℕ) (u from to : ℕ) → definer n text u from to < to
    → u ≡ var (first_number text (definer n text u from to))
unfolding definer
found_so zero text u from to h = absurd (omega arith)
found_so (suc n) text u from to h =
    go (bool_cases (ltb from to)) (bool_cases (eqb u (var (first_number text from)))) (found_so n text u (after_line text from) to) h
  where
    go : (ltb from to ≡ true) ⊎ (ltb from to ≡ false)
        → (eqb u (var (first_number text from)) ≡ true) ⊎ (eqb u (var (first_number text from)) ≡ false)
        → (definer n text u (after_line text from) to < to → u ≡ var (first_number text (definer n text u (after_line text from) to)))
        → definer (suc n) text u from to < to → u ≡ var (first_number text (definer (suc n) text u from to))
    go (inl t) (inl e) on = rw (t, e) (λ h. eqb-true u (var (first_number text from)) e)
    go (inl t) (inr e) on = rw (t, e) on
    go (inr t) e on = rw t (λ h. absurd (omega arith))

earlier_so : (text : List ℕ) (p : Places) (l at : ℕ) → earlier text p l at < at → var l ≡ var (first_number text (earlier text p l at))
unfolding earlier
earlier_so text p l at h = go (min p.outputs at) (definer (length text) text (var l) p.inputs (min p.outputs at)) refl h
  where
    go : (to first : ℕ) → first ≡ definer (length text) text (var l) p.inputs to → earlier_by text p (var l) at to first < at
        → var l ≡ var (first_number text (earlier_by text p (var l) at to first))
    go to first is = by (bool_cases (ltb first to))
      where
        by : (ltb first to ≡ true) ⊎ (ltb first to ≡ false) → earlier_by text p (var l) at to first < at
            → var l ≡ var (first_number text (earlier_by text p (var l) at to first))
        by (inl t) =
            rw t
            (λ h.
            let less : definer (length text) text (var l) p.inputs to < to = omega (arith, is, ltb-true first to t) in
            found_so (length text) text (var l) p.inputs to less ∙ ap (λ (k : ℕ). var (first_number text k)) (sym is))
        by (inr t) = rw t (λ h. found_so (length text) text (var l) p.gates at h)

-- ---- one test after another

-- a test on a number of the line is one on a number that is there
there : (b c : Bool) → cond b (not c) false ≡ true → c ≡ false
there true true e = sym e
there true false e = refl
there false c e = absurd (true≢false (sym e))

module _ (text : List ℕ) (at : ℕ) where
  abbrev Told : Cause → Type 0
  Told = So text at

  by_test : (b : Bool) (x y : Cause) → (b ≡ true → Told x) → (b ≡ false → Told y) → Told (cond b x y)
  by_test true x y holds fails = holds refl
  by_test false x y holds fails = fails refl

  abbrev places : Places
  places = places_of text (sizes text) (next_line text 0)

  module _ (width : ℕ) where
    unknown_so : (j : ℕ) → unknown_at text at width j places ≡ true → known_here text places (get_or (numbers_at text at) j 0) ≡ false
    unfolding unknown_at
    unknown_so j e = there (ltb j width) (known_here text places (get_or (numbers_at text at) j 0)) e

    out_so : (j m : ℕ) → out text at width j m ≡ true → used_right m (get_or (numbers_at text at) j 0) ≡ false
    unfolding out
    out_so j m e = there (ltb j width) (used_right m (get_or (numbers_at text at) j 0)) e

    later_so : Told (later_cause text at width places)
    unfolding later_cause
    later_so =
        by_test (unknown_at text at width 1 places) _ _ (λ e. unknown_so 1 e)
        (λ e. by_test (unknown_at text at width 2 places) _ _ (λ f. unknown_so 2 f) (λ f. tt))

    uses_so : (defines : Bool) → Told (uses_cause text at width defines places)
    unfolding uses_cause
    uses_so defines =
        by_test defines _ _ (λ e. later_so)
        (λ e. by_test (unknown_at text at width 0 places) _ _ (λ f. unknown_so 0 f) (λ f. later_so))

    twice_so : (defines : Bool) → Told (twice_cause text at width defines places)
    unfolding twice_cause
    twice_so defines =
        let p = earlier text places (number text at 1) at in
        by_test (ltb p at) _ _ (λ e. (ltb-true p at e, earlier_so text places (number text at 1) at (ltb-true p at e)))
        (λ e. uses_so defines)

    ranges_so : (defines : Bool) → Told (range_cause text at width defines (header text).m places)
    unfolding range_cause after_ranges
    ranges_so defines =
        let m = (header text).m in
        by_test (out text at width 0 m) _ _ (λ e. out_so 0 m e)
        (λ e.
        by_test (out text at width 1 m) _ _ (λ f. out_so 1 m f)
        (λ f.
        by_test (out text at width 2 m) _ _ (λ g. out_so 2 m g) (λ g. by_test defines _ _ (λ h. twice_so defines) (λ h. uses_so defines))))

    literals_so : (defines : Bool) → Told (literals_cause text at width defines (header text).m places)
    unfolding literals_cause defined_cause
    literals_so defines =
        by_test defines _ _
        (λ e.
        by_test (eqb (number text at 1 % 2) 0) _ _
        (λ f. by_test (ltb (number text at 1) 2) _ _ (λ g. ltb-true (number text at 1) 2 g) (λ g. ranges_so defines))
        (λ f. f))
        (λ e. ranges_so defines)

    form_so : (defines : Bool) → Told (form_cause text at width defines (header text).m places)
    unfolding form_cause
    form_so defines = by_test (numbered width text at) _ _ (λ e. literals_so defines) (λ e. e)

  latch_so : Told (latch_cause text at (header text).newer (header text).m places)
  unfolding latch_cause third_cause start_cause latch_numbers
  latch_so =
      by_test (numbered 2 text at) _ _ (λ e. literals_so 2 true)
      (λ e.
      by_test (numbered 3 text at) _ _
      (λ f.
      by_test (header text).newer _ _
      (λ g. by_test (start_right (latch_form true) (numbers_at text at)) _ _ (λ h. literals_so 2 true) (λ h. (numbers_of 3 text at f, h)))
      (λ g. (numbers_of 3 text at f, g)))
      (λ f. by_test (header text).newer _ _ (λ g. (e, f)) (λ g. e)))

  closed_so : (kind : Kind) → Told (closed_cause text at kind (header text) (sizes text) (next_line text 0))
  unfolding symbol_cause count_cause
  closed_so HeaderLine = tt
  closed_so Input = form_so 1 true
  closed_so Latch = latch_so
  closed_so Output = form_so 1 false
  closed_so Bad = form_so 1 false
  closed_so Constraint = form_so 1 false
  closed_so Count = by_test (numbered 1 text at) _ _ (λ e. tt) (λ e. e)
  closed_so Justice = form_so 1 false
  closed_so Fairness = form_so 1 false
  closed_so Gate = form_so 3 true
  closed_so Symbol =
      by_test (named_right (header_from any_count) (line_at text at)) _ _
      (λ e. by_test (named_right (header_from (counts_of (sizes text))) (line_at text at)) _ _ (λ f. f) (λ f. f))
      (λ e. e)

  line_so : (kind : Kind) → Told (line_cause text at kind (header text) (sizes text) (next_line text 0))
  unfolding line_cause
  line_so kind =
      by_test (leb (length text) at) _ _ (λ e. leb-true (length text) at e)
      (λ e. by_test (ended text at) _ _ (λ f. closed_so kind) (λ f. f))

-- a header that is not right, though 'aag' and five to nine numbers stand there, has too large a sum
sum_over : (text : List ℕ) → header_test text ≡ false → starts text ≡ true → five_to_nine text ≡ true
    → (header text).m < (header text).i + (header text).l + (header text).a
unfolding five_to_nine
sum_over text wrong start five =
    leb-false _ _ (sym (test_is text start ∙ (rw five)) ∙ wrong)

header_so : (text : List ℕ) → header_test text ≡ false → So text 0 (header_fault text).cause
unfolding header_fault header_cause
header_so text wrong =
    by_test text 0 (eqb (length text) 0) _ _ (λ e. omega (arith, eqb-true (length text) 0 e))
    (λ e.
    by_test text 0 (starts text) _ _
    (λ g.
    by_test text 0 (ended text 0) _ _
    (λ f. by_test text 0 (five_to_nine text) _ _ (λ h. sum_over text wrong g h) (λ h. h))
    (λ f. f))
    (λ g. g))

-- What is told of the line at a place is so; of a text whose header is not right, of its first line.
pub told_so : (text : List ℕ) (at : ℕ) → (header_test text ≡ false → at ≡ 0) → So text at (circuit_fault text at).cause
unfolding circuit_fault
told_so text at first = go (bool_cases (header_test text))
  where
    go : (header_test text ≡ true) ⊎ (header_test text ≡ false) → So text at (circuit_fault text at).cause
    go (inl t) = rw t (line_so text at (kind_of (sizes text) (line_number text at)))
    go (inr t) = rw t (rw (first t) (header_so text t))

-- What is wrong with a line, in plain words, and what to do.
use Rattle.std.specs.Prelude.{ℕ, List, Option, None, Some}
use Rattle.text.specs.Ascii.{ascii}
use Rattle.text.specs.Filled.{filled}
use Rattle.text_faults.specs.declared.kind.Kind.{Kind}
use Rattle.text_faults.specs.declared.kind.Kind.TheVariants.{Header, Input, Latch, Output, Bad, Constraint, Count, Justice, Fairness, Gate, Symbol}
use Rattle.text_faults.specs.declared.cause.Cause.{Cause}
use Rattle.text_faults.specs.declared.cause.Cause.TheVariants.{Missing, Open, NoAag, HeaderNumbers, HeaderSum, Numbers, LatchNumbers, Reset, Start, Odd, Small, Range, Twice, Undefined, Stuck, SymbolForm, SymbolRange, SymbolTwice}
use Rattle.text_faults.specs.declared.lemmas.Cause as Lemma
use Rattle.text_faults.specs.declared.lemmas.Cause.TheVariants as lemma
use Rattle.text_faults.specs.Places.{line_number}

-- which line of a circuit it is
abbrev pub kind_text : Kind → List ℕ
kind_text Header = ascii ", the header: "
kind_text Input = ascii ", an input: "
kind_text Latch = ascii ", a latch: "
kind_text Output = ascii ", an output: "
kind_text Bad = ascii ", a bad literal: "
kind_text Constraint = ascii ", a constraint: "
kind_text Count = ascii ", the count of a justice property: "
kind_text Justice = ascii ", a literal of a justice property: "
kind_text Fairness = ascii ", a fairness literal: "
kind_text Gate = ascii ", a gate: "
kind_text Symbol = ascii ", after the gates: "

-- why it is refused
abbrev pub cause_text : List ℕ → Cause → List ℕ
cause_text text Missing = ascii "the text ends before this line\n"
cause_text text Open = ascii "no newline ends the line: the text may have been cut\n"
cause_text text NoAag =
    ascii "it does not start with aag and a space, as ASCII AIGER does: aag M I L O A (where yosys writes it: write_aiger -ascii)\n"
cause_text text HeaderNumbers =
    ascii "aag is not followed by five to nine numbers (M I L O A, or M I L O A B C J F with the last of them left out where they are 0), with one space before each and nothing else\n"
cause_text text HeaderSum = ascii "I + L + A is more than M, so more variables are defined than there are\n"
cause_text text (Numbers width) =
    filled (ascii "numbers wanted: #, of digits alone, with one space between two and nothing else on the line\n") width 0 0
cause_text text LatchNumbers =
    ascii "numbers wanted: two, or three with its start value, of digits alone, with one space between two and nothing else on the line\n"
cause_text text Reset =
    ascii "a third number, its start value, under a header of five numbers: give the header a sixth, aag M I L O A 0, and the text is of AIGER 1.9, which has start values (or have yosys start every latch at 0: write_aiger -zinit)\n"
cause_text text Start =
    ascii "the third number, its start value, is not 0, 1 or the literal of the latch itself (0 and 1: it starts at that value; its own literal: at either)\n"
cause_text text Odd = ascii "the literal that it defines is odd, but a literal that is defined is twice its variable\n"
cause_text text Small = ascii "the literal that it defines is a constant, but a literal that is defined is 2 at least\n"
cause_text text (Range j) = filled (ascii "number # is over 2M+1, the largest literal by the header\n") j 0 0
cause_text text (Twice place) = filled (ascii "line # defines this variable already\n") (line_number text place) 0 0
cause_text text (Undefined j) = filled (ascii "number # is of a variable that no line defines\n") j 0 0
cause_text text Stuck =
    ascii "it cannot be worked out from constants, inputs and latches: it goes in a circle, or needs a gate that is at fault\n"
cause_text text SymbolForm = ascii "neither a symbol (i, l, o, b, c, j or f, at once a position below I, L, O, B, C, J or F, a space and a name) nor the line c\n"
cause_text text SymbolRange = ascii "there is no such position: positions are counted from 0, and a letter has as many as the header says (i I, l L, o O, b B, c C, j J, f F), none where it leaves that number out\n"
cause_text text SymbolTwice = ascii "an earlier line names this position\n"

-- why a line of lemmas is refused, over so many latches
abbrev pub lemma_cause_text : ℕ → Option Lemma.Cause → List ℕ
lemma_cause_text latches (Some lemma.Open) = ascii "no newline ends the line: the text may have been cut\n"
lemma_cause_text latches (Some (lemma.Word j)) =
    filled (ascii "word # is not a number, with or without a - before it; it is empty where the line is, or where a space is too many\n") j 0 0
lemma_cause_text latches (Some (lemma.Inner j)) = filled (ascii "number # is 0, which stands only at the end, and the line goes on (perhaps with a space)\n") j 0 0
lemma_cause_text latches (Some (lemma.Over j)) = filled (ascii "number # names no latch: by its header the circuit has # of them\n") j latches 0
lemma_cause_text latches (Some lemma.NoZero) = ascii "the line does not end with a 0 without a sign\n"
lemma_cause_text latches None = ascii "no lemma\n"

-- The circuit text, ASCII AIGER of 2007 and of edition 1.9: from any list of bytes to a circuit, or the first line at fault.
use Rattle.std.specs.Prelude.{ℕ, zero, suc, ◌+◌, ◌*◌, ◌%◌, Bool, true, false, not, ◌&&◌, ◌||◌, cond, List, [], ◌∷◌, ◌++◌, map, length, get_or, drop, ltb, leb, eqb}
use Rattle.std.proofs.Math.Option.{Option, none, some}
use Rattle.meaning.specs.Clauses.{any, all}
use Rattle.meaning.specs.File.{between, file_most}
use Rattle.meaning.specs.Circuit.{Circuit, Latch, Gate, Start, at_0, at_1, at_either, var, variables, input_variables, latch_variables}
use Rattle.meaning.specs.Built.{among}
use Rattle.meaning.specs.Lines.{space, until, line_at, ended, next_line, words, is_number, decimal, of_numbers}

-- ---- the header: aag M I L O A, or aag M I L O A B C J F

unfoldable pub same_bytes : List ℕ → List ℕ → Bool
same_bytes [] [] = true
same_bytes [] (b ∷ bs) = false
same_bytes (a ∷ as') [] = false
same_bytes (a ∷ as') (b ∷ bs) = eqb a b && same_bytes as' bs

-- the bytes of 'aag'
abbrev pub aag : List ℕ
aag = 97 ∷ 97 ∷ 103 ∷ []

-- the header's numbers, and whether it is of edition 1.9
pub record Header : Type 0 where
  pub m : ℕ
  pub i : ℕ
  pub l : ℕ
  pub o : ℕ
  pub a : ℕ
  pub b : ℕ
  pub c : ℕ
  pub j : ℕ
  pub f : ℕ
  pub newer : Bool

-- the number that stands as word j of a line; 0 where the line has no such word
unfoldable pub number_in : List ℕ → ℕ → ℕ
number_in line j = decimal (get_or (words line) j [])

-- Six numbers or more are edition 1.9; those left out are 0.
unfoldable pub header_of : List ℕ → Header
header_of line =
    record {
      m = number_in line 1;
      i = number_in line 2;
      l = number_in line 3;
      o = number_in line 4;
      a = number_in line 5;
      b = number_in line 6;
      c = number_in line 7;
      j = number_in line 8;
      f = number_in line 9;
      newer = ltb 6 (length (words line));
    }

-- 'aag' and five to nine numbers, with I + L + A at most M
unfoldable pub header_right : List ℕ → Bool
header_right line =
    between 6 10 (length (words line)) && same_bytes (get_or (words line) 0 []) aag && all is_number (drop 1 (words line))
    && leb ((header_of line).i + (header_of line).l + (header_of line).a) (header_of line).m

-- ---- the lines of the sections

-- how many numbers such a line has; whether the first defines a variable; whether a start value may follow them; whether it is a count and no
-- literal
pub record Form : Type 0 where
  pub width : ℕ
  pub defines : Bool
  pub starts : Bool
  pub counts : Bool

unfoldable pub input_form : Form
input_form = record { width = 1; defines = true; starts = false; counts = false }

-- a latch: only edition 1.9 has start values
unfoldable pub latch_form : Bool → Form
latch_form newer = record { width = 2; defines = true; starts = newer; counts = false }

-- an output; a bad, constraint, justice or fairness literal
unfoldable pub used_form : Form
used_form = record { width = 1; defines = false; starts = false; counts = false }

-- how many literals a justice property has
unfoldable pub count_form : Form
count_form = record { width = 1; defines = false; starts = false; counts = true }

unfoldable pub gate_form : Form
gate_form = record { width = 3; defines = true; starts = false; counts = false }

-- A literal that is used is 0 to 2M+1.
unfoldable pub used_right : ℕ → ℕ → Bool
used_right m l = leb l (2 * m + 1)

-- A literal that is defined is even, 2 to 2M, and no variable is defined twice: it is none of those that were defined before (which is not
-- judged in a text that is too long).
unfoldable pub defined_right : Bool → ℕ → List ℕ → ℕ → Bool
defined_right judged m before l = eqb (l % 2) 0 && between 2 (2 * m) l && not (judged && among (var l) before)

unfoldable pub literals_right : Form → Bool → ℕ → List ℕ → List ℕ → Bool
literals_right f judged m before [] = true
literals_right f judged m before (l ∷ ls) =
    f.counts || (cond f.defines (defined_right judged m before l) (used_right m l) && all (used_right m) ls)

-- so many numbers or, where a start value may follow, one more
unfoldable pub width_right : Form → List ℕ → Bool
width_right f line = of_numbers f.width line || (f.starts && of_numbers (suc f.width) line)

-- A start value is 0, 1 or the literal that the line defines; a line without one is as one with 0.
unfoldable pub start_right : Form → List ℕ → Bool
start_right f numbers =
    not f.starts || (ltb (get_or numbers f.width 0) 2 || eqb (get_or numbers f.width 0) (get_or numbers 0 0))

-- a line, where it starts, and its numbers
pub record Line : Type 0 where
  pub at : ℕ
  pub numbers : List ℕ

unfoldable pub numbers_at : List ℕ → ℕ → List ℕ
numbers_at text at = map decimal (words (line_at text at))

unfoldable pub line_right : Form → Bool → ℕ → List ℕ → List ℕ → ℕ → Bool
line_right f judged m before text at =
    ended text at && width_right f (line_at text at) && literals_right f judged m before (numbers_at text at)
    && start_right f (numbers_at text at)

-- the variables defined before the next line
unfoldable pub before_next : Form → List ℕ → List ℕ → List ℕ
before_next f before numbers = cond f.defines (before ++ (var (get_or numbers 0 0) ∷ [])) before

-- lines that are read, and where the next one starts; or the place of one at fault
pub data Section : Type 0 where
  fault : ℕ → Section
  lines : List Line → ℕ → Section

unfoldable pub line_and : Line → Section → Section
line_and l (fault at) = fault at
line_and l (lines ls next) = lines (l ∷ ls) next

unfoldable pub if_right : Bool → ℕ → Section → Section
if_right true at on = on
if_right false at on = fault at

-- So many lines of a form, one after another; at fault is the first that is not right. A line that is missing starts where the text ends, and
-- has no newline.
unfoldable pub section : Form → Bool → ℕ → List ℕ → ℕ → List ℕ → ℕ → Section
section f judged m text zero before at = lines [] at
section f judged m text (suc count) before at =
    if_right (line_right f judged m before text at) at
    (line_and (record { at = at; numbers = numbers_at text at })
    (section f judged m text count (before_next f before (numbers_at text at)) (next_line text at)))

-- ---- symbol lines, and the comment

-- a position that is named: the letter, and the position
pub record Symbol : Type 0 where
  pub letter : ℕ
  pub at : ℕ

unfoldable pub same_symbol : Symbol → Symbol → Bool
same_symbol a b = eqb a.letter b.letter && eqb a.at b.at

-- i, l, o, b, c, j or f has so many positions; any other letter has none
unfoldable pub positions : Header → ℕ → ℕ
positions h letter =
    cond (eqb letter 105) h.i
    (cond (eqb letter 108) h.l
    (cond (eqb letter 111) h.o
    (cond (eqb letter 98) h.b (cond (eqb letter 99) h.c (cond (eqb letter 106) h.j (cond (eqb letter 102) h.f 0))))))

-- the digits of the position: what stands between the letter and the first space
unfoldable pub symbol_digits : List ℕ → List ℕ
symbol_digits line = until space (drop 1 line)

unfoldable pub symbol_of : List ℕ → Symbol
symbol_of line = record { letter = get_or line 0 0; at = decimal (symbol_digits line) }

-- a letter, at once a position below I, L, O, B, C, J or F, one space, a name of one byte at least; no position of a letter twice
unfoldable pub symbol_right : Bool → Header → List Symbol → List ℕ → Bool
symbol_right judged h before line =
    is_number (symbol_digits line) && ltb (symbol_of line).at (positions h (symbol_of line).letter)
    && leb (length (symbol_digits line) + 3) (length line) && not (judged && any (same_symbol (symbol_of line)) before)

-- a line 'c': what follows it is not lines, and may be anything
unfoldable pub begins_comment : List ℕ → Bool
begins_comment line = same_bytes line (99 ∷ [])

unfoldable pub unless_done : Bool → Option ℕ → Option ℕ
unless_done true on = none
unless_done false on = on

unfoldable pub fault_unless : Bool → ℕ → Option ℕ → Option ℕ
fault_unless true at on = on
fault_unless false at on = some at

-- Symbol lines in any order, then, perhaps, the comment: the place of the first line at fault, if there is one. Each line takes a byte at
-- least, so there are no more lines than bytes.
unfoldable pub symbols_fault : ℕ → Bool → Header → List ℕ → List Symbol → ℕ → Option ℕ
symbols_fault zero judged h text before at = none
symbols_fault (suc most) judged h text before at =
    unless_done (leb (length text) at)
    (fault_unless (ended text at) at
    (unless_done (begins_comment (line_at text at))
    (fault_unless (symbol_right judged h before (line_at text at)) at
    (symbols_fault most judged h text (before ++ (symbol_of (line_at text at) ∷ [])) (next_line text at)))))

-- ---- what lines use

-- the literal that stands as number j of a line
unfoldable pub at_number : ℕ → Line → ℕ
at_number j l = get_or l.numbers j 0

-- a latch's third number: 0, 1, or else its own literal
unfoldable pub start_of : ℕ → Start
start_of z = cond (eqb z 0) at_0 (cond (eqb z 1) at_1 at_either)

unfoldable pub latch_of : Line → Latch
latch_of l = record { lit = at_number 0 l; next = at_number 1 l; start = start_of (at_number 2 l) }

unfoldable pub gate_of : Line → Gate
gate_of l = record { lit = at_number 0 l; left = at_number 1 l; right = at_number 2 l }

-- what stands between latches and gates: outputs, bad literals, constraints, the counts of the justice properties, their literals, fairness
pub record Properties : Type 0 where
  pub outputs : List Line
  pub bads : List Line
  pub constraints : List Line
  pub counts : List Line
  pub justice : List Line
  pub fairness : List Line

-- the sections of lines, as they are read
pub record Sections : Type 0 where
  pub inputs : List Line
  pub latches : List Line
  pub properties : Properties
  pub gates : List Line

unfoldable pub circuit_of : Sections → Circuit
circuit_of s =
    record {
      inputs = map (at_number 0) s.inputs;
      latches = map latch_of s.latches;
      outputs = map (at_number 0) s.properties.outputs;
      bads = map (at_number 0) s.properties.bads;
      constraints = map (at_number 0) s.properties.constraints;
      justice = length s.properties.counts;
      fairness = length s.properties.fairness;
      gates = map gate_of s.gates;
    }

-- a variable that a line may use: 0, or one that some line defines
unfoldable pub known : Circuit → ℕ → Bool
known c u = eqb u 0 || among u (variables c)

-- constants, inputs and latches are given
unfoldable pub given : Circuit → ℕ → Bool
given c u = eqb u 0 || (among u (input_variables c) || among u (latch_variables c))

-- A variable is worked out in so many rounds if it is given, or is that of a gate whose two literals are worked out in one round less.
unfoldable pub worked_out : ℕ → Circuit → ℕ → Bool
worked_out zero c u = given c u
worked_out (suc rounds) c u =
    given c u
    || any
    (λ (g : Gate). eqb u (var g.lit) && (worked_out rounds c (var g.left) && worked_out rounds c (var g.right)))
    c.gates

-- A gate can be worked out: as many rounds as there are gates are enough for any (`rounds-enough` in `circuit_laws`).
unfoldable pub gate_works : Circuit → Gate → Bool
gate_works c g =
    worked_out (length c.gates) c (var g.left) && worked_out (length c.gates) c (var g.right)

-- the place of the first line that does not pass
unfoldable pub first_not : (Line → Bool) → List Line → Option ℕ
first_not test [] = none
first_not test (l ∷ ls) = fault_unless (test l) l.at (first_not test ls)

unfoldable pub or_else : Option ℕ → Option ℕ → Option ℕ
or_else none next = next
or_else (some at) next = some at

-- the first line whose number j is of a variable that no line defines
unfoldable pub first_unknown : Circuit → ℕ → List Line → Option ℕ
first_unknown c j ls = first_not (λ (l : Line). known c (var (at_number j l))) ls

-- the first line that uses a variable that no line defines, or whose gate cannot be worked out
unfoldable pub uses_fault : Circuit → Sections → Option ℕ
uses_fault c s =
    or_else (first_unknown c 1 s.latches)
    (or_else (first_unknown c 0 s.properties.outputs)
    (or_else (first_unknown c 0 s.properties.bads)
    (or_else (first_unknown c 0 s.properties.constraints)
    (or_else (first_unknown c 0 s.properties.justice)
    (or_else (first_unknown c 0 s.properties.fairness) (first_not (λ (l : Line). gate_works c (gate_of l)) s.gates))))))

-- ---- the whole text

-- 13: the place of the line at fault; or the circuit that is read
pub data Text : Type 0 where
  wrong : ℕ → Text
  right : Circuit → Text

unfoldable pub on_lines : Section → (List Line → ℕ → Text) → Text
on_lines (fault at) on = wrong at
on_lines (lines ls next) on = on ls next

unfoldable pub on_none : Option ℕ → Text → Text
on_none (some at) on = wrong at
on_none none on = on

-- the variables that lines of a section define
unfoldable pub defined_in : List Line → List ℕ
defined_in ls = map (λ (l : Line). var (at_number 0 l)) ls

-- within 65,536 bytes everything is judged
unfoldable pub is_judged : List ℕ → Bool
is_judged text = leb (length text) file_most

-- when all lines are read: what they use, in a text that is not too long
unfoldable pub used_of : Bool → Sections → Text
used_of judged s = on_none (cond judged (uses_fault (circuit_of s) s) none) (right (circuit_of s))

-- all the counts together
unfoldable pub total : List Line → ℕ
total [] = 0
total (l ∷ ls) = at_number 0 l + total ls

-- the lines between latches and gates, one section after another
unfoldable pub on_properties : Bool → Header → List ℕ → ℕ → (Properties → ℕ → Text) → Text
on_properties judged h text at on =
    on_lines (section used_form judged h.m text h.o [] at)
    (λ outputs at₁.
    on_lines (section used_form judged h.m text h.b [] at₁)
    (λ bads at₂.
    on_lines (section used_form judged h.m text h.c [] at₂)
    (λ constraints at₃.
    on_lines (section count_form judged h.m text h.j [] at₃)
    (λ counts at₄.
    on_lines (section used_form judged h.m text (total counts) [] at₄)
    (λ justice at₅.
    on_lines (section used_form judged h.m text h.f [] at₅)
    (λ fairness at₆.
    on
    (record {
      outputs = outputs;
      bads = bads;
      constraints = constraints;
      counts = counts;
      justice = justice;
      fairness = fairness;
    })
    at₆))))))

-- the lines after the header, one section after another, then the symbols
unfoldable pub after_header : Bool → Header → List ℕ → ℕ → Text
after_header judged h text at =
    on_lines (section input_form judged h.m text h.i [] at)
    (λ inputs at₁.
    on_lines (section (latch_form h.newer) judged h.m text h.l (defined_in inputs) at₁)
    (λ latches at₂.
    on_properties judged h text at₂
    (λ properties at₃.
    on_lines (section gate_form judged h.m text h.a (defined_in inputs ++ defined_in latches) at₃)
    (λ gates at₄.
    on_none (symbols_fault (length text) judged h text [] at₄)
    (used_of judged (record { inputs = inputs; latches = latches; properties = properties; gates = gates }))))))

unfoldable pub if_header : Bool → Text → Text
if_header true on = on
if_header false on = wrong 0

unfoldable pub read_circuit_text : List ℕ → Text
read_circuit_text text =
    if_header (ended text 0 && header_right (line_at text 0))
    (after_header (is_judged text) (header_of (line_at text 0)) text (next_line text 0))

-- What the program says of its own words: what is wrong with them, its help, its version.
use Rattle.std.specs.Prelude.{ℕ, ◌&&◌, cond, List, [], ◌++◌, map, take, eqb, leb, Option, None, Some}
use Rattle.text.specs.Ascii.{ascii}
use Rattle.words.specs.declared.order.Fault.{Fault}
use Rattle.words.specs.declared.order.Fault.TheVariants.{Unknown, Superfluous, NotANumber, TooLarge, NoFile, NoJob, NoLemmas, NoLemmaFile, TwoInputs}
use Rattle.words.specs.declared.order.Order.{Order}

-- A word as it is shown: its first 200 bytes, and a `?` for each that is not a printable character of ASCII.
unfoldable pub shown_byte : ℕ → ℕ
shown_byte b = cond (leb 32 b && leb b 126) b 63

unfoldable pub shown : List ℕ → List ℕ
shown w = map shown_byte (take 200 w)

-- a word with a text before it and one after it
unfoldable pub around : List ℕ → List ℕ → List ℕ → List ℕ
around before w after = before ++ (shown w ++ after)

-- which numbers are allowed where so many words are named
unfoldable pub allowed : ℕ → List ℕ
allowed named = cond (eqb named 1) (ascii "the budget is 0 to 4294967295\n") (ascii "the space is 0 to 1048576 bytes\n")

-- what is wrong with a number
unfoldable pub number_text : ℕ → List ℕ → List ℕ → List ℕ
number_text named w why = around (ascii "trim: ") w why ++ allowed named

-- What is wrong with the words, and with which of them.
abbrev pub fault_by : Option Fault → ℕ → List ℕ → List ℕ
fault_by None named w = []
fault_by (Some Unknown) named w = around (ascii "trim: unknown word ") w (ascii ": say trim --help\n")
fault_by (Some Superfluous) named w = around (ascii "trim: superfluous word ") w (ascii ": say trim --help\n")
fault_by (Some NotANumber) named w = number_text named w (ascii " is not a number: ")
fault_by (Some TooLarge) named w = number_text named w (ascii " is too large: ")
fault_by (Some NoFile) named w = ascii "trim: no file is named: say trim --help\n"
fault_by (Some NoJob) named w = ascii "trim: no job is named: say trim --help\n"
fault_by (Some NoLemmas) named w = ascii "trim: problem is of circuits, and no lemmas are named: add --lemmas FILE\n"
fault_by (Some NoLemmaFile) named w = ascii "trim: no file is named after --lemmas: add the name of the lemma file\n"
fault_by (Some TwoInputs) named w = ascii "trim: only one file can be standard input: name a file for the circuit or for the lemmas\n"

unfoldable pub fault_text : Order → List ℕ → List ℕ
fault_text o w = fault_by o.fault o.named w

-- the start of a line that ends in the system's own words
unfoldable pub not_opened : List ℕ → List ℕ
not_opened w = around (ascii "trim: cannot open ") w []

unfoldable pub not_read : List ℕ → List ℕ
not_read w = around (ascii "trim: cannot read ") w []

-- a circuit that was read as a problem file
unfoldable pub circuit_alone : List ℕ → List ℕ
circuit_alone w = around (ascii "trim: ") w (ascii " is a circuit, and its lemmas are missing: add --lemmas FILE\n")

unfoldable pub version_text : List ℕ
version_text = ascii "trim 1.0\n"

unfoldable pub help_text : List ℕ
help_text =
    ascii "Of a model checker's candidate lemmas, trim picks the few that carry the safety argument.\n"
    ++ (ascii "\n"
    ++ (ascii "  trim check FILE                    whether FILE is a problem file, and its size\n"
    ++ (ascii "  trim largest FILE [BUDGET]         the one inductive set that contains all others\n"
    ++ (ascii "  trim one FILE [BUDGET]             a minimal safe inductive set\n"
    ++ (ascii "  trim list FILE [BUDGET [SPACE]]    all minimal safe inductive sets, in order\n"
    ++ (ascii "  trim JOB CIRCUIT --lemmas LEMMAS   the same of a circuit and its candidate lemmas\n"
    ++ (ascii "  trim problem CIRCUIT --lemmas LEMMAS\n"
    ++ (ascii "                                     the problem file that they make, to standard output\n"
    ++ (ascii "  trim --help                        this text\n"
    ++ (ascii "  trim --version                     the version\n"
    ++ (ascii "\n"
    ++ (ascii "FILE      a problem file; - is standard input\n"
    ++ (ascii "CIRCUIT   a circuit in ASCII AIGER (aag, of 2007 or 1.9); - is standard input\n"
    ++ (ascii "LEMMAS    a lemma a line: numbers of latches, counted from 1, with - before one that is negated, and\n"
    ++ (ascii "          a 0 at the end; - is standard input. --lemmas LEMMAS stands anywhere after the job\n"
    ++ (ascii "BUDGET    how many decisions may be made, 0 to 4294967295; 1000000 where none is given\n"
    ++ (ascii "SPACE     how many bytes the sets of a listing may take, one for each candidate in each set,\n"
    ++ (ascii "          0 to 1048576; 65536 where none is given\n"
    ++ (ascii "--marks   anywhere after largest, one or list: digits alone, 1 for a candidate that is in the\n"
    ++ (ascii "          set and 0 for one that is not, a line for each set\n"
    ++ (ascii "\n"
    ++ (ascii "Answers go to standard output; refusals, and what is wrong with the words, to standard error.\n"))))))))))))))))))))))

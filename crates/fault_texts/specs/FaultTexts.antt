-- What is wrong with a file, in plain words.
use Rattle.std.specs.Prelude.{ℕ, List, ◌++◌}
use Rattle.meaning.specs.File.{file_most, n_most, m_most, clauses_most, lemmas_most}
use Rattle.text.specs.Ascii.{ascii}
use Rattle.text.specs.Filled.{filled}
use Rattle.faults.specs.declared.wrong.Fault.{Fault}
use Rattle.faults.specs.declared.wrong.Fault.TheVariants.{TooLong, HeadCut, BodyCut, KindOut, LengthOut, CountsOut, LiteralZero, NoState, NextValue, NoVariable, ManyClauses, ManyLemmas, Behind, Unknown}

-- what is wrong, in plain words
unfoldable pub fault_text : Fault → List ℕ
fault_text TooLong = filled (ascii "the file has more than # bytes\n") file_most 0 0
fault_text (HeadCut left) = filled (ascii "the record is cut short: of the 4 bytes of its head # are there\n") left 0 0
fault_text (BodyCut len left) = filled (ascii "the record is cut short: of the # bytes of its body # are there\n") len left 0
fault_text (KindOut kind) =
    filled (ascii "kind # is out of place: kinds are 1 to 6, the first record is of kind 1 and no other is, and kinds never go down\n") kind 0 0
fault_text (LengthOut len kind) =
    filled (ascii "a body of # bytes for a record of kind #: kind 1 has 4, kinds 2 to 5 an even number up to 128, and kind 6 has 0\n") len kind 0
fault_text (CountsOut n m) =
    filled (ascii "# state variables and # inputs and helpers, ") n m 0 ++ filled (ascii "but a file has 1 to # and 0 to #\n") n_most m_most 0
fault_text LiteralZero = filled (ascii "a literal 0, which names no variable\n") 0 0 0
fault_text (NoState v n) = filled (ascii "variable #, but the file has # state variables\n") v n 0
fault_text (NextValue v of) =
    filled (ascii "variable # is the next value of state variable #, but only state variables, inputs and helpers may stand here\n") v of 0
fault_text (NoVariable v n m most) =
    filled (ascii "variable #, but the file has 2*#+#") v n m ++ filled (ascii " = # variables\n") most 0 0
fault_text ManyClauses = filled (ascii "more than # clauses\n") clauses_most 0 0
fault_text ManyLemmas = filled (ascii "more than # lemmas\n") lemmas_most 0 0
fault_text (Behind left) = filled (ascii "bytes behind the end record: #\n") left 0 0
fault_text Unknown = filled (ascii "no refusal of a file\n") 0 0 0

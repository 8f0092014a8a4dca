-- What is wrong with a file: refusals 1 to 8, as a table by number.
use Rattle.std.specs.Prelude.{ℕ, ◌+◌, ◌-◌, cond, List, length, eqb, ltb, leb}
use Rattle.meaning.specs.Clauses.{variable}
use Rattle.meaning.specs.File.{Class, nothing, state, present, every, kind_row, two_at, literal_at, lemmas_most}
use Rattle.faults.specs.Places.{kind_there, around}
use Rattle.faults.specs.declared.wrong.Fault.{Fault}
use Rattle.faults.specs.declared.wrong.Fault.TheVariants.{TooLong, HeadCut, BodyCut, KindOut, LengthOut, CountsOut, LiteralZero, NoState, NextValue, NoVariable, ManyClauses, ManyLemmas, Behind, Unknown}

-- 2: of a head, or of a body, too few bytes are left
unfoldable pub cut : List ℕ → ℕ → Fault
cut file place = cond (ltb (length file - place) 4) (HeadCut (length file - place)) (BodyCut (two_at file place) (length file - place - 4))

-- a variable that the class of a record does not name: it is none of the state, or a next value, or too large
unfoldable pub unnamed : Class → ℕ → ℕ → ℕ → Fault
unnamed nothing v n m = NoState v n
unnamed state v n m = NoState v n
unnamed present v n m = cond (leb v (n + n)) (NextValue v (v - n)) (NoVariable v n m (n + n + m))
unnamed every v n m = NoVariable v n m (n + n + m)

-- 6: literal 0; or a variable that the record around it may not name, by the table of kinds
unfoldable pub literal_fault : List ℕ → ℕ → Fault
literal_fault file place =
    cond (eqb (variable (literal_at file place)) 0) LiteralZero
    (unnamed (kind_row (around file place).kind).class (variable (literal_at file place)) (two_at file 4) (two_at file 6))

-- 7: a lemma (kind 5) with 128 lemmas before it, or else a clause too many
unfoldable pub number_fault : List ℕ → ℕ → Fault
number_fault file place =
    cond (eqb (around file place).kind 5)
    (cond (eqb (around file place).position lemmas_most) ManyLemmas ManyClauses)
    ManyClauses

-- what a refusal's number says of the file, at its place
unfoldable pub fault_of : List ℕ → ℕ → ℕ → Fault
fault_of file number place =
    cond (eqb number 1) TooLong
    (cond (eqb number 2) (cut file place)
    (cond (eqb number 3) (KindOut (kind_there file place))
    (cond (eqb number 4) (LengthOut (two_at file place) (kind_there file place))
    (cond (eqb number 5) (CountsOut (two_at file (place + 4)) (two_at file (place + 6)))
    (cond (eqb number 6) (literal_fault file place)
    (cond (eqb number 7) (number_fault file place)
    (cond (eqb number 8) (Behind (length file - place))
    Unknown)))))))

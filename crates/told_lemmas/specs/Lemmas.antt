-- A candidate lemma with its literals, on a line.
use Rattle.std.specs.Prelude.{ℕ, cond, List, [], ◌∷◌, ◌++◌, length, get_or, ltb}
use Rattle.meaning.specs.Clauses.{Literal, pos, neg, Clause}
use Rattle.meaning.specs.File.{Reading, accepted, rejected, read}
use Rattle.text.specs.Ascii.{ascii}
use Rattle.text.specs.Filled.{filled}

-- a literal, with a space before it
unfoldable pub literal_text : Literal → List ℕ
literal_text (pos v) = filled (ascii " #") v 0 0
literal_text (neg v) = filled (ascii " -#") v 0 0

-- literals one after another, and the line's end
unfoldable pub literals_text : Clause → List ℕ
literals_text [] = ascii "\n"
literals_text (l ∷ ls) = literal_text l ++ literals_text ls

-- a clause; an empty one never holds
unfoldable pub clause_text : Clause → List ℕ
clause_text [] = ascii " no literal, never true\n"
clause_text (l ∷ ls) = literals_text (l ∷ ls)

-- the lemma at a position of the problem that a file is read as
unfoldable pub lemma_text : Reading → ℕ → List ℕ
lemma_text (accepted p) position =
    cond (ltb position (length p.lemmas)) (clause_text (get_or p.lemmas position [])) (ascii " there is none\n")
lemma_text (rejected r) position = ascii " there is none\n"

unfoldable pub lemma_line : List ℕ → ℕ → List ℕ
lemma_line file position = filled (ascii "  lemma #:") position 0 0 ++ lemma_text (read file) position

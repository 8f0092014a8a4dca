-- A problem written as a file: the bytes that `read` reads back as that problem, where it is within the limits.
use Rattle.std.specs.Prelude.{ℕ, ◌-◌, ◌/◌, ◌%◌, List, [], ◌∷◌, ◌++◌, length}
use Rattle.meaning.specs.Clauses.{Literal, pos, neg, Clause}
use Rattle.meaning.specs.Meaning.{Problem}

-- two bytes, little-endian
unfoldable pub two : ℕ → List ℕ
two u = u % 256 ∷ u / 256 ∷ []

unfoldable pub literal_bytes : Literal → List ℕ
literal_bytes (pos v) = two v
literal_bytes (neg v) = two (65536 - v)

unfoldable pub clause_bytes : Clause → List ℕ
clause_bytes [] = []
clause_bytes (l ∷ c) = literal_bytes l ++ clause_bytes c

-- a record: the length of the body, the kind, the body
unfoldable pub record_bytes : ℕ → List ℕ → List ℕ
record_bytes kind body = two (length body) ++ (two kind ++ body)

unfoldable pub clause_records : ℕ → List Clause → List ℕ
clause_records kind [] = []
clause_records kind (c ∷ cs) = record_bytes kind (clause_bytes c) ++ clause_records kind cs

-- the file of a problem
unfoldable pub file_of : Problem → List ℕ
file_of p =
    record_bytes 1 (two p.n ++ two p.m) ++ clause_records 2 p.init ++ clause_records 3 p.tr
    ++ clause_records 4 p.bad ++ clause_records 5 p.lemmas ++ record_bytes 6 []

-- How many bytes a written problem takes.
use Rattle.std.specs.Prelude.{ℕ, ◌+◌, ◌*◌, ◌≤◌, ◌≡◌, refl, List, [], ◌∷◌, length}
use Rattle.std.proofs.Common.{arith, length-append}
use Rattle.meaning.specs.Clauses.{Clause}
use Rattle.meaning.specs.Meaning.{Problem}
use Rattle.meaning.specs.Filed.{two, clause_bytes, record_bytes, clause_records, file_of}
use Rattle.filed.specs.Bytes.{clause_length}

-- the literals of all clauses
unfoldable pub literal_total : List Clause → ℕ
literal_total [] = 0
literal_total (c ∷ cs) = length c + literal_total cs

pub record_length : (kind : ℕ) (body : List ℕ) → length (record_bytes kind body) ≡ 4 + length body
unfolding record_bytes two
record_length kind body = omega arith

-- 4 bytes for each clause, and 2 for each literal
pub records_length : (kind : ℕ) (cs : List Clause) → length (clause_records kind cs) ≡ 4 * length cs + 2 * literal_total cs
unfolding clause_records literal_total
records_length kind [] = refl
records_length kind (c ∷ cs) =
    rw length-append (omega (arith, record_length kind (clause_bytes c), clause_length c, records_length kind cs))

-- no more clauses than bytes
pub records_least : (kind : ℕ) (cs : List Clause) → length cs ≤ length (clause_records kind cs)
records_least kind cs = omega (arith, records_length kind cs)

-- 8 bytes for the first record, 4 for the last
pub file_length : (p : Problem)
    → length (file_of p)
    ≡ 12 + length (clause_records 2 p.init) + length (clause_records 3 p.tr) + length (clause_records 4 p.bad)
    + length (clause_records 5 p.lemmas)
unfolding file_of record_bytes two
file_length p = simp length-append (omega arith)

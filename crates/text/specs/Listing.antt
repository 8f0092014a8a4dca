-- What the listing program prints.
use Rattle.std.specs.Prelude.{ℕ, zero, suc, ◌%◌, cond, List, [], ◌++◌, map, take, drop, eqb}
use Rattle.meaning.specs.Calls.{Report, check_call, list_call}
use Rattle.text.specs.Ascii.{ascii}
use Rattle.text.specs.Numbers.{digit, decimal}

-- a word and two numbers, on a line
unfoldable pub first_line : List ℕ → ℕ → ℕ → List ℕ
first_line word a b = word ++ (ascii " " ++ (decimal a ++ (ascii " " ++ (decimal b ++ ascii "\n"))))

-- a mark in digits
unfoldable pub mark_digit : ℕ → ℕ
mark_digit b = digit (b % 10)

-- then each row in digits on its own line: so many rows of k marks, one behind the other
unfoldable pub row_lines : ℕ → ℕ → List ℕ → List ℕ
row_lines zero k marks = []
row_lines (suc rows) k marks = map mark_digit (take k marks) ++ (ascii "\n" ++ row_lines rows k (drop k marks))

-- Its first line is a word, the rows, the decisions; then each row in digits on its own line.
unfoldable pub listed : List ℕ → Report → ℕ → List ℕ → List ℕ
listed word r k marks = first_line word r.rows r.decisions ++ row_lines r.rows k marks

-- A file refusal prints bad, its number, its place.
unfoldable pub refused : Report → List ℕ
refused r = first_line (ascii "bad") r.number r.place

-- The word is complete, spent for 10, none for 11, room for 12.
unfoldable pub listing_text : Report → ℕ → List ℕ → List ℕ
listing_text r k marks =
    cond (eqb r.number 0) (listed (ascii "complete") r k marks)
    (cond (eqb r.number 10) (listed (ascii "spent") r k marks)
    (cond (eqb r.number 11) (listed (ascii "none") r k marks)
    (cond (eqb r.number 12) (listed (ascii "room") r k marks)
    (refused r))))

-- The listing program reads a file on standard input, with budget 1,000,000 and 65,536 bytes of rows: what it prints, by any budget and
-- any lent bytes
unfoldable pub program_text : List ℕ → ℕ → List ℕ → List ℕ
program_text file budget rows =
    listing_text (list_call file budget rows).report (check_call file 0 []).report.k (list_call file budget rows).lent

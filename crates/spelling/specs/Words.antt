-- Words of a command line: lists of bytes.
use Rattle.std.specs.Prelude.{ℕ, Bool, ◌&&◌, List, length, take, leb}
use Rattle.std.specs.Str.{bytes_eq}
use Rattle.text.specs.Ascii.{ascii}

-- whether two words are the same
abbrev pub same : List ℕ → List ℕ → Bool
same a b = bytes_eq a b

-- whether a word starts with two dashes
abbrev pub is_option : List ℕ → Bool
is_option w = leb 2 (length w) && same (take 2 w) (ascii "--")

-- whether a file starts as a circuit does
abbrev pub is_circuit : List ℕ → Bool
is_circuit file = leb 3 (length file) && same (take 3 file) (ascii "aag")

-- Laws of the lines that are written: a mark more of a row, all rows.
use Rattle.std.specs.Prelude.{ℕ, ◌+◌, ◌<◌, ◌≡◌, length, take, get_or}
use Rattle.std.proofs.Math.Path.{sym, ap}
use Rattle.std.proofs.Common.{◌∙◌}
use mathlib.Core.List.{List, [], ◌∷◌, ◌++◌, map}
use Rattle.std.proofs.lemmas.List.{take_more, map-append}
use Rattle.text.specs.Page.{Appends}
use Rattle.text.specs.PageLaws.{Leaves, leaves_is, leaves_none}
use Rattle.text.specs.Listing.{row_lines}

-- all rows are written
pub rows_done : {all a b : List ℕ} {at j : ℕ} (rows k : ℕ) (marks : List ℕ) → rows ≡ 0 → Leaves all a at (row_lines rows k marks) b j
    → Appends all a at b j
unfolding row_lines
rows_done rows k marks e left = leaves_none (leaves_is (ap (λ (n : ℕ). row_lines n k marks) e) left)

-- one more of what a function makes of the bytes
pub mapped_more : (f : ℕ → ℕ) (bytes : List ℕ) (i : ℕ) → i < length bytes
    → map f (take i bytes) ++ (f (get_or bytes i 0) ∷ []) ≡ map f (take (i + 1) bytes)
mapped_more f bytes i h = sym (ap (map f) (take_more bytes i 0 h) ∙ map-append f (take i bytes) (get_or bytes i 0 ∷ []))

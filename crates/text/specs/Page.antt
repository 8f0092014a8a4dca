-- A text on a page: a page is a lent slice, and a text is written from its start on, part after part.
use Rattle.std.specs.Prelude.{ℕ, ◌+◌, min, ◌≡◌, List, ◌++◌, length, take, drop}

-- a page with a text at its start: as much of the text as the page has room for, and behind it the page's own bytes
unfoldable pub printed : List ℕ → List ℕ → List ℕ
printed text page = take (length page) (text ++ drop (length text) page)

-- how long the text is; for one that doesn't fit, one more than the page has
unfoldable pub reached : List ℕ → List ℕ → ℕ
reached text page = min (length text) (length page + 1)

-- the page holds the text, and the cursor stands behind it
pub record Holds (page text now : List ℕ) (at : ℕ) : Type 0 where
  pub bytes : now ≡ printed text page
  pub cursor : at ≡ reached text page

-- From a page and a cursor to the next ones, a part was written: whatever text the page held, it holds that text and then the part.
abbrev pub Appends : List ℕ → List ℕ → ℕ → List ℕ → ℕ → Type 0
Appends part before at after next = (page text : List ℕ) → Holds page text before at → Holds page (text ++ part) after next

-- A walk over the lines of a section, each of which has a part to write.
use Rattle.std.specs.Prelude.{ℕ, ◌<◌, ◌≡◌, List}
use Rattle.std.specs.Borrow.{MutBor}
use Rattle.sections.specs.declared.find.Lines.{Lines}
use Rattle.sections.specs.Lists.{line_after}
use Rattle.sections.specs.Whole.{RowsAt}
use Rattle.clause_count.specs.Rows.{RowAt}
use Rattle.records.specs.declared.Records.{Records}
use Rattle.records.specs.Puts.{Puts, HasRoom}
use Rattle.built.specs.Turns.{parts}

-- a call where line i starts puts part i
abbrev pub Writes : List ℕ → Lines → (ℕ → List ℕ) → (ℕ → ℕ → MutBor Records → Unit {0} → MutBor Records → Type 0) → Type 0
Writes text s part Post =
    (line i : ℕ) (out : MutBor Records) (u : Unit {0}) (after : MutBor Records) → line ≡ line_after text s.at i → Post line i out u after
    → Puts (part i) out.now after.now

-- There is room for the parts of all lines, and where a line starts a call may be made.
pub record Walk (text : List ℕ) (s : Lines) (start : Records) (Pre : ℕ → ℕ → MutBor Records → Type 0)
    (Post : ℕ → ℕ → MutBor Records → Unit {0} → MutBor Records → Type 0) : Type 0 where
  pub width : ℕ
  pub part : ℕ → List ℕ
  pub rows : RowsAt text width s
  pub room : HasRoom (parts part 0 s.count) start
  pub may : (line i : ℕ) (out : MutBor Records) → i < s.count → line ≡ line_after text s.at i → RowAt text width line
      → HasRoom (part i) out.now → Pre line i out
  pub writes : Writes text s part Post

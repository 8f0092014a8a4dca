-- `Row::of` gives the row of the definition's kind table: the code's table is the definition's, row by row.
use Prim.Native.Nat.{ℕ}
use mathlib.Core.Path.{◌≡◌, refl, ap, ◌∙◌}
use mathlib.Core.List.{map}
use lib.ListN.{get_or, get_or-map}
use Rattle.meaning.specs.File
use Rattle.meaning.specs.File.{Kind, kind_row, kind_table, no_kind}
use Rattle.format.specs.declared.Class.{Class}
use Rattle.format.specs.declared.Class.TheVariants.{Nothing, State, Present, Every}
use Rattle.format.specs.declared.Row.{Row}
use Rattle.format.specs.Forms.{class_of, kind_of}
use Rattle.format.proofs.Row.of.Goals as goal

-- the code's row of a kind's, and back
class_from : File.Class → Class
class_from File.nothing = Nothing
class_from File.state = State
class_from File.present = Present
class_from File.every = Every

row_from : Kind → Row
row_from k =
    record
    { shortest = k.shortest; longest = k.longest; even = k.even; class = class_from k.class; most = k.most }

class_back : (c : File.Class) → class_of (class_from c) ≡ c
unfolding class_from
class_back File.nothing = refl
class_back File.state = refl
class_back File.present = refl
class_back File.every = refl

row_back : (k : Kind) → kind_of (row_from k) ≡ k
unfolding row_from
row_back k =
    ap
    (λ (c : File.Class).
    record { shortest = k.shortest; longest = k.longest; even = k.even; class = c; most = k.most })
    (class_back k.class)

same_row : (kind : ℕ) → kind_of (get_or (map row_from kind_table) kind (row_from no_kind)) ≡ kind_row kind
unfolding kind_row
same_row kind = ap kind_of (get_or-map row_from kind_table kind no_kind) ∙ row_back (get_or kind_table kind no_kind)

pub returns : goal.returns
unfolding class_from row_from kind_table no_kind
returns c = same_row c.args.kind

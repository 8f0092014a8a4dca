-- Text written out, as bytes.
use Rattle.std.specs.Prelude.{ℕ}
use Prim.Native.Char.{code}
use Prim.Native.String.{String, [], ◌∷◌}
use mathlib.Core.List as L

-- the bytes of a text of ASCII characters
abbrev pub ascii : String → L.List ℕ
ascii [] = L.[]
ascii (c ∷ s) = L.◌∷◌ (code c) (ascii s)

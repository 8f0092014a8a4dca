-- Laws of a text on a page: parts follow each other, and one byte more.
use Rattle.std.specs.Prelude.{ℕ, suc, ◌+◌, ◌≤◌, ◌<◌, ◌≡◌, take, get_or}
use Rattle.std.proofs.Math.Path.{sym, ap}
use Rattle.std.proofs.Common.{subst, ◌∙◌, add-one, length-append, length-drop, length-take, take_all, drop-cons}
use mathlib.Core.List.{List, [], ◌∷◌, ◌++◌, append_assoc, append-nil}
use native.Mathlib.Omega.{arith}
use Rattle.std.proofs.Math.ListN.{length, drop, set}
use Rattle.std.proofs.Math.Seq.{take-append-le, set_at, append_snoc}
use Rattle.text.specs.Page.{printed, reached, Holds, Appends}

-- a text of no bytes
pub holds_none : (page : List ℕ) → Holds page [] page 0
unfolding printed reached
holds_none page = record { bytes = sym (take_all (length page) page (omega arith)); cursor = omega arith }

-- a text by another name
pub holds_is : {page text again now : List ℕ} {at : ℕ} → text ≡ again → Holds page text now at → Holds page again now at
holds_is {page} {text} {again} {now} {at} e h = subst (λ (l : List ℕ). Holds page l now at) e h

-- a part from the start of a page is its text
pub from_start : {text page now : List ℕ} {at : ℕ} → Appends text page 0 now at → Holds page text now at
from_start {page = page} wrote = wrote page [] (holds_none page)

-- nothing is written
pub appends_none : (page : List ℕ) (at : ℕ) → Appends [] page at page at
appends_none now at page text h = rw append-nil h

-- a part by another name
pub appends_is : {p q a b : List ℕ} {i j : ℕ} → p ≡ q → Appends p a i b j → Appends q a i b j
appends_is {p} {q} {a} {b} {i} {j} e h = subst (λ (l : List ℕ). Appends l a i b j) e h

-- a part and then another
pub appends_both : {p q a b c : List ℕ} {i j k : ℕ} → Appends p a i b j → Appends q b j c k → Appends (p ++ q) a i c k
appends_both {p} {q} first then page text h = rw append_assoc at (then page (text ++ p) (first page text h))

-- What is left to write comes to the whole: whatever writes the rest from here writes all from there.
abbrev pub Leaves : List ℕ → List ℕ → ℕ → List ℕ → List ℕ → ℕ → Type 0
Leaves all before at rest now here = (after : List ℕ) (next : ℕ) → Appends rest now here after next → Appends all before at after next

pub leaves_all : (all before : List ℕ) (at : ℕ) → Leaves all before at all before at
leaves_all all before at after next h = h

pub leaves_is : {all a rest again b : List ℕ} {i j : ℕ} → rest ≡ again → Leaves all a i rest b j → Leaves all a i again b j
leaves_is {all} {a} {rest} {again} {b} {i} {j} e left = subst (λ (l : List ℕ). Leaves all a i l b j) e left

pub leaves_less : {all a rest b c part : List ℕ} {i j k : ℕ} → Leaves all a i (part ++ rest) b j → Appends part b j c k
    → Leaves all a i rest c k
leaves_less left wrote after next h = left after next (appends_both wrote h)

pub leaves_none : {all a b : List ℕ} {i j : ℕ} → Leaves all a i [] b j → Appends all a i b j
leaves_none {b = b} {j = j} left = left b j (appends_none b j)

-- a text that fits, and one that doesn't
fits : (text page : List ℕ) → length text ≤ length page → printed text page ≡ text ++ drop (length text) page
unfolding printed
fits text page h = take_all (length page) (text ++ drop (length text) page) (simp (length-append, length-drop) (omega arith))

full : (text page : List ℕ) → length page ≤ length text → printed text page ≡ take (length page) text
unfolding printed
full text page h = take-append-le (length page) text (drop (length text) page) h

-- a page keeps its length
length_printed : (text page : List ℕ) → length (printed text page) ≡ length page
unfolding printed
length_printed text page = simp (length-take, length-append, length-drop) (omega arith)

longer : (text : List ℕ) (b : ℕ) → length (text ++ (b ∷ [])) ≡ suc (length text)
longer text b = length-append text (b ∷ []) ∙ add-one (length text)

module _ (out page text : List ℕ) (at b : ℕ) (was : Holds page text out at) where
  same : length out ≡ length page
  same = ap length was.bytes ∙ length_printed text page

  -- a byte where the cursor stands
  pub byte_fits : at < length out → Holds page (text ++ (b ∷ [])) (set out at b) (at + 1)
  unfolding reached
  byte_fits h =
      let e = same in
      let here : at ≡ length text = omega (arith, was.cursor) in
      let lt : length text < length page = omega arith in
      let le : length (text ++ (b ∷ [])) ≤ length page = rw longer (omega arith) in
      record {
        bytes =
            ap (λ (o : List ℕ). set o at b)
            (was.bytes ∙ fits text page (omega arith) ∙ ap (λ (l : List ℕ). text ++ l) (drop-cons page (length text) 0 lt))
            ∙ set_at text (get_or page (length text) 0) (drop (suc (length text)) page) b at (sym here)
            ∙ sym
            (fits (text ++ (b ∷ [])) page le
            ∙ ap (λ (n : ℕ). (text ++ (b ∷ [])) ++ drop n page) (longer text b)
            ∙ append_snoc text b (drop (suc (length text)) page));
        cursor = rw longer (omega (arith, here));
      }

  -- no room for one more
  pub byte_over : length out ≤ at → Holds page (text ++ (b ∷ [])) out (length out + 1)
  unfolding reached
  byte_over h =
      let e = same in
      let over : length page ≤ length text = omega (arith, was.cursor) in
      let le : length page ≤ length (text ++ (b ∷ [])) = rw longer (omega arith) in
      record {
        bytes =
            was.bytes ∙ full text page over ∙ sym (full (text ++ (b ∷ [])) page le ∙ take-append-le (length page) text (b ∷ []) over);
        cursor = rw longer (omega arith);
      }

-- A row more of those that are written, and a row of no bytes: a row is an empty line there, and not nothing.
use Rattle.std.specs.Prelude.{ℕ, suc, ◌+◌, ◌-◌, ◌≤◌, ◌<◌, min, ◌≡◌, refl, Bool, true, false, length, take, drop, leb}
use Rattle.std.proofs.Math.Path.{sym, ap, ap₂}
use Rattle.std.proofs.Common.{◌∙◌, arith, length-drop, drop_of_length-le, leb-true, leb-false, take_all, drop-drop}
use mathlib.Core.List.{List, [], ◌∷◌, ◌++◌, map}
use Rattle.std.proofs.Math.Seq.{drop-length, take-length, append_snoc}
use Rattle.text.specs.Page.{Appends}
use Rattle.text.specs.PageLaws.{Leaves, leaves_is, leaves_less}
use Rattle.text.specs.Listing.{first_line, mark_digit, row_lines, listed, listing_text}
use Rattle.text.specs.Ascii.{ascii}
use Rattle.text.specs.Numbers.{digit, digits, decimal}
use Rattle.text.specs.Cases.{report}

-- the first k of a list, or all of it where it has fewer
part_by : (k : ℕ) (l : List ℕ) (b : Bool) → leb k (length l) ≡ b → (take (min k (length l)) l ≡ take k l) × (drop (min k (length l)) l ≡ drop k l)
part_by k l true e =
    let h : k ≤ length l = leb-true k (length l) e in
    let m : min k (length l) ≡ k = omega arith in (ap (λ (n : ℕ). take n l) m, ap (λ (n : ℕ). drop n l) m)
part_by k l false e =
    let h : length l < k = leb-false k (length l) e in
    let m : min k (length l) ≡ length l = omega arith in (
      ap (λ (n : ℕ). take n l) m ∙ take-length l ∙ sym (take_all k l (omega arith)),
      ap (λ (n : ℕ). drop n l) m ∙ drop-length l ∙ sym (drop_of_length-le l {i = k} (omega arith)),
    )

part : (k : ℕ) (l : List ℕ) → (take (min k (length l)) l ≡ take k l) × (drop (min k (length l)) l ≡ drop k l)
part k l = part_by k l (leb k (length l)) refl

-- a row is written of those that are left
module _ (all a marks b c : List ℕ) (at start end rows done k i j : ℕ) (more : done < rows) (within : start ≤ length marks)
    (ends : end ≡ start + min k (length marks - start)) where
  long : end - start ≡ min k (length (drop start marks))
  long = rw length-drop (omega arith)

  row_is : take (end - start) (drop start marks) ≡ take k (drop start marks)
  row_is = ap (λ (n : ℕ). take n (drop start marks)) long ∙ (part k (drop start marks)).0

  ends_there : start + (end - start) ≡ end
  ends_there = omega arith

  rest_is : drop k (drop start marks) ≡ drop end marks
  rest_is =
      sym (part k (drop start marks)).1
      ∙ ap (λ (n : ℕ). drop n (drop start marks)) (sym long)
      ∙ drop-drop (end - start) start marks
      ∙ ap (λ (n : ℕ). drop n marks) ends_there

  one_more : rows - done ≡ suc (rows - (done + 1))
  one_more = omega arith

  lines : row_lines (rows - done) k (drop start marks)
      ≡ (map mark_digit (take (end - start) (drop start marks)) ++ (10 ∷ [])) ++ row_lines (rows - (done + 1)) k (drop end marks)
  unfolding row_lines
  lines =
      ap (λ (n : ℕ). row_lines n k (drop start marks)) one_more
      ∙ ap₂ (λ (l m : List ℕ). map mark_digit l ++ (10 ∷ row_lines (rows - (done + 1)) k m)) (sym row_is) rest_is
      ∙ sym (append_snoc (map mark_digit (take (end - start) (drop start marks))) 10 (row_lines (rows - (done + 1)) k (drop end marks)))

  pub row_more : Leaves all a at (row_lines (rows - done) k (drop start marks)) b i
      → Appends (map mark_digit (take (end - start) (drop start marks)) ++ (10 ∷ [])) b i c j
      → Leaves all a at (row_lines (rows - (done + 1)) k (drop end marks)) c j
  row_more left wrote = leaves_less (leaves_is lines left) wrote

-- I: one row of no bytes, 0 decisions. A row is an empty line
case_i : listing_text (report 0 0 0 1) 0 [] ≡ ascii "complete 1 0\n\n"
unfolding report listing_text listed first_line decimal digits digit row_lines mark_digit
case_i = refl

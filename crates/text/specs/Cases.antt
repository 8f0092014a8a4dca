-- What the listing program prints, worked out.
use Rattle.std.specs.Prelude.{ℕ, ◌≡◌, refl, [], ◌∷◌}
use Rattle.meaning.specs.Calls.{Report}
use Rattle.text.specs.Ascii.{ascii}
use Rattle.text.specs.Numbers.{digit, digits, decimal}
use Rattle.text.specs.Filled.{filled}
use Rattle.text.specs.Listing.{first_line, mark_digit, row_lines, listed, refused, listing_text}

-- a listing's report
unfoldable pub report : ℕ → ℕ → ℕ → ℕ → Report
report number place decisions rows = record { number = number; place = place; decisions = decisions; rows = rows; n = 0; m = 0; k = 0 }

-- B: rows 1 0 0 and 0 1 1, 3 decisions.
case_b : listing_text (report 0 0 3 2) 3 (1 ∷ 0 ∷ 0 ∷ 0 ∷ 1 ∷ 1 ∷ 7 ∷ [])
    ≡ ascii "complete 2 3\n100\n011\n"
unfolding report listing_text listed first_line decimal digits digit row_lines mark_digit
case_b = refl

-- H: refusal 11 with 1 decision.
case_h : listing_text (report 11 0 1 0) 0 [] ≡ ascii "none 0 1\n"
unfolding report listing_text listed first_line decimal digits digit row_lines
case_h = refl

-- L without its last byte: refusal 2 at 42.
case_l : listing_text (report 2 42 0 0) 0 [] ≡ ascii "bad 2 42\n"
unfolding report listing_text refused first_line decimal digits digit
case_l = refl

-- a form with three places, one with none, and one with more than three
case_filled : filled (ascii "# of #, #\n") 12 0 305 ≡ ascii "12 of 0, 305\n"
unfolding filled decimal digits digit
case_filled = refl

case_no_place : filled (ascii "none") 1 2 3 ≡ ascii "none"
unfolding filled
case_no_place = refl

case_fourth_place : filled (ascii "####") 1 2 3 ≡ ascii "1230"
unfolding filled decimal digits digit
case_fourth_place = refl

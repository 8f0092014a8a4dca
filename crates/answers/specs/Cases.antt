-- What is told of a job's outcome, worked out.
use Rattle.std.specs.Prelude.{ℕ, ◌≡◌, refl, true, false, [], ◌∷◌}
use Rattle.meaning.specs.Calls.{Report}
use Rattle.text.specs.Ascii.{ascii}
use Rattle.text.specs.Filled.{filled}
use Rattle.text.specs.Listing.{mark_digit}
use Rattle.text.specs.Numbers.{digit, digits, decimal}
use Rattle.told.specs.Answers.{set_line, marks_line, marked}
use Rattle.told.specs.Refusals.{refusal_line, head_text, where_text, reason_text, spent_text, larger, kept_text}
use Rattle.told.specs.declared.answers.Job.TheVariants.{Largest, One, List as Listing}
use Rattle.answers.specs.Lines.{has_head, sets_told, set_text, error_text}

abbrev report : ℕ → ℕ → ℕ → Report
report number decisions rows = record { number = number; place = 0; decisions = decisions; rows = rows; n = 0; m = 0; k = 0 }

-- a head line: of an answer, and of a listing of an accepted file
heads : (has_head false 0 ∷ has_head true 0 ∷ has_head true 10 ∷ has_head true 12 ∷ has_head true 11 ∷ has_head false 10 ∷ has_head true 2 ∷ [])
    ≡ (true ∷ true ∷ true ∷ true ∷ true ∷ false ∷ false ∷ [])
unfolding has_head
heads = refl

-- the sets of C: B listed with budget 2 keeps one row; a marking job that was refused has none
sets : (sets_told Listing (report 10 2 1) ∷ sets_told Largest (report 0 0 0) ∷ sets_told One (report 11 0 0) ∷ [])
    ≡ (1 ∷ 1 ∷ 0 ∷ [])
sets = refl

-- the second row of B, by its number, by its marks, and as the set of a marking job
lines : (set_text false Listing 2 (0 ∷ 1 ∷ 1 ∷ []) ∷ set_text true Listing 2 (0 ∷ 1 ∷ 1 ∷ []) ∷ set_text false One 1 (0 ∷ 1 ∷ 1 ∷ []) ∷ [])
    ≡ (ascii "set 2: 2 of 3 candidates\n" ∷ ascii "011\n" ∷ [] ∷ [])
unfolding set_text set_line marks_line marked filled mark_digit decimal digits digit
lines = refl

-- an answer has no refusal; C has
errors : (error_text Listing [] (report 0 3 2) 1000000 65536 ∷ error_text Listing [] (report 10 2 1) 2 65536 ∷ [])
    ≡ ([]
    ∷ ascii "refusal 10: the budget was used up (decisions: 2); try a larger one, for instance 20; sets kept, the first of the list: 1\n"
    ∷ [])
unfolding error_text refusal_line head_text where_text reason_text spent_text larger kept_text filled decimal digits digit
errors = refl

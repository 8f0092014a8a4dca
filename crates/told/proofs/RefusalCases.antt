-- The refusals of a job whose budget is used up or whose space is too small, worked out: which of the two texts is told.
use Rattle.std.specs.Prelude.{◌≡◌, refl, []}
use Rattle.text.specs.Ascii.{ascii}
use Rattle.text.specs.Numbers.{digit, digits, decimal}
use Rattle.text.specs.Filled.{filled}
use Rattle.told.specs.declared.answers.Job.TheVariants.{One, List as Listing}
use Rattle.told.specs.Refusals.{head_text, where_text, larger, spent_text, kept_text, reason_text, refusal_line}
use Rattle.told.specs.RefusalCases.{report}

case_spent : refusal_line One [] (report 10 0 1000 0) 1000 0
    ≡ ascii "refusal 10: the budget was used up (decisions: 1000); try a larger one, for instance 10000\n"
unfolding report refusal_line head_text where_text reason_text filled decimal digits digit spent_text larger kept_text
case_spent = refl

case_spent_listing : refusal_line Listing [] (report 10 0 1000 2) 1000 0
    ≡ ascii "refusal 10: the budget was used up (decisions: 1000); try a larger one, for instance 10000; sets kept, the first of the list: 2\n"
unfolding report refusal_line head_text where_text reason_text filled decimal digits digit spent_text larger kept_text
case_spent_listing = refl

case_room : refusal_line Listing [] (report 12 0 3 1) 1000 5
    ≡ ascii "refusal 12: the next set does not fit the space (bytes: 5); try a larger space; sets kept, the first of the list: 1\n"
unfolding report refusal_line head_text where_text reason_text filled decimal digits digit kept_text
case_room = refl

-- Refusals, worked out on the file of docs/FORMAT.md and on files that differ from it.
use Rattle.std.specs.Prelude.{ℕ, zero, suc, ◌≡◌, refl, List, [], ◌∷◌, ◌++◌, take, set}
use Rattle.meaning.specs.Calls.{Report}
use Rattle.meaning.specs.Clauses
use Rattle.meaning.specs.File
use Rattle.format.specs.Section.{next_record}
use Rattle.text.specs.Ascii.{ascii}
use Rattle.text.specs.Numbers.{digit, digits, decimal}
use Rattle.text.specs.Filled.{filled}
use Rattle.told.specs.declared.answers.Job.TheVariants.{Check, One}
use Rattle.faults.specs.Places.{kind_there, past, reaches, unless_reached, walk, start_around, around}
use Rattle.faults.specs.Faults.{cut, unnamed, literal_fault, number_fault, fault_of}
use Rattle.fault_texts.specs.FaultTexts.{fault_text}
use Rattle.told.specs.Refusals.{head_text, clause_place, where_text, larger, spent_text, reason_text, refusal_line}

-- the file of docs/FORMAT.md, 46 bytes: counts, an Init clause, two Tr clauses, a Bad clause, a lemma, the end
example : List ℕ
example =
    4 ∷ 0 ∷ 1 ∷ 0 ∷ 1 ∷ 0 ∷ 0 ∷ 0 ∷
    2 ∷ 0 ∷ 2 ∷ 0 ∷ 1 ∷ 0 ∷
    4 ∷ 0 ∷ 3 ∷ 0 ∷ 254 ∷ 255 ∷ 1 ∷ 0 ∷
    4 ∷ 0 ∷ 3 ∷ 0 ∷ 2 ∷ 0 ∷ 255 ∷ 255 ∷
    2 ∷ 0 ∷ 4 ∷ 0 ∷ 255 ∷ 255 ∷
    2 ∷ 0 ∷ 5 ∷ 0 ∷ 1 ∷ 0 ∷
    0 ∷ 0 ∷ 6 ∷ 0 ∷ []

-- a refusal's report: its number, place, decisions and rows
unfoldable pub report : ℕ → ℕ → ℕ → ℕ → Report
report number place decisions rows = record { number = number; place = place; decisions = decisions; rows = rows; n = 0; m = 0; k = 0 }

-- what the checking job's refusal of a file says
told : List ℕ → ℕ → ℕ → List ℕ
told file number place = refusal_line Check file (report number place 0 0) 0 0

case_long : told [] 1 0
    ≡ ascii "refusal 1 at byte 0: the file has more than 65536 bytes\n"
unfolding told report example refusal_line head_text where_text clause_place fault_of fault_text filled decimal digits digit
case_long = refl

case_head : told (take 45 example) 2 42
    ≡ ascii "refusal 2 at byte 42: the record is cut short: of the 4 bytes of its head 3 are there\n"
unfolding told report example refusal_line head_text where_text clause_place fault_of fault_text filled decimal digits digit cut File.two_at
case_head = refl

case_body : told (take 40 example) 2 36
    ≡ ascii "refusal 2 at byte 36: the record is cut short: of the 2 bytes of its body 0 are there\n"
unfolding told report example refusal_line head_text where_text clause_place fault_of fault_text filled decimal digits digit cut File.two_at
case_body = refl

case_kind : told (set example 10 9) 3 8
    ≡ ascii "refusal 3 at byte 8: kind 9 is out of place: kinds are 1 to 6, the first record is of kind 1 and no other is, and kinds never go down\n"
unfolding told report example refusal_line head_text where_text clause_place fault_of fault_text filled decimal digits digit kind_there File.two_at
case_kind = refl

case_length : told (set example 14 7) 4 14
    ≡ ascii "refusal 4 at byte 14: a body of 7 bytes for a record of kind 3: kind 1 has 4, kinds 2 to 5 an even number up to 128, and kind 6 has 0\n"
unfolding told report example refusal_line head_text where_text clause_place fault_of fault_text filled decimal digits digit kind_there File.two_at
case_length = refl

case_counts : told (set example 4 97) 5 0
    ≡ ascii "refusal 5 at byte 0: 97 state variables and 0 inputs and helpers, but a file has 1 to 96 and 0 to 320\n"
unfolding told report example refusal_line head_text where_text clause_place fault_of fault_text filled decimal digits digit File.two_at
case_counts = refl

case_state : told (set example 40 15) 6 40
    ≡ ascii "refusal 6 at byte 40, in the lemma at position 0: variable 15, but the file has 1 state variables\n"
unfolding told report example refusal_line head_text where_text clause_place fault_of fault_text filled decimal digits digit kind_there past reaches unless_reached walk start_around around next_record File.two_at literal_fault unnamed File.no_kind File.kind_table File.kind_row File.signed File.literal_at Clauses.variable
case_state = refl

case_variable : told (set example 26 40) 6 26
    ≡ ascii "refusal 6 at byte 26, in the Tr clause at position 1: variable 40, but the file has 2*1+0 = 2 variables\n"
unfolding told report example refusal_line head_text where_text clause_place fault_of fault_text filled decimal digits digit kind_there past reaches unless_reached walk start_around around next_record File.two_at literal_fault unnamed File.no_kind File.kind_table File.kind_row File.signed File.literal_at Clauses.variable
case_variable = refl

case_zero : told (set example 12 0) 6 12
    ≡ ascii "refusal 6 at byte 12, in the Init clause at position 0: a literal 0, which names no variable\n"
unfolding told report example refusal_line head_text where_text clause_place fault_of fault_text filled decimal digits digit kind_there past reaches unless_reached walk start_around around next_record File.two_at literal_fault unnamed File.no_kind File.kind_table File.kind_row File.signed File.literal_at Clauses.variable
case_zero = refl

case_least : told (set (set example 34 0) 35 128) 6 34
    ≡ ascii "refusal 6 at byte 34, in the Bad clause at position 0: variable 32768, but the file has 2*1+0 = 2 variables\n"
unfolding told report example refusal_line head_text where_text clause_place fault_of fault_text filled decimal digits digit kind_there past reaches unless_reached walk start_around around next_record File.two_at literal_fault unnamed File.no_kind File.kind_table File.kind_row File.signed File.literal_at Clauses.variable
case_least = refl

case_next : told (set (set example 34 2) 35 0) 6 34
    ≡ ascii "refusal 6 at byte 34, in the Bad clause at position 0: variable 2 is the next value of state variable 1, but only state variables, inputs and helpers may stand here\n"
unfolding told report example refusal_line head_text where_text clause_place fault_of fault_text filled decimal digits digit kind_there past reaches unless_reached walk start_around around next_record File.two_at literal_fault unnamed File.no_kind File.kind_table File.kind_row File.signed File.literal_at Clauses.variable
case_next = refl

case_behind : told (example ++ (0 ∷ [])) 8 46
    ≡ ascii "refusal 8 at byte 46: bytes behind the end record: 1\n"
unfolding told report example refusal_line head_text where_text clause_place fault_of fault_text filled decimal digits digit
case_behind = refl

-- so many empty lemmas
lemmas : ℕ → List ℕ
lemmas zero = []
lemmas (suc count) = 0 ∷ 0 ∷ 5 ∷ 0 ∷ lemmas count

case_lemmas : told (4 ∷ 0 ∷ 1 ∷ 0 ∷ 1 ∷ 0 ∷ 0 ∷ 0 ∷ lemmas 129) 7 520
    ≡ ascii "refusal 7 at byte 520: more than 128 lemmas\n"
unfolding told report example refusal_line head_text where_text clause_place fault_of fault_text filled decimal digits digit lemmas number_fault kind_there past reaches unless_reached walk start_around around next_record File.two_at
case_lemmas = refl

case_clauses : told example 7 8
    ≡ ascii "refusal 7 at byte 8: more than 4096 clauses\n"
unfolding told report example refusal_line head_text where_text clause_place fault_of fault_text filled decimal digits digit number_fault kind_there past reaches unless_reached walk start_around around next_record File.two_at
case_clauses = refl

-- refusals of a job
case_lent : refusal_line One [] (report 9 0 0 0) 1000 0
    ≡ ascii "refusal 9: fewer bytes were lent than there are candidates\n"
unfolding report refusal_line head_text where_text reason_text filled decimal digits digit
case_lent = refl

case_larger_none : larger 0 ≡ 1000000
unfolding larger
case_larger_none = refl

case_larger_most : larger 429496730 ≡ 4294967295
unfolding larger
case_larger_most = refl

case_no_larger : spent_text 4294967295 ≡ filled (ascii "the budget was used up (decisions: #), and there is no larger one") 4294967295 0 0
unfolding spent_text
case_no_larger = refl

case_none : refusal_line One [] (report 11 0 7 0) 1000 0
    ≡ ascii "refusal 11: no subset of these candidates is safe and inductive (decisions: 7). This speaks of these candidates only: it does not say that the loader is unsafe\n"
unfolding report refusal_line head_text where_text reason_text filled decimal digits digit
case_none = refl

-- A lemma's line, worked out on the file of docs/FORMAT.md.
use Rattle.std.specs.Prelude.{ℕ, ◌≡◌, refl, List, [], ◌∷◌}
use Rattle.meaning.specs.Clauses
use Rattle.meaning.specs.Clauses.{pos, neg}
use Rattle.meaning.specs.File
use Rattle.text.specs.Ascii.{ascii}
use Rattle.text.specs.Numbers.{digit, digits, decimal}
use Rattle.text.specs.Filled.{filled}
use Rattle.told_lemmas.specs.Lemmas.{literal_text, literals_text, clause_text, lemma_text, lemma_line}

-- the file of docs/FORMAT.md, 46 bytes: counts, an Init clause, two Tr clauses, a Bad clause, a lemma, the end
example : List ℕ
example =
    4 ∷ 0 ∷ 1 ∷ 0 ∷ 1 ∷ 0 ∷ 0 ∷ 0 ∷
    2 ∷ 0 ∷ 2 ∷ 0 ∷ 1 ∷ 0 ∷
    4 ∷ 0 ∷ 3 ∷ 0 ∷ 254 ∷ 255 ∷ 1 ∷ 0 ∷
    4 ∷ 0 ∷ 3 ∷ 0 ∷ 2 ∷ 0 ∷ 255 ∷ 255 ∷
    2 ∷ 0 ∷ 4 ∷ 0 ∷ 255 ∷ 255 ∷
    2 ∷ 0 ∷ 5 ∷ 0 ∷ 1 ∷ 0 ∷
    0 ∷ 0 ∷ 6 ∷ 0 ∷ []

case_lemma : lemma_line example 0 ≡ ascii "  lemma 0: 1\n"
unfolding example lemma_line lemma_text clause_text literals_text literal_text filled decimal digits digit Clauses.variable Clauses.any File.no_kind File.kind_table File.kind_row File.two_at File.signed File.literal_at File.literals File.between File.names File.literal_count File.offends File.before_offence File.body_length File.kind_at File.body_at File.row_at File.same_kind File.is_clause File.head_short File.kind_wrong File.length_wrong File.body_short File.too_many File.counts_wrong File.body_literals File.body_names File.offence_at File.rule_if File.record_rules File.refuse_if File.first_wrong File.span_at File.one_if_clause File.past File.and_before File.at_end File.unless_end File.unless_refused File.walk File.at_start File.walked File.clause_of File.keep_if File.of_kind File.clauses_of File.problem_of File.reading_of File.read
case_lemma = refl

case_literals : clause_text (pos 1 ∷ neg 2 ∷ pos 5 ∷ []) ≡ ascii " 1 -2 5\n"
unfolding clause_text literals_text literal_text filled decimal digits digit
case_literals = refl

case_empty : clause_text [] ≡ ascii " no literal, never true\n"
unfolding clause_text
case_empty = refl

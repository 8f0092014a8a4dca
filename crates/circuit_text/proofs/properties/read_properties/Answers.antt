use Rattle.lines.specs.Numbers.{value_is}
use Rattle.std.proofs.lemmas.Result.{err_from_is_err_and}
use Rattle.meaning.specs.CircuitText.{used_form, count_form}
use Rattle.sections.specs.Rows.{form_of}
use Rattle.circuit_text.specs.Sums.{at_most_huge}
use Rattle.circuit_text.specs.Properties.{outputs_wrong, stage₁, bads_wrong, stage₂, constraints_wrong, stage₃, counts_wrong, stage₄, justice_wrong, stage₅, fairness_wrong, all_read}
use Rattle.circuit_text.proofs.properties.read_properties.Goals as goal

pub plain_lines-requires-clause-count_le_huge : goal.plain_lines-requires-clause-count_le_huge
plain_lines-requires-clause-count_le_huge c = at_most_huge _ _ (value_is c.args.h.now.o)

pub returns-in_err-first : goal.returns-in_err-first
unfolding form_of used_form count_form
returns-in_err-first c =
    let p = err_from_is_err_and c.from_residual.result c.from_residual.ensures.1 in
    rw (p.1, p.2) (outputs_wrong _ c.args.h.now c.requires.parts c.args.judged c.requires.text_len_bound _ c.requires.at_in_bounds _ (c.in_err-first.ensures _ (value_is c.args.h.now.o)))

pub plain_lines-requires-2-clause-at_in_bounds : goal.plain_lines-requires-2-clause-at_in_bounds
unfolding form_of used_form count_form
plain_lines-requires-2-clause-at_in_bounds c = (stage₁ _ c.args.h.now c.requires.parts c.args.judged c.requires.text_len_bound _ c.requires.at_in_bounds _ (c.in_ok-first.ensures _ (value_is c.args.h.now.o))).inside

pub plain_lines-requires-2-clause-count_le_huge : goal.plain_lines-requires-2-clause-count_le_huge
plain_lines-requires-2-clause-count_le_huge c = at_most_huge _ _ (value_is c.args.h.now.b)

pub returns-in_err-second : goal.returns-in_err-second
unfolding form_of used_form count_form
returns-in_err-second c =
    let p = err_from_is_err_and c.from_residual-in_err-second.result c.from_residual-in_err-second.ensures.1 in
    rw (p.1, p.2) (bads_wrong _ c.args.h.now c.requires.parts c.args.judged c.requires.text_len_bound _ c.requires.at_in_bounds _ (c.in_ok-first.ensures _ (value_is c.args.h.now.o)) _ (c.in_err-second.ensures _ (value_is c.args.h.now.b)))

pub plain_lines-requires-3-clause-at_in_bounds : goal.plain_lines-requires-3-clause-at_in_bounds
unfolding form_of used_form count_form
plain_lines-requires-3-clause-at_in_bounds c = (stage₂ _ c.args.h.now c.requires.parts c.args.judged c.requires.text_len_bound _ c.requires.at_in_bounds _ (c.in_ok-first.ensures _ (value_is c.args.h.now.o)) _ (c.in_ok-second.ensures _ (value_is c.args.h.now.b))).inside

pub plain_lines-requires-3-clause-count_le_huge : goal.plain_lines-requires-3-clause-count_le_huge
plain_lines-requires-3-clause-count_le_huge c = at_most_huge _ _ (value_is c.args.h.now.c)

pub returns-in_err-third : goal.returns-in_err-third
unfolding form_of used_form count_form
returns-in_err-third c =
    let p = err_from_is_err_and c.from_residual-in_err-third.result c.from_residual-in_err-third.ensures.1 in
    rw (p.1, p.2) (constraints_wrong _ c.args.h.now c.requires.parts c.args.judged c.requires.text_len_bound _ c.requires.at_in_bounds _ (c.in_ok-first.ensures _ (value_is c.args.h.now.o)) _ (c.in_ok-second.ensures _ (value_is c.args.h.now.b)) _ (c.in_err-third.ensures _ (value_is c.args.h.now.c)))

pub plain_lines-requires-4-clause-at_in_bounds : goal.plain_lines-requires-4-clause-at_in_bounds
unfolding form_of used_form count_form
plain_lines-requires-4-clause-at_in_bounds c = (stage₃ _ c.args.h.now c.requires.parts c.args.judged c.requires.text_len_bound _ c.requires.at_in_bounds _ (c.in_ok-first.ensures _ (value_is c.args.h.now.o)) _ (c.in_ok-second.ensures _ (value_is c.args.h.now.b)) _ (c.in_ok-third.ensures _ (value_is c.args.h.now.c))).inside

pub plain_lines-requires-4-clause-count_le_huge : goal.plain_lines-requires-4-clause-count_le_huge
plain_lines-requires-4-clause-count_le_huge c = at_most_huge _ _ (value_is c.args.h.now.j)

pub returns-in_err-fourth : goal.returns-in_err-fourth
unfolding form_of used_form count_form
returns-in_err-fourth c =
    let p = err_from_is_err_and c.from_residual-in_err-fourth.result c.from_residual-in_err-fourth.ensures.1 in
    rw (p.1, p.2) (counts_wrong _ c.args.h.now c.requires.parts c.args.judged c.requires.text_len_bound _ c.requires.at_in_bounds _ (c.in_ok-first.ensures _ (value_is c.args.h.now.o)) _ (c.in_ok-second.ensures _ (value_is c.args.h.now.b)) _ (c.in_ok-third.ensures _ (value_is c.args.h.now.c)) _ (c.in_err-fourth.ensures _ (value_is c.args.h.now.j)))

pub plain_lines-requires-5-clause-at_in_bounds : goal.plain_lines-requires-5-clause-at_in_bounds
unfolding form_of used_form count_form
plain_lines-requires-5-clause-at_in_bounds c = (stage₄ _ c.args.h.now c.requires.parts c.args.judged c.requires.text_len_bound _ c.requires.at_in_bounds _ (c.in_ok-first.ensures _ (value_is c.args.h.now.o)) _ (c.in_ok-second.ensures _ (value_is c.args.h.now.b)) _ (c.in_ok-third.ensures _ (value_is c.args.h.now.c)) _ (c.in_ok-fourth.ensures _ (value_is c.args.h.now.j))).inside

pub plain_lines-requires-5-clause-count_le_huge : goal.plain_lines-requires-5-clause-count_le_huge
plain_lines-requires-5-clause-count_le_huge c = at_most_huge _ _ c.total-literals.ensures

pub total-literals-requires : goal.total-literals-requires
unfolding form_of used_form count_form
total-literals-requires c = (stage₄ _ c.args.h.now c.requires.parts c.args.judged c.requires.text_len_bound _ c.requires.at_in_bounds _ (c.in_ok-first.ensures _ (value_is c.args.h.now.o)) _ (c.in_ok-second.ensures _ (value_is c.args.h.now.b)) _ (c.in_ok-third.ensures _ (value_is c.args.h.now.c)) _ (c.in_ok-fourth.ensures _ (value_is c.args.h.now.j))).rows

pub returns-in_err-fifth : goal.returns-in_err-fifth
unfolding form_of used_form count_form
returns-in_err-fifth c =
    let p = err_from_is_err_and c.from_residual-in_err-fifth.result c.from_residual-in_err-fifth.ensures.1 in
    rw (p.1, p.2) (justice_wrong _ c.args.h.now c.requires.parts c.args.judged c.requires.text_len_bound _ c.requires.at_in_bounds _ (c.in_ok-first.ensures _ (value_is c.args.h.now.o)) _ (c.in_ok-second.ensures _ (value_is c.args.h.now.b)) _ (c.in_ok-third.ensures _ (value_is c.args.h.now.c)) _ (c.in_ok-fourth.ensures _ (value_is c.args.h.now.j)) _ (c.in_err-fifth.ensures _ c.total-literals.ensures))

pub plain_lines-requires-6-clause-at_in_bounds : goal.plain_lines-requires-6-clause-at_in_bounds
unfolding form_of used_form count_form
plain_lines-requires-6-clause-at_in_bounds c = (stage₅ _ c.args.h.now c.requires.parts c.args.judged c.requires.text_len_bound _ c.requires.at_in_bounds _ (c.in_ok-first.ensures _ (value_is c.args.h.now.o)) _ (c.in_ok-second.ensures _ (value_is c.args.h.now.b)) _ (c.in_ok-third.ensures _ (value_is c.args.h.now.c)) _ (c.in_ok-fourth.ensures _ (value_is c.args.h.now.j)) _ c.total-literals.ensures _ (c.in_ok-fifth.ensures _ c.total-literals.ensures)).inside

pub plain_lines-requires-6-clause-count_le_huge : goal.plain_lines-requires-6-clause-count_le_huge
plain_lines-requires-6-clause-count_le_huge c = at_most_huge _ _ (value_is c.args.h.now.f)

pub returns-in_err-sixth : goal.returns-in_err-sixth
unfolding form_of used_form count_form
returns-in_err-sixth c =
    let p = err_from_is_err_and c.from_residual-in_err-sixth.result c.from_residual-in_err-sixth.ensures.1 in
    rw (p.1, p.2) (fairness_wrong _ c.args.h.now c.requires.parts c.args.judged c.requires.text_len_bound _ c.requires.at_in_bounds _ (c.in_ok-first.ensures _ (value_is c.args.h.now.o)) _ (c.in_ok-second.ensures _ (value_is c.args.h.now.b)) _ (c.in_ok-third.ensures _ (value_is c.args.h.now.c)) _ (c.in_ok-fourth.ensures _ (value_is c.args.h.now.j)) _ c.total-literals.ensures _ (c.in_ok-fifth.ensures _ c.total-literals.ensures) _ (c.in_err-sixth.ensures _ (value_is c.args.h.now.f)))

pub returns : goal.returns
unfolding form_of used_form count_form
returns c = all_read _ c.args.h.now c.requires.parts c.args.judged c.requires.text_len_bound _ c.requires.at_in_bounds _ (c.in_ok-first.ensures _ (value_is c.args.h.now.o)) _ (c.in_ok-second.ensures _ (value_is c.args.h.now.b)) _ (c.in_ok-third.ensures _ (value_is c.args.h.now.c)) _ (c.in_ok-fourth.ensures _ (value_is c.args.h.now.j)) _ c.total-literals.ensures _ (c.in_ok-fifth.ensures _ c.total-literals.ensures) _ (c.in_ok-sixth.ensures _ (value_is c.args.h.now.f))

use Rattle.lines.specs.Numbers.{value_is}
use Rattle.std.proofs.lemmas.Result.{err_from_is_err_and}
use Rattle.sections.specs.Whole.{rows_placed}
use Rattle.circuit_text.specs.Sums.{at_most_huge}
use Rattle.circuit_text.specs.Read.{inputs_wrong, inputs_stage, latches_wrong, latches_stage, between_wrong, counted_all, lines_read}
use Rattle.circuit_text.proofs.read.read_lines.Goals as goal

pub read_section-requires-clause-count_le_huge : goal.read_section-requires-clause-count_le_huge
read_section-requires-clause-count_le_huge c = at_most_huge _ _ (value_is c.args.h.now.i)

pub returns-in_err-first : goal.returns-in_err-first
returns-in_err-first c =
    let p = err_from_is_err_and c.from_residual.result c.from_residual.ensures.1 in
    rw (p.1, p.2) (inputs_wrong _ c.args.h.now c.requires.parts c.args.judged c.requires.text_len_bound _ (c.in_err-first.ensures _ (value_is c.args.h.now.i)))

pub read_section-requires-2-clause-at_in_bounds : goal.read_section-requires-2-clause-at_in_bounds
read_section-requires-2-clause-at_in_bounds c = (inputs_stage _ c.args.h.now c.requires.parts c.args.judged c.requires.text_len_bound _ (c.in_ok-first.ensures _ (value_is c.args.h.now.i))).inside

pub read_section-requires-2-clause-count_le_huge : goal.read_section-requires-2-clause-count_le_huge
read_section-requires-2-clause-count_le_huge c = at_most_huge _ _ (value_is c.args.h.now.l)

pub read_section-requires-2-clause-placed : goal.read_section-requires-2-clause-placed
read_section-requires-2-clause-placed c = rows_placed (inputs_stage _ c.args.h.now c.requires.parts c.args.judged c.requires.text_len_bound _ (c.in_ok-first.ensures _ (value_is c.args.h.now.i))).rows

pub returns-in_err-second : goal.returns-in_err-second
returns-in_err-second c =
    let p = err_from_is_err_and c.from_residual-in_err-second.result c.from_residual-in_err-second.ensures.1 in
    rw (p.1, p.2) (latches_wrong _ c.args.h.now c.requires.parts c.args.judged c.requires.text_len_bound _ (c.in_ok-first.ensures _ (value_is c.args.h.now.i)) _ (c.in_err-second.ensures _ (value_is c.args.h.now.l)))

pub read_properties-requires-clause-at_in_bounds : goal.read_properties-requires-clause-at_in_bounds
read_properties-requires-clause-at_in_bounds c = (latches_stage _ c.args.h.now c.requires.parts c.args.judged c.requires.text_len_bound _ (c.in_ok-first.ensures _ (value_is c.args.h.now.i)) _ (c.in_ok-second.ensures _ (value_is c.args.h.now.l))).inside

pub returns-in_err-properties : goal.returns-in_err-properties
returns-in_err-properties c =
    let p = err_from_is_err_and c.from_residual-in_err-properties.result c.from_residual-in_err-properties.ensures.1 in
    rw (p.1, p.2) (between_wrong _ c.args.h.now c.requires.parts c.args.judged c.requires.text_len_bound _ (c.in_ok-first.ensures _ (value_is c.args.h.now.i)) _ (c.in_ok-second.ensures _ (value_is c.args.h.now.l)) _ c.in_err-properties.ensures)

pub read_gates-requires-clause-placed : goal.read_gates-requires-clause-placed
read_gates-requires-clause-placed c = rows_placed (inputs_stage _ c.args.h.now c.requires.parts c.args.judged c.requires.text_len_bound _ (c.in_ok-first.ensures _ (value_is c.args.h.now.i))).rows

pub read_gates-requires-clause-placed_2 : goal.read_gates-requires-clause-placed_2
read_gates-requires-clause-placed_2 c = rows_placed (latches_stage _ c.args.h.now c.requires.parts c.args.judged c.requires.text_len_bound _ (c.in_ok-first.ensures _ (value_is c.args.h.now.i)) _ (c.in_ok-second.ensures _ (value_is c.args.h.now.l))).rows

pub read_gates-requires-clause-counted : goal.read_gates-requires-clause-counted
read_gates-requires-clause-counted c = counted_all _ c.args.h.now c.requires.parts c.args.judged c.requires.text_len_bound _ (c.in_ok-first.ensures _ (value_is c.args.h.now.i)) _ (c.in_ok-second.ensures _ (value_is c.args.h.now.l)) _ _ c.in_ok-properties.ensures

pub returns : goal.returns
returns c = lines_read _ c.args.h.now c.requires.parts c.args.judged c.requires.text_len_bound _ (c.in_ok-first.ensures _ (value_is c.args.h.now.i)) _ (c.in_ok-second.ensures _ (value_is c.args.h.now.l)) _ _ c.in_ok-properties.ensures c.read_gates.result c.read_gates.ensures

use Rattle.lines.specs.Numbers.{value_is}
use Rattle.std.proofs.lemmas.Result.{err_from_is_err_and}
use Rattle.circuit_text.specs.Sums.{at_most_huge}
use Rattle.circuit_text.specs.Read.{gates_wrong, gates_stage, symbols_are_wrong, all_gates}
use Rattle.circuit_text.proofs.read.read_gates.Goals as goal

pub read_section-requires-clause-count_le_huge : goal.read_section-requires-clause-count_le_huge
read_section-requires-clause-count_le_huge c = at_most_huge _ _ (value_is c.args.h.now.a)

pub returns-in_err-last : goal.returns-in_err-last
returns-in_err-last c =
    let p = err_from_is_err_and c.from_residual.result c.from_residual.ensures.1 in
    rw (p.1, p.2) (gates_wrong _ c.args.h.now c.requires.parts c.args.judged c.requires.text_len_bound c.args.inputs c.args.latches c.args.properties _ c.requires.at_in_bounds c.requires.counted _ (c.in_err-last.ensures _ (value_is c.args.h.now.a)))

pub symbols_fault-requires-clause-at_in_bounds : goal.symbols_fault-requires-clause-at_in_bounds
symbols_fault-requires-clause-at_in_bounds c =
    (gates_stage _ c.args.h.now c.requires.parts c.args.judged c.requires.text_len_bound c.args.inputs c.args.latches c.args.properties _ c.requires.at_in_bounds c.requires.counted _ (c.in_ok-last.ensures _ (value_is c.args.h.now.a))).inside

pub returns-in_err-symbols_fault : goal.returns-in_err-symbols_fault
returns-in_err-symbols_fault c =
    let p = err_from_is_err_and c.from_residual-in_err-symbols_fault.result c.from_residual-in_err-symbols_fault.ensures.1 in
    rw (p.1, p.2) (symbols_are_wrong _ c.args.h.now c.requires.parts c.args.judged c.requires.text_len_bound c.args.inputs c.args.latches c.args.properties _ c.requires.at_in_bounds c.requires.counted _ (c.in_ok-last.ensures _ (value_is c.args.h.now.a)) _ c.in_err-symbols_fault.ensures)

pub returns : goal.returns
returns c = all_gates _ c.args.h.now c.requires.parts c.args.judged c.requires.text_len_bound c.args.inputs c.args.latches c.args.properties _ c.requires.at_in_bounds c.requires.counted _ (c.in_ok-last.ensures _ (value_is c.args.h.now.a)) _ c.in_ok-symbols_fault.ensures

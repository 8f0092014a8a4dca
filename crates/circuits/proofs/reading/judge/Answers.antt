use native.Mathlib.Omega.{arith}
use Rattle.circuits.specs.Reading.{few_latches, lemmas_wrong, liveness_wrong, limits_over, one_kept, text_kept, lemmas_kept, clauses_over, limits_kept}
use Rattle.circuits.proofs.reading.judge.Goals as goal

pub read_lemmas-requires : goal.read_lemmas-requires
read_lemmas-requires c = few_latches _ _ c.requires.whole (omega arith)

pub returns-in-Err : goal.returns-in-Err
returns-in-Err c = lemmas_wrong _ _ _ c.requires.whole c.requires.text_value _ c.in-Err.ensures

pub returns-then-has_liveness : goal.returns-then-has_liveness
returns-then-has_liveness c = liveness_wrong _ _ _ c.requires.whole c.requires.text_value _ c.in-Ok.ensures _ c.has_liveness.ensures c.if-has_liveness.true

pub returns-then-over_limits : goal.returns-then-over_limits
returns-then-over_limits c = limits_over _ _ _ c.requires.whole c.requires.text_value _ c.in-Ok.ensures _ c.has_liveness.ensures c.if-has_liveness.false _ c.over_limits.ensures c.if-over_limits.true

pub clause_count-requires-clause-one_bad : goal.clause_count-requires-clause-one_bad
clause_count-requires-clause-one_bad c =
    one_kept _ _ _ c.requires.whole c.requires.text_value _ c.in-Ok.ensures _ c.has_liveness.ensures c.if-has_liveness.false _ c.over_limits.ensures c.if-over_limits.false

pub clause_count-requires-clause-text_len_bound : goal.clause_count-requires-clause-text_len_bound
clause_count-requires-clause-text_len_bound c =
    text_kept _ _ _ c.requires.whole c.requires.text_value _ c.in-Ok.ensures _ c.has_liveness.ensures c.if-has_liveness.false _ c.over_limits.ensures c.if-over_limits.false

pub overflow_add-clause_count : goal.overflow_add-clause_count
overflow_add-clause_count c = omega (arith, lemmas_kept _ _ _ c.requires.whole c.requires.text_value _ c.in-Ok.ensures _ c.has_liveness.ensures c.if-has_liveness.false _ c.over_limits.ensures c.if-over_limits.false)

pub returns-then-clause_count-found-gt4096 : goal.returns-then-clause_count-found-gt4096
returns-then-clause_count-found-gt4096 c = clauses_over _ _ _ c.requires.whole c.requires.text_value _ c.in-Ok.ensures _ c.has_liveness.ensures c.if-has_liveness.false _ c.over_limits.ensures c.if-over_limits.false _ c.clause_count.ensures.0 c.if-clause_count-found-gt4096.true

pub returns : goal.returns
returns c = limits_kept _ _ _ c.requires.whole c.requires.text_value _ c.in-Ok.ensures _ c.has_liveness.ensures c.if-has_liveness.false _ c.over_limits.ensures c.if-over_limits.false _ c.clause_count.ensures.0 c.if-clause_count-found-gt4096.false

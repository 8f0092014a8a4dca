-- `clause_count::clause_count` meets its contract: gates and constraints are counted once and taken twice. Assumes nothing.
use native.Mathlib.Omega.{arith}
use mathlib.Core.Path.{ap, ◌∙◌}
use Rattle.clause_count.specs.declared.count.Kind.TheVariants as kind
use Rattle.clause_count.specs.Bad.{bad_rows}
use Rattle.clause_count.specs.Tally.{tally_of, lines_few, all_counted}
use Rattle.clause_count.proofs.clause_count.Goals as goal

pub lines_clauses-l-requires-clause-count_bound : goal.lines_clauses-l-requires-clause-count_bound
lines_clauses-l-requires-clause-count_bound c = lines_few _ 2 _ (omega arith) c.requires.whole.latches c.requires.text_len_bound

pub lines_clauses-g-requires-clause-count_bound : goal.lines_clauses-g-requires-clause-count_bound
lines_clauses-g-requires-clause-count_bound c = lines_few _ 3 _ (omega arith) c.requires.whole.gates c.requires.text_len_bound

pub lines_clauses-k-requires-clause-count_bound : goal.lines_clauses-k-requires-clause-count_bound
lines_clauses-k-requires-clause-count_bound c =
    lines_few _ 1 _ (omega arith) c.requires.whole.properties.constraints c.requires.text_len_bound

pub lines_clauses-b-requires-clause-rows_at : goal.lines_clauses-b-requires-clause-rows_at
lines_clauses-b-requires-clause-rows_at c = bad_rows _ _ _ c.bad_lines-bad.ensures c.requires.whole.properties

pub lines_clauses-b-requires-clause-count_bound : goal.lines_clauses-b-requires-clause-count_bound
lines_clauses-b-requires-clause-count_bound c =
    lines_few _ 1 _ (omega arith) (bad_rows _ _ _ c.bad_lines-bad.ensures c.requires.whole.properties) c.requires.text_len_bound

pub returns : goal.returns
returns c = (
  all_counted c.args.text.now c.args.c c.requires.one_bad _ _ _ _ c.lines_clauses-l.ensures.0 c.lines_clauses-g.ensures.0
      c.lines_clauses-k.ensures.0 (c.lines_clauses-b.ensures.0 ∙ ap (tally_of kind.One _) c.bad_lines-bad.ensures),
  omega arith,
)

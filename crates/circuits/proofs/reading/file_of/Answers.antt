use native.Mathlib.Omega.{arith}
use Rattle.circuits.specs.Reading.{texts_fit, texts_written}
use Rattle.circuits.proofs.reading.file_of.Goals as goal

pub write_problem-requires-clause-lemmas_in_bounds : goal.write_problem-requires-clause-lemmas_in_bounds
write_problem-requires-clause-lemmas_in_bounds c = omega (arith, texts_fit _ _ _ c.in_ok-c.ensures, c.requires)

pub returns : goal.returns
returns c = texts_written _ _ _ c.in_ok-c.ensures _ _ _ c.requires c.write_problem.ensures.0 c.write_problem.ensures.1

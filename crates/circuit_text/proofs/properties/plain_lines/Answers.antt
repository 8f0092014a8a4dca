use Rattle.meaning.specs.CircuitText.{defined_in}
use Rattle.sections.specs.Lists.{variables_of, first_lines}
use Rattle.circuit_text.proofs.properties.plain_lines.Goals as goal

pub returns : goal.returns
unfolding variables_of first_lines defined_in
returns c = λ n is. c.read_section.ensures n is

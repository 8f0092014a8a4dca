-- A circuit as it stands in its text, and the definition's circuit that it is.
use Rattle.std.specs.Prelude.{ℕ, ◌*◌, ◌≤◌, ◌≡◌, refl, List, [], ◌∷◌, map, length}
use Rattle.std.proofs.Common.{arith, ap, ◌∙◌}
use Rattle.std.proofs.Math.ListN.{length-map}
use Rattle.meaning.specs.Circuit
use Rattle.meaning.specs.Circuit.{Latch, Gate, var, variables, input_variables, latch_variables, gate_variables}
use Rattle.meaning.specs.CircuitText
use Rattle.meaning.specs.CircuitText.{Sections, Line, at_number, latch_of, gate_of, circuit_of, defined_in}
use Rattle.sections.specs.declared.find.Lines.{Lines}
use Rattle.sections.specs.declared.circuit.Circuit.{Circuit}
use Rattle.sections.specs.declared.circuit.Properties.{Properties}
use Rattle.sections.specs.Lists.{first_lines, Placed, variables_of, length_lines}
use Rattle.sections.specs.SectionLines.{Rows, rows_numbered, rows_inside}
use Rattle.sections.specs.Far.{rows_far}

unfoldable pub lines_of : List ℕ → Lines → List Line
lines_of text s = first_lines text s.at s.count

unfoldable pub properties_of : List ℕ → Properties → CircuitText.Properties
properties_of text p =
    record {
      outputs = lines_of text p.outputs;
      bads = lines_of text p.bads;
      constraints = lines_of text p.constraints;
      counts = lines_of text p.counts;
      justice = lines_of text p.justice;
      fairness = lines_of text p.fairness;
    }

unfoldable pub sections_of : List ℕ → Circuit → Sections
sections_of text c =
    record {
      inputs = lines_of text c.inputs;
      latches = lines_of text c.latches;
      properties = properties_of text c.properties;
      gates = lines_of text c.gates;
    }

-- the circuit that stands there
unfoldable pub circuit_at : List ℕ → Circuit → Circuit.Circuit
circuit_at text c = circuit_of (sections_of text c)

-- so many lines of a width at least
pub record RowsAt (text : List ℕ) (width : ℕ) (s : Lines) : Type 0 where
  pub inside : s.at ≤ length text
  pub rows : Rows text width s.at s.count

pub rows_placed : {text : List ℕ} {width : ℕ} {s : Lines} → RowsAt text width s → Placed text s
rows_placed {text} {width} {s} r = record { inside = r.inside; numbered = rows_numbered text width s.at s.count r.rows }

pub record PropertiesAt (text : List ℕ) (p : Properties) : Type 0 where
  pub outputs : RowsAt text 1 p.outputs
  pub bads : RowsAt text 1 p.bads
  pub constraints : RowsAt text 1 p.constraints
  pub counts : RowsAt text 1 p.counts
  pub justice : RowsAt text 1 p.justice
  pub fairness : RowsAt text 1 p.fairness

pub record Whole (text : List ℕ) (c : Circuit) : Type 0 where
  pub inputs : RowsAt text 1 c.inputs
  pub latches : RowsAt text 2 c.latches
  pub properties : PropertiesAt text c.properties
  pub gates : RowsAt text 3 c.gates

-- ---- its variables

map_map : {A B C : Type 0} (f : B → C) (g : A → B) (xs : List A) → map f (map g xs) ≡ map (λ a. f (g a)) xs
map_map f g [] = refl
map_map f g (x ∷ xs) = ap (λ l. f (g x) ∷ l) (map_map f g xs)

module _ (text : List ℕ) (c : Circuit) where
  pub inputs_are : input_variables (circuit_at text c) ≡ variables_of text c.inputs
  unfolding input_variables circuit_at circuit_of sections_of lines_of variables_of defined_in
  inputs_are = map_map var (at_number 0) (first_lines text c.inputs.at c.inputs.count)

  pub latches_are : latch_variables (circuit_at text c) ≡ variables_of text c.latches
  unfolding latch_variables circuit_at circuit_of sections_of lines_of variables_of defined_in latch_of
  latches_are = map_map (λ (q : Latch). var q.lit) latch_of (first_lines text c.latches.at c.latches.count)

  pub gates_are : gate_variables (circuit_at text c) ≡ variables_of text c.gates
  unfolding gate_variables circuit_at circuit_of sections_of lines_of variables_of defined_in gate_of
  gates_are = map_map (λ (g : Gate). var g.lit) gate_of (first_lines text c.gates.at c.gates.count)

  pub latch_count : length (circuit_at text c).latches ≡ c.latches.count
  unfolding circuit_at circuit_of sections_of lines_of
  latch_count =
      length-map (first_lines text c.latches.at c.latches.count) latch_of ∙ length_lines text c.latches.at c.latches.count

  pub input_count : length (circuit_at text c).inputs ≡ c.inputs.count
  unfolding circuit_at circuit_of sections_of lines_of
  input_count =
      length-map (first_lines text c.inputs.at c.inputs.count) (at_number 0) ∙ length_lines text c.inputs.at c.inputs.count

  -- the number of literals that stand on so many lines
  literal_count : (s : Lines) → length (map (at_number 0) (lines_of text s)) ≡ s.count
  unfolding lines_of
  literal_count s = length-map (first_lines text s.at s.count) (at_number 0) ∙ length_lines text s.at s.count

  pub output_count : length (circuit_at text c).outputs ≡ c.properties.outputs.count
  unfolding circuit_at circuit_of sections_of properties_of
  output_count = literal_count c.properties.outputs

  pub bad_count : length (circuit_at text c).bads ≡ c.properties.bads.count
  unfolding circuit_at circuit_of sections_of properties_of
  bad_count = literal_count c.properties.bads

  pub constraint_count : length (circuit_at text c).constraints ≡ c.properties.constraints.count
  unfolding circuit_at circuit_of sections_of properties_of
  constraint_count = literal_count c.properties.constraints

  pub justice_count : (circuit_at text c).justice ≡ c.properties.counts.count
  unfolding circuit_at circuit_of sections_of properties_of lines_of
  justice_count = length_lines text c.properties.counts.at c.properties.counts.count

  pub fairness_count : (circuit_at text c).fairness ≡ c.properties.fairness.count
  unfolding circuit_at circuit_of sections_of properties_of lines_of
  fairness_count = length_lines text c.properties.fairness.at c.properties.fairness.count

  pub gate_count : length (circuit_at text c).gates ≡ c.gates.count
  unfolding circuit_at circuit_of sections_of lines_of
  gate_count = length-map (first_lines text c.gates.at c.gates.count) gate_of ∙ length_lines text c.gates.at c.gates.count

-- lines of a width in a text: so few that twice the width for each is no more than its bytes
pub rows_few : {text : List ℕ} {s : Lines} (width step : ℕ) → step ≤ 2 * width → RowsAt text width s → step * s.count ≤ length text
rows_few {text} {s} width step least r =
    omega (
      arith,
      rows_far text width step least s.at s.count r.rows,
      rows_inside text width s.at s.count r.inside r.rows,
    )

-- `built::clause::put_clause` meets its contract. The loop's invariant: what is left to write are the literals of the edges from here on. Assumes
-- nothing.
use Rattle.std.specs.Prelude.{map, drop}
use Rattle.meaning.specs.Filed.{record_bytes}
use Rattle.built.specs.Edges.{edge_of}
use Rattle.built.specs.Clause.{edges_bytes}
use Rattle.records.specs.Puts.{Left}
use Rattle.built.proofs.clause.put_clause.Given as goal

abbrev pub invariant-loop-e : goal.invariant-loop-e
invariant-loop-e l =
    Left (record_bytes l.kind (edges_bytes (map edge_of l.edges))) l.fn.out (edges_bytes (map edge_of (drop l.e-index l.edges))) l.out

use mathlib.Core.Path.{sym}
use borrow.Author.Rules.{rules}
use native.Mathlib.Omega.{arith}
use Rattle.std.specs.Prelude.{◌<◌}
use Rattle.meaning.specs.CircuitText.{numbers_at}
use Rattle.meaning.specs.Filed.{clause_records}
use Rattle.records.specs.Puts.{Puts, HasRoom, puts_is, room_is}
use Rattle.sections.specs.Whole.{circuit_at}
use Rattle.built.specs.Sections.{latch_line, line_part, line_here, latches_are_parts}
use Rattle.built.proofs.latches.put_latches.Goals as goal

pub put_lines-requires : goal.put_lines-requires
put_lines-requires c =
    let a = c.args in
    record {
      width = 2;
      part = line_part 3 (latch_line (circuit_at a.text.now a.c)) a.text.now a.c.latches.at;
      rows = c.requires.small.whole.latches;
      room = room_is (latches_are_parts a.text.now a.c) c.requires.c_in_bounds;
      may = λ line i out less place row room.
          let few : i < 96 = omega (arith, less, c.requires.small.latches) in
          let here : HasRoom (clause_records 3 (latch_line (circuit_at a.text.now a.c) i (numbers_at a.text.now line))) out.now = room_is (line_here _ (latch_line (circuit_at a.text.now a.c)) _ _ _ _ place) room in
          search (rules, c.requires.small, few, row, here);
      writes = λ line i out u after place gave.
          let wrote : Puts (clause_records 3 (latch_line (circuit_at a.text.now a.c) i (numbers_at a.text.now line))) out.now after.now = search rules in
          puts_is (sym (line_here _ (latch_line (circuit_at a.text.now a.c)) _ _ _ _ place)) wrote;
    }

pub returns : goal.returns
returns c =
    let a = c.args in
    puts_is (sym (latches_are_parts a.text.now a.c))
    (c.put_lines.ensures _ (room_is (latches_are_parts a.text.now a.c) c.requires.c_in_bounds)
    (λ line i out u after place gave.
    let wrote : Puts (clause_records 3 (latch_line (circuit_at a.text.now a.c) i (numbers_at a.text.now line))) out.now after.now = search rules in
    puts_is (sym (line_here _ (latch_line (circuit_at a.text.now a.c)) _ _ _ _ place)) wrote))

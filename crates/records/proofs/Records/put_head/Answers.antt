-- Two bytes, and two behind them.
use Rattle.meaning.specs.Filed.{two}
use Rattle.records.specs.Puts.{HasRoom, room_rest, puts_both}
use Rattle.records.proofs.Records.put_head.Goals as goal
use Rattle.std.proofs.Common.{◌++◌}

pub put_two-requires-2-clause-at_in_bounds : goal.put_two-requires-2-clause-at_in_bounds
unfolding two
put_two-requires-2-clause-at_in_bounds c =
    let room : HasRoom (two c.args.len ++ two c.args.kind) c.args.self.now = record { fits = c.requires.at_in_bounds } in
    (room_rest _ _ room c.put_two.ensures).fits

pub returns : goal.returns
unfolding two
returns c =
    let room : HasRoom (two c.args.len ++ two c.args.kind) c.args.self.now = record { fits = c.requires.at_in_bounds } in
    puts_both _ _ room c.put_two.ensures c.put_two-2.ensures

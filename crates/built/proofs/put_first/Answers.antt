-- `built::put_first` meets its contract: the head, and behind it the two numbers. Assumes nothing.
use Rattle.built.specs.Cuts.{three_first, three_second, three_third, three_all}
use Rattle.built.specs.Problem.{first_split, two_room, head_room}
use Rattle.built.proofs.put_first.Goals as goal

pub put_head-requires-clause-at_in_bounds : goal.put_head-requires-clause-at_in_bounds
put_head-requires-clause-at_in_bounds c =
    head_room _ _ (three_first (first_split c.args.n c.args.m) c.requires.m_in_bounds)

pub put_two-requires-clause-at_in_bounds : goal.put_two-requires-clause-at_in_bounds
put_two-requires-clause-at_in_bounds c =
    two_room _ (three_second (first_split c.args.n c.args.m) c.requires.m_in_bounds c.put_head.ensures)

pub put_two-requires-2-clause-at_in_bounds : goal.put_two-requires-2-clause-at_in_bounds
put_two-requires-2-clause-at_in_bounds c =
    two_room _ (three_third (first_split c.args.n c.args.m) c.requires.m_in_bounds c.put_head.ensures c.put_two.ensures)

pub returns : goal.returns
returns c =
    three_all (first_split c.args.n c.args.m) c.requires.m_in_bounds c.put_head.ensures c.put_two.ensures c.put_two-2.ensures

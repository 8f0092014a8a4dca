-- `set_true` meets its contract: the one entry that is written says what the literal says.
use Rattle.passes.proofs.EntryLaws.{pos_range, neg_range, pos_set, neg_set}
use Rattle.passes.proofs.values.set_true.Goals as goal

pub bounds-values-x : goal.bounds-values-x
bounds-values-x c =
    pos_range c.args.l c.in-Pos.x c.in-Pos.is c.requires

pub bounds-values-x-in-Neg : goal.bounds-values-x-in-Neg
bounds-values-x-in-Neg c =
    neg_range c.args.l c.in-Neg.x c.in-Neg.is c.requires

pub returns-in-Pos : goal.returns-in-Pos
returns-in-Pos c =
    pos_set c.args.values.now c.args.l c.in-Pos.x c.in-Pos.is

pub returns-in-Neg : goal.returns-in-Neg
returns-in-Neg c =
    neg_set c.args.values.now c.args.l c.in-Neg.x c.in-Neg.is

-- The cycle of calls {branch, exclude, node} ends by three for each unit of fuel, one more at an exclude and two more at a branch.
use Prim.Native.Nat.{◌+◌, ◌*◌}
use Rattle.branches.proofs.nodes.+branch_exclude_node.Given as goal

abbrev pub decreases-branch : goal.decreases-branch
decreases-branch l = 3 * l.fuel + 2

abbrev pub decreases-exclude : goal.decreases-exclude
decreases-exclude l = 3 * l.fuel + 1

abbrev pub decreases-node : goal.decreases-node
decreases-node l = 3 * l.fuel

use Rattle.std.proofs.Common.{◌≡◌, take}
use Rattle.edit_simple.specs.Purge.{without}
use Rattle.edit_simple.proofs.purge.nodes_left.Given as goal

abbrev pub invariant-loop-node : goal.invariant-loop-node
invariant-loop-node g l = l.left ≡ without l.purged (take l.node-index l.nodes)

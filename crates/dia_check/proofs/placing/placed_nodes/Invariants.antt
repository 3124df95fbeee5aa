use Rattle.std.proofs.Common.{◌≡◌, ◌≤◌, length, map, take}
use Rattle.dia_check.specs.Placed.{placed_node}
use Rattle.dia_check.proofs.placing.placed_nodes.Given as goal

abbrev pub invariant-loop-node : goal.invariant-loop-node
invariant-loop-node l = (l.made ≡ map (placed_node l.fn.names) (take l.node-index l.node-items)) × (length l.made ≤ l.node-index)

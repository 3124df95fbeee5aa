use Rattle.std.proofs.Common.{◌≡◌, ◌++◌, length, map, take}
use Rattle.dbp_plan.specs.Operands.{moved_by}
use Rattle.dbp_plan.proofs.nodes.append.Given as goal

abbrev pub invariant-loop-node : goal.invariant-loop-node
invariant-loop-node g l = l.nodes ≡ l.initial.nodes ++ map (moved_by (length l.initial.nodes)) (take l.node-index l.node-items)

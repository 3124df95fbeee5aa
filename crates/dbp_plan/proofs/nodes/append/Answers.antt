use Rattle.std.proofs.Common.{◌≡◌, ◌+◌, ◌≤◌, ◌++◌, length, map, take, ◌∙◌, ap, arith, List}
use Rattle.std.proofs.lemmas.List.{take_all}
use Rattle.dbp_plan.specs.declared.node.Node.{Node}
use Rattle.dbp_plan.specs.Operands.{moved_by}
use Rattle.dbp_plan.specs.Tree.{nodes_of}
use Rattle.dbp_plan.specs.Expr.{tree_of}
use Rattle.dbp_plan.specs.ListItems.{read_place}
use Rattle.dbp_plan.proofs.TreeNodes.{nodes_of-moved, operands_within}
use Rattle.dbp_plan.proofs.nodes.append.Goals as goal

pub moved-requires-clause-operands : goal.moved-requires-clause-operands
moved-requires-clause-operands g c =
    let items = c.items-node-items.result.now in
    let is : items ≡ nodes_of 0 (tree_of c.args.expr.now) = c.items-node-items.ensures.value ∙ c.args.expr.now.tree.1 in
    let few : length items ≤ 65536 = omega (arith, ap length c.items-node-items.ensures.value, c.args.expr.now.few) in
    operands_within items (tree_of c.args.expr.now) 65536 is few c.loop-node.node-index c.node-item.result c.loop-node-test.true (read_place items c.loop-node.node-index c.node-item.result c.loop-node-test.true c.node-item.is)

pub returns : goal.returns
returns g c =
    let items = c.items-node-items.result.now in
    let is : items ≡ nodes_of 0 (tree_of c.args.expr.now) = c.items-node-items.ensures.value ∙ c.args.expr.now.tree.1 in
    let all : take c.loop-node.node-index items ≡ items = take_all _ _ (omega arith) in
    let by = length c.args.nodes.now in
    let moved : map (moved_by by) (take c.loop-node.node-index items) ≡ nodes_of (0 + by) (tree_of c.args.expr.now) = ap (λ (l : List (Node g.row.V.Denot)). map (moved_by by) l) (all ∙ is) ∙ nodes_of-moved by 0 (tree_of c.args.expr.now) in
    let place : 0 + by ≡ by = omega arith in
    c.loop-node.invariant ∙ ap (λ (l : List (Node g.row.V.Denot)). c.args.nodes.now ++ l) (moved ∙ ap (λ n. nodes_of n (tree_of c.args.expr.now)) place)

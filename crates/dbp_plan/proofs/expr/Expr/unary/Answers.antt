use Rattle.std.proofs.Common.{◌≡◌, ◌-◌, ◌∷◌, [], ap, arith, length, length-append}
use Rattle.dbp_plan.specs.Expr.{tree_of}
use Rattle.dbp_plan.specs.Tree.{unary, nodes_of}
use Rattle.dbp_plan.specs.declared.node.Node.TheVariants.{Un}
use Rattle.dbp_plan.specs.TreeLaws.{one_node}
use Rattle.dbp_plan.proofs.TreeNodes.{length-tree_of, joined_unary}
use Rattle.dbp_plan.proofs.expr.Expr.unary.Goals as goal

pub overflow_sub-root : goal.overflow_sub-root
overflow_sub-root g c = omega (arith, length-tree_of c.args.operand, one_node (tree_of c.args.operand))

pub invariant_of-result : goal.invariant_of-result
invariant_of-result g c =
    let e = c.args.operand in
    let root : c.len-root.result - 1 ≡ length e.nodes - 1 = ap (λ k. k - 1) c.len-root.ensures in
    let made : c.push.new.self ≡ nodes_of 0 (unary c.args.op (tree_of e)) = joined_unary c.args.op (tree_of e) e.nodes c.push.new.self (c.len-root.result - 1) e.tree.1 root c.in_ok-push.ensures.ok in
    record { tree = (unary c.args.op (tree_of e), made); few = omega (arith, ap length c.in_ok-push.ensures.ok, length-append e.nodes (Un c.args.op (c.len-root.result - 1) ∷ []), c.requires) }

pub returns : goal.returns
returns g c =
    let e = c.args.operand in
    let root : c.len-root.result - 1 ≡ length e.nodes - 1 = ap (λ k. k - 1) c.len-root.ensures in
    joined_unary c.args.op (tree_of e) e.nodes c.push.new.self (c.len-root.result - 1) e.tree.1 root c.in_ok-push.ensures.ok

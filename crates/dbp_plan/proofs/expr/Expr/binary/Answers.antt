use Rattle.std.proofs.Common.{◌≡◌, ◌-◌, ◌∷◌, [], ap, arith, length, length-append}
use Rattle.dbp_plan.specs.Expr.{tree_of}
use Rattle.dbp_plan.specs.Tree.{binary, nodes_of}
use Rattle.dbp_plan.specs.TreeLaws.{one_node}
use Rattle.dbp_plan.specs.declared.node.Node.TheVariants.{Bin}
use Rattle.dbp_plan.proofs.TreeNodes.{length-tree_of, length-joined, joined_binary}
use Rattle.dbp_plan.proofs.expr.Expr.binary.Goals as goal

pub overflow_sub-first : goal.overflow_sub-first
overflow_sub-first g c = omega (arith, length-tree_of c.args.left, one_node (tree_of c.args.left))

pub overflow_sub-second : goal.overflow_sub-second
overflow_sub-second g c =
    omega (arith, length-joined c.args.left.nodes c.append.new.nodes c.args.right.now c.in_ok-append.ensures, c.len-second.ensures, length-tree_of c.args.left, one_node (tree_of c.args.left))

pub push-requires : goal.push-requires
push-requires g c = omega (arith, length-joined c.args.left.nodes c.append.new.nodes c.args.right.now c.in_ok-append.ensures, c.requires)

pub invariant_of-result : goal.invariant_of-result
invariant_of-result g c =
    let l = c.args.left in
    let r = c.args.right.now in
    let first : c.len-first.result - 1 ≡ length l.nodes - 1 = ap (λ k. k - 1) c.len-first.ensures in
    let second : c.len-second.result - 1 ≡ length c.append.new.nodes - 1 = ap (λ k. k - 1) c.len-second.ensures in
    let made : c.push.new.self ≡ nodes_of 0 (binary c.args.op (tree_of l) (tree_of r)) = joined_binary c.args.op (tree_of l) (tree_of r) l.nodes c.append.new.nodes c.push.new.self (c.len-first.result - 1) (c.len-second.result - 1) l.tree.1 c.in_ok-append.ensures first second c.in_ok-push.ensures.ok in
    let size = length-joined l.nodes c.append.new.nodes r c.in_ok-append.ensures in
    record {
      tree = (binary c.args.op (tree_of l) (tree_of r), made);
      few = omega (arith, ap length c.in_ok-push.ensures.ok, length-append c.append.new.nodes (Bin c.args.op (c.len-first.result - 1) (c.len-second.result - 1) ∷ []), size, c.requires);
    }

pub returns : goal.returns
returns g c =
    let l = c.args.left in
    let r = c.args.right.now in
    let first : c.len-first.result - 1 ≡ length l.nodes - 1 = ap (λ k. k - 1) c.len-first.ensures in
    let second : c.len-second.result - 1 ≡ length c.append.new.nodes - 1 = ap (λ k. k - 1) c.len-second.ensures in
    joined_binary c.args.op (tree_of l) (tree_of r) l.nodes c.append.new.nodes c.push.new.self (c.len-first.result - 1) (c.len-second.result - 1) l.tree.1 c.in_ok-append.ensures first second c.in_ok-push.ensures.ok

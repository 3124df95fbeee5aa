use Rattle.std.proofs.Common.{◌≡◌, ◌-◌, ◌∷◌, [], ap, arith, length, length-append}
use Rattle.dbp_plan.specs.Expr.{tree_of}
use Rattle.dbp_plan.specs.Tree.{choice, nodes_of}
use Rattle.dbp_plan.specs.TreeLaws.{one_node}
use Rattle.dbp_plan.specs.declared.node.Node.TheVariants.{Pick}
use Rattle.dbp_plan.proofs.TreeNodes.{length-tree_of, length-joined, joined_choice}
use Rattle.dbp_plan.proofs.expr.Expr.choice.Goals as goal

pub overflow_sub-first : goal.overflow_sub-first
overflow_sub-first g c = omega (arith, length-tree_of c.args.condition, one_node (tree_of c.args.condition))

pub overflow_sub-second : goal.overflow_sub-second
overflow_sub-second g c =
    omega (arith, length-joined c.args.condition.nodes c.append.new.nodes c.args.one.now c.in_ok-append.ensures, c.len-second.ensures, length-tree_of c.args.condition, one_node (tree_of c.args.condition))

pub append-requires-2 : goal.append-requires-2
append-requires-2 g c = omega (arith, length-joined c.args.condition.nodes c.append.new.nodes c.args.one.now c.in_ok-append.ensures, c.requires)

pub overflow_sub-third : goal.overflow_sub-third
overflow_sub-third g c =
    let size = length-joined c.args.condition.nodes c.append.new.nodes c.args.one.now c.in_ok-append.ensures in
    let next = length-joined c.append.new.nodes c.append-2.new.nodes c.args.other.now c.in_ok-append-2.ensures in
    omega (arith, size, next, c.len-third.ensures, length-tree_of c.args.condition, one_node (tree_of c.args.condition))

pub push-requires : goal.push-requires
push-requires g c =
    let size = length-joined c.args.condition.nodes c.append.new.nodes c.args.one.now c.in_ok-append.ensures in
    let next = length-joined c.append.new.nodes c.append-2.new.nodes c.args.other.now c.in_ok-append-2.ensures in
    omega (arith, size, next, c.requires)

pub invariant_of-result : goal.invariant_of-result
invariant_of-result g c =
    let e = c.args.condition in
    let y = c.args.one.now in
    let n = c.args.other.now in
    let first : c.len-first.result - 1 ≡ length e.nodes - 1 = ap (λ k. k - 1) c.len-first.ensures in
    let second : c.len-second.result - 1 ≡ length c.append.new.nodes - 1 = ap (λ k. k - 1) c.len-second.ensures in
    let third : c.len-third.result - 1 ≡ length c.append-2.new.nodes - 1 = ap (λ k. k - 1) c.len-third.ensures in
    let made : c.push.new.self ≡ nodes_of 0 (choice (tree_of e) (tree_of y) (tree_of n)) = joined_choice (tree_of e) (tree_of y) (tree_of n) e.nodes c.append.new.nodes c.append-2.new.nodes c.push.new.self (c.len-first.result - 1) (c.len-second.result - 1) (c.len-third.result - 1) e.tree.1 c.in_ok-append.ensures c.in_ok-append-2.ensures first second third c.in_ok-push.ensures.ok in
    let size = length-joined e.nodes c.append.new.nodes y c.in_ok-append.ensures in
    let next = length-joined c.append.new.nodes c.append-2.new.nodes n c.in_ok-append-2.ensures in
    record {
      tree = (choice (tree_of e) (tree_of y) (tree_of n), made);
      few = omega (arith, ap length c.in_ok-push.ensures.ok, length-append c.append-2.new.nodes (Pick (c.len-first.result - 1) (c.len-second.result - 1) (c.len-third.result - 1) ∷ []), size, next, c.requires);
    }

pub returns : goal.returns
returns g c =
    let e = c.args.condition in
    let y = c.args.one.now in
    let n = c.args.other.now in
    let first : c.len-first.result - 1 ≡ length e.nodes - 1 = ap (λ k. k - 1) c.len-first.ensures in
    let second : c.len-second.result - 1 ≡ length c.append.new.nodes - 1 = ap (λ k. k - 1) c.len-second.ensures in
    let third : c.len-third.result - 1 ≡ length c.append-2.new.nodes - 1 = ap (λ k. k - 1) c.len-third.ensures in
    joined_choice (tree_of e) (tree_of y) (tree_of n) e.nodes c.append.new.nodes c.append-2.new.nodes c.push.new.self (c.len-first.result - 1) (c.len-second.result - 1) (c.len-third.result - 1) e.tree.1 c.in_ok-append.ensures c.in_ok-append-2.ensures first second third c.in_ok-push.ensures.ok

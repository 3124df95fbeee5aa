use Rattle.std.proofs.Common.{◌≡◌, ◌≤◌, ℕ, List, length, sym, ◌∙◌, subst}
use Rattle.dbp_plan.specs.declared.limits.TheConstants.{MAX_NODES}
use Rattle.dbp_plan.specs.declared.expr.Expr.{Expr}
use Rattle.dbp_plan.specs.declared.node.Node.{Node}
use Rattle.dbp_plan.specs.contracts.node.Node as node
use Rattle.dbp_plan.specs.Expr.{same_expr}
use Rattle.dbp_plan.specs.Tree.{HasTree}
use Rattle.dia_check.specs.Placed.{placed_expr, nodes-of-placed}
use Rattle.dia_check.proofs.placing.placed.Goals as goal
use denote.Builtin.{u32}

pub invariant_of-result : goal.invariant_of-result
invariant_of-result c =
    let e : Expr ℕ = placed_expr c.args.names.now c.args.expr.now in
    let same : e.nodes ≡ c.in_ok-nodes.nodes = nodes-of-placed c.args.names.now c.args.expr.now ∙ sym c.in_ok-nodes.ensures in
    record { tree = subst (λ nodes. HasTree nodes) same e.tree; few = subst (λ (nodes : List (Node ℕ)). length nodes ≤ MAX_NODES) same e.few }

pub returns : goal.returns
returns c = same_expr (node.the_row u32).coded _ (placed_expr c.args.names.now c.args.expr.now) (c.in_ok-nodes.ensures ∙ sym (nodes-of-placed c.args.names.now c.args.expr.now))

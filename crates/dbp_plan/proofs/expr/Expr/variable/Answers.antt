use Rattle.std.proofs.Common.{◌≡◌, ◌++◌, ◌∷◌, [], List, ◌∙◌, ap, arith, length}
use Rattle.dbp_plan.specs.Tree.{variable, nodes_of}
use Rattle.dbp_plan.specs.declared.node.Node.{Node}
use Rattle.dbp_plan.specs.declared.node.Node.TheVariants.{Var}
use Rattle.dbp_plan.proofs.expr.Expr.variable.Goals as goal

pub invariant_of-result : goal.invariant_of-result
invariant_of-result g c =
    let made : c.push.new.self ≡ nodes_of 0 (variable c.args.name) = c.in_ok-push.ensures.ok ∙ ap (λ (l : List (Node g.row.V.Denot)). l ++ Var c.args.name ∷ []) c.new-nodes.ensures in
    record { tree = (variable c.args.name, made); few = omega (arith, ap length made) }

pub returns : goal.returns
returns g c = c.in_ok-push.ensures.ok ∙ ap (λ (l : List (Node g.row.V.Denot)). l ++ Var c.args.name ∷ []) c.new-nodes.ensures

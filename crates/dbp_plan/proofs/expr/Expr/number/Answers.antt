use Rattle.std.proofs.Common.{◌≡◌, ◌++◌, ◌∷◌, [], List, ◌∙◌, ap, arith, length, rules, w64}
use Rattle.std.proofs.lemmas.Int.{to_z-of_z}
use Rattle.dbp_plan.specs.Tree.{number, nodes_of}
use Rattle.dbp_plan.specs.declared.node.Node.{Node}
use Rattle.dbp_plan.specs.declared.node.Node.TheVariants.{Num}
use Rattle.dbp_plan.proofs.expr.Expr.number.Goals as goal
use mir.Val.{to_z, of_z}

pub invariant_of-result : goal.invariant_of-result
invariant_of-result g c =
    let shown : to_z w64 (of_z w64 c.args.value) ≡ c.args.value = search (rules, to_z-of_z) in
    let made : c.push.new.self ≡ nodes_of 0 (number c.args.value) = (rw shown at c.in_ok-push.ensures.ok) ∙ ap (λ (l : List (Node g.row.V.Denot)). l ++ Num c.args.value ∷ []) c.new-nodes.ensures in
    record { tree = (number c.args.value, made); few = omega (arith, ap length made) }

pub returns : goal.returns
returns g c =
    let shown : to_z w64 (of_z w64 c.args.value) ≡ c.args.value = search (rules, to_z-of_z) in
    (rw shown at c.in_ok-push.ensures.ok) ∙ ap (λ (l : List (Node g.row.V.Denot)). l ++ Num c.args.value ∷ []) c.new-nodes.ensures

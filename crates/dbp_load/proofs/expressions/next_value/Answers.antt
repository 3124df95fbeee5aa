use Rattle.std.proofs.Common.{◌≡◌, ◌∙◌}
use Rattle.std.specs.Prelude.{pos}
use Rattle.std.proofs.lemmas.Result.{IfOk-weaker}
use Rattle.dbp_plan.specs.Expr.{IsExprOf, tree_of}
use Rattle.dbp_plan.specs.Tree.{binary, nodes_of, number, variable}
use Rattle.dbp_plan.specs.declared.node.BinOp.TheVariants.{Add}
use Rattle.dbp_load.specs.Expressions.{next_expr}
use Rattle.dbp_load.proofs.ExpressionNodes.{binary-known, same-nodes}
use Rattle.dbp_load.proofs.expressions.next_value.Goals as goal

pub returns : goal.returns
returns c =
    IfOk-weaker c.binary.result (λ e. IsExprOf e (binary Add (tree_of c.in_ok-state.state) (tree_of c.in_ok-one.one))) (λ e. e ≡ next_expr)
    (λ e is. same-nodes e next_expr (
    binary-known e c.in_ok-state.state c.in_ok-one.one Add (variable c.name.result) (number (pos 1)) is c.in_ok-state.ensures c.in_ok-one.ensures
    ∙ λ j. nodes_of 0 (binary Add (variable (c.name.ensures j)) (number (pos 1)))))
    c.binary.ensures

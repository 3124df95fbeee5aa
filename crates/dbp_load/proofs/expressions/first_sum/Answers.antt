use Rattle.std.proofs.Common.{◌∙◌, arith}
use Rattle.std.specs.Prelude.{pos}
use Rattle.std.proofs.lemmas.Result.{IfOk-weaker}
use Rattle.dbp_plan.specs.Expr.{IsExprOf, tree_of}
use Rattle.dbp_plan.specs.Tree.{binary, nodes_of, number, variable}
use Rattle.dbp_plan.specs.declared.node.BinOp.TheVariants.{Add, Mul}
use Rattle.dbp_load.specs.Expressions.{first_sum}
use Rattle.dbp_load.proofs.ExpressionNodes.{binary-known, nodes-known}
use Rattle.dbp_load.proofs.expressions.first_sum.Goals as goal

pub binary-requires-2 : goal.binary-requires-2
binary-requires-2 c =
    let product : IsExprOf c.in_ok-product.product (binary Mul (variable c.name.result) (number (pos 3))) =
    binary-known c.in_ok-product.product c.in_ok-state.state c.in_ok-three.three Mul (variable c.name.result) (number (pos 3)) c.in_ok-product.ensures c.in_ok-state.ensures c.in_ok-three.ensures in
    omega (
      arith,
      nodes-known c.in_ok-product.product (binary Mul (variable c.name.result) (number (pos 3))) product,
      nodes-known c.in_ok-input.input (variable c.name-2.result) c.in_ok-input.ensures,
    )

pub returns : goal.returns
returns c =
    let product : IsExprOf c.in_ok-product.product (binary Mul (variable c.name.result) (number (pos 3))) =
    binary-known c.in_ok-product.product c.in_ok-state.state c.in_ok-three.three Mul (variable c.name.result) (number (pos 3)) c.in_ok-product.ensures c.in_ok-state.ensures c.in_ok-three.ensures in
    IfOk-weaker c.binary-2.result (λ e. IsExprOf e (binary Add (tree_of c.in_ok-product.product) (tree_of c.in_ok-input.input))) (λ e. IsExprOf e first_sum)
    (λ e is. binary-known e c.in_ok-product.product c.in_ok-input.input Add (binary Mul (variable c.name.result) (number (pos 3))) (variable c.name-2.result) is product c.in_ok-input.ensures
    ∙ λ j. nodes_of 0 (binary Add (binary Mul (variable (c.name.ensures j)) (number (pos 3))) (variable (c.name-2.ensures j))))
    c.binary-2.ensures

use Rattle.std.proofs.Common.{◌≡◌, ◌+◌, List, [], ◌∷◌, ◌++◌, ℕ, take, arith, sym, ap, ◌∙◌}
use Rattle.std.specs.Prelude.{fold, pos}
use Rattle.std.proofs.lemmas.List.{length-take, take_all}
use Rattle.std.proofs.lemmas.Result.{IfOk-weaker}
use Rattle.dbp_plan.specs.Expr.{IsExprOf, tree_of}
use Rattle.dbp_plan.specs.Tree.{binary, nodes_of, number, variable}
use Rattle.dbp_plan.specs.declared.node.BinOp.TheVariants.{Add, Rem}
use Rattle.dbp_plan.proofs.ListParts.{take-next}
use Rattle.dbp_load.specs.Expressions.{first_sum, out_tree, size-added, with_read}
use Rattle.dbp_load.proofs.ExpressionNodes.{binary-known, fold-push, nodes-known}
use Rattle.dbp_load.proofs.expressions.out_value.Goals as goal

pub binary-requires-2 : goal.binary-requires-2
binary-requires-2 c =
    let front = take c.loop-read.read-index c.args.reads.now in
    omega (
      arith,
      nodes-known c.loop-read.sum (fold with_read first_sum front) c.loop-read.invariant,
      size-added first_sum front,
      length-take c.loop-read.read-index c.args.reads.now,
      nodes-known c.in_ok-thousand.thousand (number (pos 1000)) c.in_ok-thousand.ensures,
      c.requires,
    )

pub loop-read-preserved : goal.loop-read-preserved
loop-read-preserved c =
    let reads = c.args.reads.now in
    let k = c.loop-read.read-index in
    let x = c.read-item.result in
    let front = take k reads in
    let more : take (k + 1) reads ≡ front ++ x ∷ [] = take-next reads k x c.loop-read-test.true c.read-item.is in
    binary-known c.in_ok-sum-2.sum c.loop-read.sum c.in_ok-value.value Add (fold with_read first_sum front) (variable x) c.in_ok-sum-2.ensures c.loop-read.invariant c.in_ok-value.ensures
    ∙ ap (nodes_of 0) (sym (ap (fold with_read first_sum) more ∙ fold-push with_read first_sum front x))

pub returns : goal.returns
returns c =
    let reads = c.args.reads.now in
    let front = take c.loop-read.read-index reads in
    let all : front ≡ reads = take_all c.loop-read.read-index reads (omega arith) in
    IfOk-weaker c.binary-2.result (λ e. IsExprOf e (binary Rem (tree_of c.loop-read.sum) (tree_of c.in_ok-thousand.thousand))) (λ e. IsExprOf e (out_tree reads))
    (λ e is. binary-known e c.loop-read.sum c.in_ok-thousand.thousand Rem (fold with_read first_sum front) (number (pos 1000)) is c.loop-read.invariant c.in_ok-thousand.ensures
    ∙ ap (λ (rs : List (List ℕ)). nodes_of 0 (out_tree rs)) all)
    c.binary-2.ensures

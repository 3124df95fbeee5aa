use Rattle.std.proofs.Common.{◌≡◌, ℕ, pos, get_or, refl, arith}
use Rattle.std.proofs.lemmas.Option.{slice_get-get_or}
use Rattle.dbp_plan.specs.declared.node.Node.{Node}
use Rattle.dbp_plan.specs.declared.node.Node.TheVariants.{Num}
use Rattle.expr_eval.proofs.LetUses.{let_read, use_read, use_place, used_node, unused_node, variables_more}
use Rattle.expr_eval.proofs.variable.uses.Goals as goal

pub returns-then-eq : goal.returns-then-eq
returns-then-eq c =
    let nodes = c.items-node-items.result.now in
    let user = get_or c.items.result.now c.args.user c.index-items-user.result in
    let node : Node ℕ = get_or nodes c.loop-node.node-index (Num (pos 0)) in
    let there = let_read c.args.lets.now c.items.result.now c.args.user c.index-items-user.result c.items.ensures.value c.requires in
    let here = slice_get-get_or nodes c.loop-node.node-index (Num (pos 0)) c.loop-node-test.true in
    use_read c.args.base c.args.lets.now c.args.user c.args.used user nodes c.loop-node.node-index node there c.items-node-items.ensures.value here (used_node c.used_let.result c.args.base c.args.used node c.used_let.ensures c.if-eq.ensures)

pub loop-node-preserved : goal.loop-node-preserved
loop-node-preserved c =
    let nodes = c.items-node-items.result.now in
    let node : Node ℕ = get_or nodes c.loop-node.node-index (Num (pos 0)) in
    let here = slice_get-get_or nodes c.loop-node.node-index (Num (pos 0)) c.loop-node-test.true in
    variables_more (λ j. j ≡ c.args.used → ⊥) c.args.base nodes c.loop-node.node-index node here (unused_node c.used_let.result c.args.base c.args.used node c.used_let.ensures c.if-eq.ensures) c.loop-node.invariant

pub returns : goal.returns
returns c = λ used.
    let user = get_or c.items.result.now c.args.user c.index-items-user.result in
    let there = let_read c.args.lets.now c.items.result.now c.args.user c.index-items-user.result c.items.ensures.value c.requires in
    let at = use_place c.args.base c.args.lets.now c.args.user c.args.used user c.items-node-items.result.now there c.items-node-items.ensures.value used in
    c.loop-node.invariant at.0 c.args.used (omega (arith, at.1)) at.2 refl

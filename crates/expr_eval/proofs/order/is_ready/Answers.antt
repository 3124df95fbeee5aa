use Rattle.std.proofs.Common.{◌≡◌, ℕ, pos, ◌+◌, Contains, get_or, arith}
use Rattle.std.proofs.lemmas.Option.{slice_get-get_or}
use Rattle.dbp_plan.specs.declared.node.Node.{Node}
use Rattle.dbp_plan.specs.declared.node.Node.TheVariants.{Num, Var}
use Rattle.expr_eval.proofs.LetUses.{let_read, use_read, use_place, variables_more}
use Rattle.expr_eval.proofs.order.is_ready.Goals as goal

pub returns-then-refers_to_another : goal.returns-then-refers_to_another
returns-then-refers_to_another c =
    let nodes = c.items-node-items.result.now in
    let user = get_or c.items.result.now c.args.user c.index-items-user.result in
    let node : Node ℕ = get_or nodes c.loop-node.node-index (Num (pos 0)) in
    let there = let_read c.args.lets.now c.items.result.now c.args.user c.index-items-user.result c.items.ensures.value c.requires in
    let here = slice_get-get_or nodes c.loop-node.node-index (Num (pos 0)) c.loop-node-test.true in
    let other : (j : ℕ) × (node ≡ Var (c.args.base + j)) × (Contains c.args.placed.now j → ⊥) = c.if-refers_to_another.ensures in
    (other.0, use_read c.args.base c.args.lets.now c.args.user other.0 user nodes c.loop-node.node-index node there c.items-node-items.ensures.value here other.1, other.2)

pub loop-node-preserved : goal.loop-node-preserved
loop-node-preserved c =
    let nodes = c.items-node-items.result.now in
    let node : Node ℕ = get_or nodes c.loop-node.node-index (Num (pos 0)) in
    let here = slice_get-get_or nodes c.loop-node.node-index (Num (pos 0)) c.loop-node-test.true in
    variables_more (λ j. Contains c.args.placed.now j) c.args.base nodes c.loop-node.node-index node here c.if-refers_to_another.ensures c.loop-node.invariant

pub returns : goal.returns
returns c = λ j used.
    let user = get_or c.items.result.now c.args.user c.index-items-user.result in
    let there = let_read c.args.lets.now c.items.result.now c.args.user c.index-items-user.result c.items.ensures.value c.requires in
    let at = use_place c.args.base c.args.lets.now c.args.user j user c.items-node-items.result.now there c.items-node-items.ensures.value used in
    c.loop-node.invariant at.0 j (omega (arith, at.1)) at.2

use Rattle.std.proofs.Common.{arith, ◌∙◌}
use Rattle.dia_print.proofs.TreePlaces.{stands-whole, some-node}
use Rattle.dia_print.proofs.expression.push_expression.Goals as goal

pub overflow_sub-len : goal.overflow_sub-len
overflow_sub-len c = let e = c.args.expr.now in omega (arith, c.len.ensures, some-node e.nodes e.tree.0 e.tree.1)

pub push_tree-requires : goal.push_tree-requires
push_tree-requires c =
    let e = c.args.expr.now in
    let items = c.items-nodes.ensures.value in
    (e.tree.0, stands-whole c.items-nodes.result.now e.tree.0 c.len.result (items ∙ e.tree.1) (rw items c.len.ensures))

pub returns : goal.returns
returns c =
    let e = c.args.expr.now in
    let items = c.items-nodes.ensures.value in
    c.push_tree.ensures e.tree.0 (stands-whole c.items-nodes.result.now e.tree.0 c.len.result (items ∙ e.tree.1) (rw items c.len.ensures))

use Rattle.std.proofs.Common.{ap, ◌∙◌}
use Rattle.dbp_plan.specs.Tree.{nodes_of}
use Rattle.dia_exprs.specs.Grammar.{Expression}
use Rattle.dia_exprs.proofs.AllTokens.{one-spelled}
use Rattle.dia_exprs.proofs.parse.expression.Goals as goal

pub returns-clause-only : goal.returns-clause-only
returns-clause-only c t d =
    let held = c.in_ok-nodes.ensures.found in
    held.2 ∙ ap (λ (x : Expression). nodes_of 0 x) (one-spelled c.args.tokens.now held.0 t held.1 d)

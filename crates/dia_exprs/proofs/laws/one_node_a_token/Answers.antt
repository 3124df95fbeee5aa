use Rattle.dia_exprs.specs.declared.level.Level.TheVariants.{Whole}
use Rattle.dia_exprs.proofs.Sizes.{one-node-a-token}
use Rattle.dia_exprs.proofs.laws.one_node_a_token.Goals as goal

pub returns : goal.returns
returns c = one-node-a-token Whole

use Rattle.dbp_top.proofs.CommandRows.{one-command}
use Rattle.dbp_top.proofs.laws.one_command.Goals as goal

pub returns : goal.returns
returns c = one-command

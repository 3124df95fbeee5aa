use Rattle.dbp_replay.proofs.CheckedNames.{checked-names}
use Rattle.dbp_replay.proofs.PrintedScripts.{script-again}
use Rattle.dbp_replay.proofs.laws.printed_script_again.Goals as goal

pub returns-clause-named : goal.returns-clause-named
returns-clause-named c = script-again

pub returns-clause-checked : goal.returns-clause-checked
returns-clause-checked c source doc d steps printable lines checked = script-again d doc steps (checked-names source d printable lines checked)

use Rattle.dbp_load.proofs.NameTexts.{task-name}
use Rattle.dbp_load.proofs.names.task_name.Goals as goal

pub numbered-requires-clause-name : goal.numbered-requires-clause-name
numbered-requires-clause-name c = task-name c.args.number c.requires

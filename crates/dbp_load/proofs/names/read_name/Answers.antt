use Rattle.dbp_load.proofs.NameTexts.{read-name}
use Rattle.dbp_load.proofs.names.read_name.Goals as goal

pub name-requires : goal.name-requires
name-requires c = read-name c.args.number c.requires

use Rattle.dbp_plan.proofs.NameLaws.{name_text}
use Rattle.dbp_plan.proofs.name.NameDebug.fmt.Goals as goal

pub unreachable-requires : goal.unreachable-requires
unreachable-requires g c = c.in-Err.ensures.cases.0 (rw c.bytes.ensures.value (name_text c.args.self.now c.bytes.ensures.name))

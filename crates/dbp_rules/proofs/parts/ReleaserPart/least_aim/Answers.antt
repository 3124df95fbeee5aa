use Rattle.dbp_rules.proofs.FreeAims.{exact_aim}
use Rattle.dbp_rules.proofs.parts.ReleaserPart.least_aim.Goals as goal

pub returns : goal.returns
returns c = exact_aim c.args.wiring.now c.args.self.now c.args.task c.least_free.result c.requires.next c.requires.ended c.least_free.ensures

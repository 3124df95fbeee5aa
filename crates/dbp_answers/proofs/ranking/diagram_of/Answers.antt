use Rattle.dbp_answers.proofs.RankStops.{rank-memory, shape-memory}
use Rattle.dbp_answers.proofs.ranking.diagram_of.Goals as goal

pub no_memory-requires : goal.no_memory-requires
no_memory-requires c = shape-memory c.args.doc.now c.in-Err.fail c.requires.faultless c.in-Err.ensures.fault

pub no_memory-requires-in-Err-ranked : goal.no_memory-requires-in-Err-ranked
no_memory-requires-in-Err-ranked c = rank-memory c.args.doc.now c.in-Ok.shaped c.in-Err-ranked.fail c.requires.faultless c.in-Ok.ensures.found c.in-Err-ranked.ensures.fault

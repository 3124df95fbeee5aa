use Rattle.dbp_top.specs.Commands.{serves_all}
use Rattle.dbp_top.proofs.Endings.{answered-without-faults}
use Rattle.dbp_top.proofs.top.dbp_main.Goals as goal

pub returns-clause-answered : goal.returns-clause-answered
returns-clause-answered g c =
    answered-without-faults g.S.Source.left g.S.Source.faults g.S.Source.ends g.K.Sink.written g.K.Sink.faults serves_all c.args.arguments.now c.args.source.now c.ending.new.source c.args.sink.now c.ending.new.sink c.ending.result c.ending.ensures.ends

use Rattle.dbp_answers.specs.Commands.{serves_plain}
use Rattle.dbp_top.proofs.Endings.{answered-without-faults}
use Rattle.dbp_top.proofs.top.plain_main.Goals as goal

pub returns-clause-answered : goal.returns-clause-answered
returns-clause-answered g c =
    answered-without-faults g.S.Source.left g.S.Source.faults g.S.Source.ends g.K.Sink.written g.K.Sink.faults serves_plain c.args.arguments.now c.args.source.now c.plain_ending.new.source c.args.sink.now c.plain_ending.new.sink c.plain_ending.result c.plain_ending.ensures

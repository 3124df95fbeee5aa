use Rattle.dbp_answers.specs.Answer.{made}
use Rattle.dbp_answers.proofs.StopLaws.{stop-answered}
use Rattle.dbp_answers.proofs.answers.answer.Goals as goal

pub returns-in-Ok : goal.returns-in-Ok
returns-in-Ok c = made c.in-Ok.text.items c.in-Ok.ensures.text

pub returns-in-Err : goal.returns-in-Err
returns-in-Err c = stop-answered (λ text. text.items) c.in-Err.stop c.stop_answer.result c.stop_answer.ensures.answer c.args.input.now c.args.command c.in-Err.ensures.stop
